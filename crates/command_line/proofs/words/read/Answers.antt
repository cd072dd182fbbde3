use Rattle.std.proofs.Common.{rules, ap, ap₂, codes, map, List, [], ◌≡◌, ◌∙◌, Option, string_bytes, true}
use Rattle.std.specs.Option.{unwrap_or}
use Rattle.std.proofs.lemmas.Result.{IfErr-weaker, IfOk-weaker}
use Rattle.clap.specs.Walk.{Text, rule_of, all_of}
use Rattle.clap.specs.Simple.{App, app_of, app_of_fields, is_simple, new_app, with_rule, matches_of}
use Rattle.clap.specs.Matches.{found_of}
use Rattle.clap.specs.declared.builder.command.Command.{Command}
use Rattle.clap.specs.declared.builder.command.Command.TheOpen.{Command-F}
use Rattle.clap.specs.Takes.{takes}
use Rattle.clap.proofs.WalkLemmas.{raw_values-rows}
use Rattle.command_line.specs.Commands.{is_no_name}
use Rattle.command_line.proofs.Walking.{app, words_rule, all_given, all_taken, any_mapped}
use Rattle.command_line.proofs.words.read.Goals as goal

pub returns : goal.returns
returns c =
    let rule_is : rule_of c.action-all.result ≡ words_rule = search rules in
    let fields = c.disable_help_flag.ensures ∙ ap (λ (f : Command-F Command). record f { disable_help_flag = true }) c.no_binary_name.ensures in
    let bare : app_of c.disable_help_flag.result ≡ record { top = record (new_app (codes "shadowd")).top { no_binary_name = true; disable_help_flag = true }; subs = [] } =
    ap app_of_fields fields ∙ ap (λ (a : App). record { top = record a.top { no_binary_name = true; disable_help_flag = true }; subs = a.subs }) c.new-2.ensures.app in
    let app_is : app_of c.in_ok-line.line ≡ app = c.in_ok-line.ensures.shape (search rules) ∙ ap₂ with_rule bare rule_is in
    let parse = c.try_get_matches_from in
    let words = map (λ w. string_bytes w) c.args.words.now in
    let named = any_mapped is_no_name (λ w. string_bytes w) c.args.words.now ∙ c.requires in
    record {
      ok = IfOk-weaker parse.result _ _ (λ m f. ap (λ (o : Option (List Text)). unwrap_or o []) (raw_values-rows (found_of m) (codes "words") ∙ ap (all_of (codes "words")) ((f (ap is_simple app_is)).0 ∙ ap (λ a. matches_of a words) app_is)) ∙ all_given words named) parse.ensures.matches;
      err = IfErr-weaker parse.result _ _ (λ e f. f (ap (λ a. takes a words) app_is ∙ all_taken words named)) parse.ensures.passes;
    }
