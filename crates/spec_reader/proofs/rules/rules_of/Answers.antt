use Rattle.std.proofs.Common.{◌<◌, ◌+◌, ℕ, List, Bor, [], map, length, get_or, sym, arith}
use Rattle.std.proofs.lemmas.Grind.{common_steps}
use Rattle.std.proofs.lemmas.Result.{err_from_is_err_and}
use Rattle.std.proofs.lemmas.List.{length-map}
use Rattle.exam_text.proofs.Firsts.{steps_fail_or}
use Rattle.spec_reader.specs.Rules.{Said, said}
use Rattle.spec_reader.specs.Lines.{next_rule, rules_of}
use Rattle.spec_reader.specs.declared.line_fault.LineFault.TheVariants.{Memory}
use Rattle.spec_reader.proofs.rules.rules_of.Goals as goal

pub returns-in_err-next_rule : goal.returns-in_err-next_rule
unfolding rules_of
returns-in_err-next_rule c =
    let p = err_from_is_err_and c.from_residual.result c.from_residual.ensures.1 in
    let lines : List (List ℕ) = map (λ (w : Bor (List ℕ)). w.now) c.args.lines.now in
    let i = c.loop-i.i in
    let lt : i < length lines = rw length-map c.loop-i-test.true in
    rw (p.1, p.2) (steps_fail_or Memory (length lines) i (λ i (rules : List Said). next_rule (i + 1) (get_or lines i []) rules) [] (map said c.loop-i.rules.items) c.in_err-next_rule.field-0.0 c.loop-i.invariant lt (rw (sym c.word_at.ensures) c.in_err-next_rule.ensures))

pub loop-i-preserved : goal.loop-i-preserved
loop-i-preserved c = grind (arith, common_steps)

pub returns : goal.returns
unfolding rules_of
returns c = grind (arith, common_steps)
