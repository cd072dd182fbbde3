use Rattle.std.proofs.Common.{◌≤◌, not, Option, Some, sym, subst, arith}
use Rattle.series_model.specs.Series.{forms_of, IsValue}
use Rattle.series_model.specs.SeriesVerdicts.{verdict_of}
use Rattle.series_tree.specs.Shape.{open_leaves}
use Rattle.series_check.specs.Answers.{IsJudged}
use Rattle.series_check.specs.Cuts.{problem_of}
use Rattle.series_outcome.specs.declared.known.Known.{Known}
use Rattle.series_outcome.specs.declared.outcome.SeriesOutcome.{SeriesOutcome}
use Rattle.series_outcome.specs.declared.outcome.SeriesOutcome.TheVariants.{Found}
use Rattle.series_outcome.specs.Assemblies.{IsNoWorse}
use Rattle.series_outcome.specs.Searches.{value_known, IsKnown}
use Rattle.series_outcome.proofs.OutcomeLaws.{found_shown, none_shown, closed_mark}
use Rattle.series_outcome.proofs.fallback.outcome_of.Goals as goal

pub returns-clause-shown : goal.returns-clause-shown
returns-clause-shown c T budget is spent =
    let Q = problem_of c.args.setting.now in
    let k = open_leaves c.args.nodes.now in
    let known = c.in-Some.known in
    let series : IsKnown Q (Some known) = subst (λ (o : Option Known). IsKnown Q o) c.in-Some.is c.requires.known in
    let gives = subst (λ (o : Option Known). IsJudged Q (value_known o) T (verdict_of (value_known o) k)) c.in-Some.is is in
    found_shown Q T budget c.in_ok-forms.forms known.value k c.has_open_leaf-is_open.result c.has_open_leaf-is_open.ensures.0 c.has_open_leaf-is_open.ensures.1 c.in_ok-forms.ensures.list (c.in_ok-forms.ensures.value known.value series.1) gives spent

pub returns-clause-keeps : goal.returns-clause-keeps
returns-clause-keeps c =
    let Q = problem_of c.args.setting.now in
    let known = c.in-Some.known in
    let forms = c.in_ok-forms.forms in
    let series : IsKnown Q (Some known) = subst (λ (o : Option Known). IsKnown Q o) c.in-Some.is c.requires.known in
    let value : IsValue Q (forms_of forms) known.value = c.in_ok-forms.ensures.value known.value series.1 in
    let low : known.value ≤ known.value = omega arith in
    let found : SeriesOutcome = Found forms (not c.has_open_leaf-is_open.result) in
    let keeps : IsNoWorse Q (Some known.value) found = (known.value, value, low) in
    subst (λ (o : Option Known). IsNoWorse Q (value_known o) found) (sym c.in-Some.is) keeps

pub returns-clause-decided : goal.returns-clause-decided
returns-clause-decided c none = closed_mark c.has_open_leaf-is_open.result (open_leaves c.args.nodes.now) c.has_open_leaf-is_open.ensures.0 none

pub returns-then-is_open-clause-shown : goal.returns-then-is_open-clause-shown
returns-then-is_open-clause-shown c T budget is spent =
    let Q = problem_of c.args.setting.now in
    let k = open_leaves c.args.nodes.now in
    none_shown Q T budget k (c.has_open_leaf-is_open.ensures.0 c.if-is_open.true) (subst (λ (o : Option Known). IsJudged Q (value_known o) T (verdict_of (value_known o) k)) c.in_default.is is) spent
