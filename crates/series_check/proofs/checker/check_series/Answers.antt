use Rattle.std.proofs.Common.{ℕ, Option, Some, None, inl, refl}
use Rattle.series_model.specs.declared.verdict.SeriesVerdict.{SeriesVerdict}
use Rattle.series_model.specs.Series.{SeriesProblem}
use Rattle.series_model.specs.SeriesTrees.{Certificate}
use Rattle.series_model.specs.SeriesVerdicts.{IsSeriesVerdict}
use Rattle.series_check.specs.Answers.{IsJudged}
use Rattle.series_check.proofs.WalkLaws.{best_clause, at_most_clause, none_clause}
use Rattle.series_check.proofs.checker.check_series.Goals as goal

-- without a series there is no number that a series may not exceed
without : (Q : SeriesProblem) (at_most : Option ℕ) (T : Certificate) (verdict : SeriesVerdict) → IsJudged Q None T verdict → IsSeriesVerdict Q None at_most T verdict
without Q at_most T verdict gives = inl (tt, (None, refl, gives))

pub returns-in-Some-clause-best : goal.returns-in-Some-clause-best
returns-in-Some-clause-best c e d = rw c.in-Some.is (best_clause _ (Some c.in-Some.sets.now) c.args.at_most c.args.tree.now c.judged_with.result c.judged_with.ensures e d)

pub returns-in-Some-clause-at_most : goal.returns-in-Some-clause-at_most
returns-in-Some-clause-at_most c top e d = at_most_clause _ (Some c.in-Some.sets.now) c.args.at_most c.args.tree.now c.judged_with.result top c.judged_with.ensures e d

pub returns-in-Some-clause-none : goal.returns-in-Some-clause-none
returns-in-Some-clause-none c e = none_clause _ (Some c.in-Some.sets.now) c.args.at_most c.args.tree.now c.judged_with.result c.judged_with.ensures e

pub returns-in-None-clause-best : goal.returns-in-None-clause-best
returns-in-None-clause-best c e d = rw c.in-None.is (best_clause _ None c.args.at_most c.args.tree.now c.judged.result (without _ c.args.at_most c.args.tree.now c.judged.result c.judged.ensures) e d)

pub returns-in-None-clause-at_most : goal.returns-in-None-clause-at_most
returns-in-None-clause-at_most c top e d = at_most_clause _ None c.args.at_most c.args.tree.now c.judged.result top (without _ c.args.at_most c.args.tree.now c.judged.result c.judged.ensures) e d

pub returns-in-None-clause-none : goal.returns-in-None-clause-none
returns-in-None-clause-none c e = none_clause _ None c.args.at_most c.args.tree.now c.judged.result (without _ c.args.at_most c.args.tree.now c.judged.result c.judged.ensures) e
