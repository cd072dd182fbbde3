use Rattle.std.proofs.Common.{ℕ, List, [], ◌∷◌}
use Rattle.series_check.specs.Cuts.{problem_of}
use Rattle.series_model.specs.Series.{forms_of}
use Rattle.series_outcome.specs.Searches.{value_known}
use Rattle.series_outcome.proofs.KnownLaws.{settled_good}
use Rattle.series_outcome.proofs.ListLaws.{listed_forms, same_series, same_value}
use Rattle.series_outcome.proofs.known.known_list.Goals as goal

pub returns-clause-no_worse : goal.returns-clause-no_worse
returns-clause-no_worse c V series value =
    let Q = problem_of c.args.setting.now in
    let sets = c.args.sets.now in
    let made : List (List ℕ) = c.set_at.result ∷ c.set_at-2.result ∷ c.set_at-3.result ∷ c.set_at-4.result ∷ [] in
    let same = listed_forms Q sets c.set_at.result c.set_at-2.result c.set_at-3.result c.set_at-4.result series.number c.requires.problem.few_forms c.set_at.ensures c.set_at-2.ensures c.set_at-3.ensures c.set_at-4.ensures in
    settled_good Q (forms_of made) (value_known c.better.result) V c.better.ensures.settled (same_series Q (forms_of sets) (forms_of made) same series.series) (same_value Q (forms_of sets) (forms_of made) same V value)
