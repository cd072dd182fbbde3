use Rattle.std.proofs.Common.{ℕ, List, Option, Some, sym, subst}
use Rattle.series_check.specs.Cuts.{problem_of}
use Rattle.series_outcome.specs.Searches.{value_known, IsAsGoodAs}
use Rattle.series_outcome.proofs.known.known_series.Goals as goal

pub returns-in-Some-clause-no_worse : goal.returns-in-Some-clause-no_worse
returns-in-Some-clause-no_worse c =
    let Q = problem_of c.args.setting.now in
    let found = value_known c.known_list.result in
    let listed = subst (λ (sets : List (List ℕ)). IsAsGoodAs Q (Some sets) found) c.as_slice.ensures c.known_list.ensures.no_worse in
    subst (λ (forms : Option (List (List ℕ))). IsAsGoodAs Q forms found) (sym c.in-Some.is) listed
