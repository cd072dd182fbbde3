-- Paths that wait for their subtrees.
use Rattle.std.specs.Prelude.{List, All}
use Rattle.form_model.specs.Problem.{Problem}
use Rattle.lagrange_bound.specs.Cuts.{IsCut}
use Rattle.search_paths.specs.declared.paths.Waiting.{Waiting}

-- each of them has the state of some path
abbrev pub AreStates : Problem → List Waiting → Type 0
AreStates P waiting = All (λ w. IsCut P w.cut) waiting
