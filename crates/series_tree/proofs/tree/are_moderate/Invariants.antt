use Rattle.std.proofs.Common.{◌≡◌, ℕ, ◌<◌, get_or, [], true}
use Rattle.series_model.specs.SeriesTrees.{is_moderate}
use Rattle.series_tree.proofs.tree.are_moderate.Given as goal

abbrev pub invariant-loop-vector : goal.invariant-loop-vector
invariant-loop-vector l = (v : ℕ) → v < l.vector-index → is_moderate (get_or l.vectors v []) ≡ true
