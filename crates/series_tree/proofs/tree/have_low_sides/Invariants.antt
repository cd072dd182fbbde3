use Rattle.std.proofs.Common.{ℕ, ◌<◌, All, get_or, []}
use Rattle.series_model.specs.SeriesTrees.{Ascends}
use Rattle.series_tree.proofs.tree.have_low_sides.Given as goal

abbrev pub invariant-loop-vector : goal.invariant-loop-vector
invariant-loop-vector l = ((v : ℕ) → v < l.vector-index → All (λ pair. pair.0 < 2315) (get_or l.vectors v [])) × ((v : ℕ) → v < l.vector-index → Ascends 0 (get_or l.vectors v []))
