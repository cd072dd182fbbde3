use Rattle.std.proofs.Common.{ℕ, ◌≤◌, ◌<◌, length, get_or, []}
use Rattle.series_tree.proofs.tree.are_short.Given as goal

abbrev pub invariant-loop-vector : goal.invariant-loop-vector
invariant-loop-vector l = (v : ℕ) → v < l.vector-index → length (get_or l.vectors v []) ≤ 2304
