use Rattle.std.proofs.Common.{ℕ, ◌≤◌, ◌<◌, length, get_or, []}
use Rattle.proof_tree.proofs.tree.are_short.Given as goal

abbrev pub invariant-loop-vector : goal.invariant-loop-vector
invariant-loop-vector l = (v : ℕ) → v < l.vector-index → length (get_or l.vectors v []) ≤ 384
