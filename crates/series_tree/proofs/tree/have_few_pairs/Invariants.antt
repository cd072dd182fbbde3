use Rattle.std.proofs.Common.{◌≡◌, ◌+◌, length, take}
use Rattle.std.specs.List.{sum_by}
use Rattle.series_tree.proofs.tree.have_few_pairs.Given as goal

abbrev pub invariant-loop-vector : goal.invariant-loop-vector
invariant-loop-vector l = l.room + sum_by length (take l.vector-index l.vectors) ≡ 12288
