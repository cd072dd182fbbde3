use Rattle.std.proofs.Common.{◌↔◌, ◌≤◌, drop}
use Rattle.series_model.specs.SeriesTrees.{Ascends}
use Rattle.series_tree.proofs.vector.is_vector.Given as goal

abbrev pub invariant-loop-pair : goal.invariant-loop-pair
invariant-loop-pair l = (l.from ≤ 65536) × (Ascends 0 l.pairs ↔ Ascends l.from (drop l.pair-index l.pairs))
