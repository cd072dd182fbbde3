use Rattle.std.proofs.Common.{◌≡◌, ◌+◌, ◌*◌, drop}
use Rattle.series_tree.specs.Reading.{first_large}
use Rattle.series_tree.proofs.reading.first_large.Given as goal

abbrev pub invariant-loop-pair : goal.invariant-loop-pair
invariant-loop-pair l = (l.at ≡ l.fn.at + 6 * l.pair-index) × (first_large l.pairs l.fn.at ≡ first_large (drop l.pair-index l.pairs) l.at)
