use Rattle.std.proofs.Common.{◌≡◌, ◌+◌, ◌-◌, ◌*◌, ◌≤◌, length}
use Rattle.series_tree.specs.Reading.{pairs_at}
use Rattle.series_tree.proofs.Loops.{with_front}
use Rattle.series_tree.proofs.reading.pairs_of.Given as goal

abbrev pub invariant-loop : goal.invariant-loop
invariant-loop l = (l.at ≤ length l.bytes) × (with_front l.pairs.items (pairs_at (l.count - l.counter) l.bytes l.at l.low) ≡ pairs_at l.count l.bytes l.fn.at 0) × (l.at ≡ l.fn.at + 6 * l.counter)
