use Rattle.std.proofs.Common.{◌≡◌, ◌-◌, ◌≤◌, length}
use Rattle.series_tree.specs.Reading.{vectors_at}
use Rattle.series_tree.proofs.Loops.{with_front}
use Rattle.series_tree.proofs.reading.vectors_of.Given as goal

abbrev pub invariant-loop : goal.invariant-loop
invariant-loop l = (l.at ≤ length l.bytes) × (with_front l.vectors.items (vectors_at l.room (l.count - l.counter) l.bytes l.at) ≡ vectors_at 12288 l.count l.bytes l.fn.at)
