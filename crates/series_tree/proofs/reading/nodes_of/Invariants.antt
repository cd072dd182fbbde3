use Rattle.std.proofs.Common.{◌≡◌, ◌+◌, ◌≤◌, length}
use Rattle.series_tree.specs.Reading.{nodes_at}
use Rattle.series_tree.proofs.Loops.{with_front}
use Rattle.series_tree.proofs.reading.nodes_of.Given as goal

abbrev pub invariant-loop-waiting : goal.invariant-loop-waiting
invariant-loop-waiting l = record {
  there : l.at ≤ length l.bytes;
  few : l.waiting + l.room ≤ 4096;
  read : with_front l.nodes.items (nodes_at l.room l.waiting l.bytes l.at) ≡ nodes_at 4095 1 l.bytes l.fn.at;
}

abbrev pub decreases-loop-waiting : goal.decreases-loop-waiting
decreases-loop-waiting l = l.room
