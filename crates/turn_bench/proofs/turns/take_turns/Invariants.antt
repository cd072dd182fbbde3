use Rattle.std.proofs.Common.{◌≡◌}
use Rattle.turn_bench.proofs.turns.take_turns.Given as goal

-- the pass is of the lock
abbrev pub invariant-loop : goal.invariant-loop
invariant-loop g l = l.pass.turn ≡ l.turn
