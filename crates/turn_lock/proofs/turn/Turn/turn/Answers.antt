use Rattle.std.proofs.Common.{rules}
use Rattle.turn_lock.proofs.turn.Turn.turn.Goals as goal

pub take-value-requires-clause-has : goal.take-value-requires-clause-has
take-value-requires-clause-has c = search rules

pub leave-requires-clause-back : goal.leave-requires-clause-back
leave-requires-clause-back c = search rules

pub await_turn-requires-clause-waits : goal.await_turn-requires-clause-waits
await_turn-requires-clause-waits c = search rules
