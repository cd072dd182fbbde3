use Rattle.std.proofs.Common.{◌≡◌, ◌+◌, All}
use Rattle.turn_bench.proofs.turns.split_all.Given as goal

-- the passes so far are of the lock, and the first one was split so often
abbrev pub invariant-loop : goal.invariant-loop
invariant-loop l =
    (l.first.turn ≡ l.turn) × (l.first.number ≡ 0) × (l.first.splits ≡ l.fn.first.splits + l.counter)
    × All (λ p. p.turn ≡ l.turn) l.passes.items
