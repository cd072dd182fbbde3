use Rattle.std.proofs.Common.{◌≡◌, ◌+◌, All}
use Rattle.serve_trials.specs.Own.{IsReady}
use Rattle.serve_trials.proofs.threads.split_all.Given as goal

-- the passes so far are ready, and the first one was split so often
abbrev pub invariant-loop : goal.invariant-loop
invariant-loop l =
    (l.first.turn ≡ l.turn) × (l.first.number ≡ 0) × (l.first.splits ≡ l.fn.first.splits + l.counter)
    × All (λ c. IsReady l.turn c.pass) l.callers.items
