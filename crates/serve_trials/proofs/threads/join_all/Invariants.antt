use Rattle.std.proofs.Common.{◌≡◌, All}
use Rattle.std.specs.Vec.Iter.{into_iter_items}
use Rattle.serve_trials.proofs.threads.join_all.Given as goal

-- the passes left are of the lock
abbrev pub invariant-loop-caller : goal.invariant-loop-caller
invariant-loop-caller l =
    (goal.iterator-loop-caller).can_next l.caller-iterator × (goal.iterator-loop-caller).is_finite l.caller-iterator
    × (l.first.turn ≡ l.turn) × All (λ c. c.pass.turn ≡ l.turn) (into_iter_items l.caller-iterator)
