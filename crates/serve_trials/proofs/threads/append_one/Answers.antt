use Rattle.std.proofs.Common.{subst}
use Rattle.serve_trials.specs.Own.{Appends}
use Rattle.serve_trials.proofs.Places.{turn_taken}
use Rattle.serve_trials.proofs.threads.append_one.Goals as goal

pub returns : goal.returns
returns g c =
    let t = c.turn.ensures.turn in
    turn_taken c.args.turn.now c.args.pass.now c.turn.new.pass t.0 c.requires.ready t.1 c.turn.result
    (subst (λ n. Appends n t.0 c.turn.new.pass.seen c.turn.result) c.number-number.ensures t.2)
