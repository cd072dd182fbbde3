use Rattle.std.proofs.Common.{true, sym, ◌∙◌}
use Rattle.std.proofs.lemmas.Bool.{true≢false}
use Rattle.serve_trials.proofs.Places.{none_taken, one_more_taken}
use Rattle.serve_trials.proofs.threads.append_all.Goals as goal
use Rattle.serve_trials.proofs.threads.append_all.Goals.{then-append_one, else-append_one}

pub loop-taken-init : goal.loop-taken-init
loop-taken-init g c = none_taken c.args.turn.now c.args.pass.now true c.requires.ready

pub loop-taken-preserved : goal.loop-taken-preserved
loop-taken-preserved g c =
    let l = c.loop-taken in
    elim c.if-append_one.branch [
      | then-append_one w ↦ one_more_taken c.args.turn.now l.taken c.args.pass.now l.pass c.append_one.new.pass l.all c.append_one.result
          c.if-append_one.all l.invariant c.append_one.ensures (λ b. (w.if-append_one.true, sym w.all-is ∙ b))
      | else-append_one w ↦ one_more_taken c.args.turn.now l.taken c.args.pass.now l.pass c.append_one.new.pass l.all c.append_one.result
          c.if-append_one.all l.invariant c.append_one.ensures (λ b. absurd (true≢false (sym b ∙ w.all-is ∙ w.if-append_one.false)))
    ]
