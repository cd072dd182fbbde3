use Rattle.serve_trials.specs.Own.{AppendsOwn}
use Rattle.serve_trials.proofs.threads.append_all.Given as goal

-- the turns so far
abbrev pub invariant-loop-taken : goal.invariant-loop-taken
invariant-loop-taken g l = AppendsOwn l.turn l.taken l.fn.pass l.pass l.all
