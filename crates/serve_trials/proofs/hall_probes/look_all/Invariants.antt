use Rattle.std.proofs.Common.{◌≡◌}
use Rattle.serve_trials.proofs.hall_probes.look_all.Given as goal

abbrev pub invariant-loop-look : goal.invariant-loop-look
invariant-loop-look g l = l.caller.hall ≡ l.fn.hall
