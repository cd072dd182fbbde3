use Rattle.std.proofs.Common.{◌≡◌}
use Rattle.serve_trials.proofs.halls.ask_all.Given as goal

abbrev pub invariant-loop-request : goal.invariant-loop-request
invariant-loop-request g l = l.caller.hall ≡ l.fn.hall
