use Rattle.std.proofs.Common.{◌≡◌}
use Rattle.serve_trials.proofs.lists.ask_rows.Given as goal

abbrev pub invariant-loop-row : goal.invariant-loop-row
invariant-loop-row g l = l.caller.hall ≡ l.fn.hall
