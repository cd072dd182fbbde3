use Rattle.std.proofs.Common.{◌≡◌, ◌+◌, None, get_or}
use Rattle.exam_text.specs.First.{first_below}
use Rattle.form_model.specs.Plan.{no_bound}
use Rattle.constraint_model.specs.Faults.{bound_fault}
use Rattle.constraint_model.proofs.faults.bounds_fault.Given as goal

abbrev pub invariant-loop-k : goal.invariant-loop-k
invariant-loop-k l = first_below l.k (λ k. bound_fault (k + 1) (get_or l.draft.bounds k no_bound)) ≡ None
