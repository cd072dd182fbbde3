use Rattle.std.proofs.Common.{◌≡◌, None}
use Rattle.exam_text.specs.First.{first_below}
use Rattle.form_model.specs.Plan.{row_at}
use Rattle.constraint_model.specs.Faults.{row_fault}
use Rattle.constraint_model.proofs.faults.rows_fault.Given as goal

abbrev pub invariant-loop-r : goal.invariant-loop-r
invariant-loop-r l = first_below l.r (λ r. row_fault l.bank r (row_at l.draft r)) ≡ None
