use Rattle.std.proofs.Common.{◌≡◌, ◌<◌, ◌∙◌, get_or, length, ap, sym, subst, List, ℕ}
use Rattle.std.proofs.lemmas.List.{get_or_read}
use Rattle.exam_text.proofs.Firsts.{found_at}
use Rattle.form_model.specs.declared.row.Row.{Row}
use Rattle.form_model.specs.Plan.{no_row, row_at}
use Rattle.constraint_model.specs.Faults.{row_fault}
use Rattle.constraint_model.proofs.faults.rows_fault.Goals as goal

pub returns-in-Some : goal.returns-in-Some
returns-in-Some c =
    let plan = c.args.draft.now in
    let bank = c.args.bank.now in
    let r : ℕ = c.loop-r.r in
    let row : Row = c.index-rows-r.result in
    let lt : r < length plan.rows = subst (λ (rows : List Row). r < length rows) c.as_slice-rows.ensures c.loop-r-test.true in
    let read : row ≡ row_at plan r = get_or_read plan.rows r row lt (c.index-rows-r.is ∙ ap (λ (rows : List Row). get_or rows r row) c.as_slice-rows.ensures) no_row in
    sym (found_at (length plan.rows) r (λ r. row_fault bank r (row_at plan r)) c.in-Some.fault c.loop-r.invariant (ap (row_fault bank r) (sym read) ∙ sym c.row_fault.ensures ∙ c.in-Some.is) lt)
