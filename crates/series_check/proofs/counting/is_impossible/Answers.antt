use Rattle.std.proofs.Common.{◌≡◌, ℕ, suc, ◌+◌, ◌-◌, List, length, get_or, arith, ap, ◌∙◌, refl}
use Rattle.std.proofs.lemmas.List.{get_or_read_under}
use Rattle.form_model.specs.declared.row.Row.{Row}
use Rattle.certificate_model.specs.Counting.{row_impossible, stimulus_impossible}
use Rattle.form_model.specs.Plan.{row_at, no_row}
use Rattle.series_check.specs.Cuts.{one_form, form_path_of}
use Rattle.certificate_check.proofs.RowsByNumber.{number_zero, number_row, number_stimulus, number_past}
use Rattle.series_check.proofs.counting.is_impossible.Goals as goal

pub returns-then-row-eq0 : goal.returns-then-row-eq0
returns-then-row-eq0 c = c.length_impossible.ensures ∙ number_zero (one_form c.args.setting.now) (form_path_of c.args.standing.now) c.args.row (omega arith)

pub returns-then-place-rows : goal.returns-then-place-rows
returns-then-place-rows c =
    let P = one_form c.args.setting.now in
    let p = form_path_of c.args.standing.now in
    let place = c.args.row - 1 in
    let same = ap (λ (xs : List Row). length xs) c.rows-rows.ensures in
    let is_row : c.index-rows-place.result ≡ row_at P.plan place =
    get_or_read_under c.rows-rows.result.now place (length c.rows-rows.result.now) c.index-rows-place.result no_row c.index-rows-place.is c.if-place-rows.true refl
    ∙ ap (λ (xs : List Row). get_or xs place no_row) c.rows-rows.ensures in
    c.row_impossible.ensures ∙ ap (λ (row : Row). row_impossible P p row) is_row ∙ number_row P p c.args.row place (omega arith) (omega (arith, same))

pub returns-then-place-rows-2 : goal.returns-then-place-rows-2
returns-then-place-rows-2 c =
    let P = one_form c.args.setting.now in
    let p = form_path_of c.args.standing.now in
    let place = c.args.row - 1 in
    let same = ap (λ (xs : List Row). length xs) c.rows-rows.ensures in
    let which : place + 1 - length c.rows-rows.result.now ≡ suc place - length P.plan.rows = omega (arith, same) in
    c.stimulus_impossible.ensures
    ∙ ap (λ (s : ℕ). stimulus_impossible P p s) which
    ∙ number_stimulus P p c.args.row place (omega arith) (omega (arith, same)) (omega (arith, same, c.stimuli.ensures))

pub returns-else-place-rows-2 : goal.returns-else-place-rows-2
returns-else-place-rows-2 c =
    let same = ap (λ (xs : List Row). length xs) c.rows-rows.ensures in
    number_past (one_form c.args.setting.now) (form_path_of c.args.standing.now) c.args.row (c.args.row - 1) (omega arith) (omega (arith, same, c.stimuli.ensures))
