use Rattle.std.proofs.Common.{◌≡◌, ℕ, arith, ap, ◌∙◌, sym, subst}
use Rattle.std.specs.Prelude.{ℤ, List, slice_index}
use Rattle.bank_tables.specs.Items.{Set, has}
use Rattle.bank_tables.specs.Sums.{sum_in_z}
use Rattle.bank_tables.specs.Tables.{size}
use Rattle.certificate_model.specs.Paths.{Path, is_free}
use Rattle.form_model.specs.Problem.{Problem}
use Rattle.certificate_model.specs.Ranges.{at}
use Rattle.certificate_check.specs.Tops.{IsTopOf}
use Rattle.series_check.specs.Cuts.{one_form, form_path_of}
use Rattle.series_check.specs.Maximum.{IsValueOf}
use Rattle.series_check.proofs.MaximumLaws.{value_of_top}
use Rattle.series_check.proofs.Wide.{wide_top, nearer, four_summed}
use Rattle.series_check.proofs.relaxed.form_value.Goals as goal

pub returns-clause-maximum : goal.returns-clause-maximum
returns-clause-maximum c =
    let P : Problem = one_form c.args.setting.now in
    let p : Path = form_path_of c.args.standing.now in
    let N : ℕ → ℕ = slice_index c.args.own.now in
    let weights : List ℤ = c.args.weights.now in
    let T : Set = has c.top_of-top.result in
    let items : c.items-items.result ≡ size P.bank = c.items-items.ensures.items in
    let top : IsTopOf (size P.bank) weights (is_free P p) c.args.k T =
    subst (λ (F : Set). IsTopOf (size P.bank) weights F c.args.k T) c.requires.standing.free (subst (λ (n : ℕ). IsTopOf n weights (has c.args.standing.now.free) c.args.k T) items c.top_of-top.ensures) in
    let taken = c.sum_of-taken.ensures.value ∙ ap (λ (n : ℕ). sum_in_z n p.taken (at weights)) items in
    let free = c.sum_of-free.ensures.value ∙ ap (λ (n : ℕ). sum_in_z n T (at weights)) items in
    let all =
    four_summed c.rows_constant.result c.sum_of-taken.result c.sum_of-free.result c.gains.result
    (nearer 18446462594437939200 wide_top c.rows_constant.result (omega arith) c.rows_constant.ensures.within)
    (nearer 153600000000000000000000 wide_top c.sum_of-taken.result (omega arith) c.sum_of-taken.ensures.within)
    (nearer 153600000000000000000000 wide_top c.sum_of-free.result (omega arith) c.sum_of-free.ensures.within)
    (nearer 12800000000000000000 wide_top c.gains.result (omega arith) c.gains.ensures.within) in
    subst (IsValueOf P p N (at weights)) (sym all)
    (value_of_top P p N weights T c.args.k c.rows_constant.result c.sum_of-taken.result c.sum_of-free.result c.gains.result top c.requires.fills c.rows_constant.ensures.value taken free c.gains.ensures.value)
