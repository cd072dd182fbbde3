use Rattle.std.proofs.Common.{◌≡◌, ◌<◌, ◌+◌, ◌*◌, ℕ, List, length, ap, ◌∙◌, to_z, of_z, add-one, sym, subst, arith}
use Rattle.std.specs.Prelude.{ℤ, ◌+ℤ◌, slice_index}
use Rattle.std.specs.Int.{w128}
use Rattle.bank_tables.specs.Sums.{total_z}
use Rattle.form_model.specs.declared.row.Row.{Row}
use Rattle.form_model.specs.Plan.{row_at}
use Rattle.certificate_model.specs.Ranges.{IsWithin}
use Rattle.form_model.specs.Forms.{lower_bound, upper_bound}
use Rattle.certificate_model.specs.Weights.{bounds_price, constant_share, rows_constant}
use Rattle.certificate_check.proofs.Steps.{row_read, rows_few}
use Rattle.series_check.specs.Cuts.{one_form}
use Rattle.series_check.proofs.Wide.{wide_top, nearer, both_within, summed}
use Rattle.series_check.proofs.rows.rows_constant.Goals as goal

pub loop-r-preserved : goal.loop-r-preserved
loop-r-preserved c =
    let P = one_form c.args.setting.now in
    let N : ℕ → ℕ = slice_index c.args.sides.now in
    let r = c.loop-r.r in
    let sum : ℤ = to_z w128 c.loop-r.sum-bits in
    let few : r < 128 = rows_few P.plan c.rows-rows.result.now r c.rows-rows.ensures c.loop-r-test.true c.requires.plan.few_rows in
    let e-row : c.index-rows-r.result ≡ row_at P.plan r = row_read P.plan c.rows-rows.result.now r c.index-rows-r.result c.rows-rows.ensures c.index-rows-r.is c.loop-r-test.true in
    let term : ℤ = c.bounds_price-sum.result in
    let within = c.bounds_price-sum.ensures.within in
    let e-low : c.lower_bound.result ≡ lower_bound (row_at P.plan r) = c.lower_bound.ensures ∙ ap (λ (x : Row). lower_bound x) e-row in
    let e-high : c.upper_bound.result ≡ upper_bound (row_at P.plan r) = c.upper_bound.ensures ∙ ap (λ (x : Row). upper_bound x) e-row in
    let e-term : term ≡ constant_share P N r =
    c.bounds_price-sum.ensures.value ∙ ap (λ (m : ℕ). bounds_price N (2 * r) m c.upper_bound.result) e-low ∙ ap (λ (m : ℕ). bounds_price N (2 * r) (lower_bound (row_at P.plan r)) m) e-high in
    let e-sum : to_z w128 (of_z w128 (sum +ℤ to_z w128 (of_z w128 term))) ≡ sum +ℤ term = summed sum term (nearer (r * 144112989019046400) wide_top sum (omega arith) c.loop-r.invariant.within) (nearer 144112989019046400 wide_top term (omega arith) within) in
    record {
      value = rw add-one (e-sum ∙ ap (λ z. z +ℤ term) c.loop-r.invariant.value ∙ ap (λ z. total_z r (constant_share P N) +ℤ z) e-term);
      within = subst (IsWithin ((r + 1) * 144112989019046400)) (sym e-sum) (both_within (r * 144112989019046400) 144112989019046400 ((r + 1) * 144112989019046400) sum term (omega arith) c.loop-r.invariant.within within);
    }

pub returns-clause-value : goal.returns-clause-value
unfolding rows_constant
returns-clause-value c =
    let P = one_form c.args.setting.now in
    let N : ℕ → ℕ = slice_index c.args.sides.now in
    let last : c.loop-r.r ≡ length P.plan.rows = omega (arith, c.loop-r.auto.r-end, c.loop-r-test.false, ap (λ (xs : List Row). length xs) c.rows-rows.ensures) in
    subst (λ (n : ℕ). to_z w128 c.loop-r.sum-bits ≡ total_z n (constant_share P N)) last c.loop-r.invariant.value
