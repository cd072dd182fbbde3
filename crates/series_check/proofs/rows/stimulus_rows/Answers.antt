use Rattle.std.proofs.Common.{◌≡◌, ◌<◌, ◌+◌, ◌*◌, ℕ, ap, ◌∙◌, to_z, of_z, add-one, sym, subst, arith}
use Rattle.std.specs.Prelude.{ℤ, pos, ◌+ℤ◌, ◌*ℤ◌, slice_index}
use Rattle.std.specs.Int.{w128}
use Rattle.bank_tables.specs.Sums.{total_z}
use Rattle.form_model.specs.declared.row.Row.{Row}
use Rattle.form_model.specs.Plan.{row_at}
use Rattle.certificate_model.specs.Ranges.{IsWithin}
use Rattle.certificate_model.specs.Weights.{price, stimulus_activity, stimulus_share}
use Rattle.certificate_check.proofs.Steps.{row_read, rows_few}
use Rattle.series_check.specs.Cuts.{one_form}
use Rattle.series_check.proofs.Wide.{wide_top, nearer, both_within, summed}
use Rattle.series_check.proofs.rows.stimulus_rows.Goals as goal

pub loop-r-preserved : goal.loop-r-preserved
loop-r-preserved c =
    let P = one_form c.args.setting.now in
    let N : ℕ → ℕ = slice_index c.args.sides.now in
    let r = c.loop-r.r in
    let sum : ℤ = to_z w128 c.loop-r.sum-bits in
    let few : r < 128 = rows_few P.plan c.rows-rows.result.now r c.rows-rows.ensures c.loop-r-test.true c.requires.plan.few_rows in
    let e-row : c.index-rows-r.result ≡ row_at P.plan r = row_read P.plan c.rows-rows.result.now r c.index-rows-r.result c.rows-rows.ensures c.index-rows-r.is c.loop-r-test.true in
    let term : ℤ = c.price_times-sum.result in
    let within = c.price_times-sum.ensures.within in
    let e-part : c.stimulus_activity.result ≡ stimulus_activity (row_at P.plan r) = c.stimulus_activity.ensures.activity ∙ ap (λ (x : Row). stimulus_activity x) e-row in
    let e-term : term ≡ stimulus_share P N r = c.price_times-sum.ensures.value ∙ ap (λ (m : ℕ). price N (2 * r) *ℤ pos m) e-part in
    let e-sum : to_z w128 (of_z w128 (sum +ℤ to_z w128 (of_z w128 term))) ≡ sum +ℤ term = summed sum term (nearer (r * 281470681677825) wide_top sum (omega arith) c.loop-r.invariant.within) (nearer 281470681677825 wide_top term (omega arith) within) in
    record {
      value = rw add-one (e-sum ∙ ap (λ z. z +ℤ term) c.loop-r.invariant.value ∙ ap (λ z. total_z r (stimulus_share P N) +ℤ z) e-term);
      within = subst (IsWithin ((r + 1) * 281470681677825)) (sym e-sum) (both_within (r * 281470681677825) 281470681677825 ((r + 1) * 281470681677825) sum term (omega arith) c.loop-r.invariant.within within);
    }
