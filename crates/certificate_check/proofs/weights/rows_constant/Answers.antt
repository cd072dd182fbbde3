use Rattle.std.proofs.Common.{◌≡◌, ◌<◌, length, arith, ◌+◌, ◌*◌, ℕ, ap, ◌∙◌, w64, to_z, of_z, add-one, sym, subst, refl}
use Rattle.std.specs.Prelude.{ℤ, ◌+ℤ◌, slice_index, List}
use Rattle.bank_tables.specs.Sums.{total_z}
use Rattle.form_model.specs.declared.row.Row.{Row}
use Rattle.form_model.specs.Forms.{lower_bound, upper_bound}
use Rattle.form_model.specs.Plan.{row_at}
use Rattle.constraint_model.specs.Views.{problem_of}
use Rattle.certificate_model.specs.Weights.{constant_share, bounds_price, rows_constant}
use Rattle.certificate_model.specs.Ranges.{IsWithin}
use Rattle.certificate_check.proofs.Steps.{constant_step, constant_within, row_read, rows_few}
use Rattle.certificate_check.proofs.weights.rows_constant.Goals as goal

pub loop-r-preserved : goal.loop-r-preserved
loop-r-preserved c =
    let P = problem_of c.args.problem.now in
    let M : ℕ → ℕ = slice_index c.args.sides.now in
    let r = c.loop-r.r in
    let term : ℤ = c.bounds_price-sum.result in
    let e-row : c.index-rows-r.result ≡ row_at P.plan r = row_read P.plan c.rows-rows.result.now r c.index-rows-r.result c.rows-rows.ensures c.index-rows-r.is c.loop-r-test.true in
    let e-low : c.lower_bound.result ≡ lower_bound (row_at P.plan r) = c.lower_bound.ensures ∙ ap (λ (x : Row). lower_bound x) e-row in
    let e-high : c.upper_bound.result ≡ upper_bound (row_at P.plan r) = c.upper_bound.ensures ∙ ap (λ (x : Row). upper_bound x) e-row in
    let e-term : term ≡ constant_share P M r =
    c.bounds_price-sum.ensures.value ∙ ap (λ (m : ℕ). bounds_price M (2 * r) m c.upper_bound.result) e-low ∙ ap (λ (m : ℕ). bounds_price M (2 * r) (lower_bound (row_at P.plan r)) m) e-high in
    let few : r < 128 = rows_few P.plan c.rows-rows.result.now r c.rows-rows.ensures c.loop-r-test.true c.requires.well_made.plan.few_rows in
    let sum : ℤ = to_z w64 c.loop-r.sum-bits in
    let e-sum : to_z w64 (of_z w64 (sum +ℤ to_z w64 (of_z w64 term))) ≡ sum +ℤ term = constant_step r sum term sum few refl c.loop-r.invariant.within c.bounds_price-sum.ensures.within in
    record {
      value = rw add-one (e-sum ∙ ap (λ z. z +ℤ term) c.loop-r.invariant.value ∙ ap (λ z. total_z r (constant_share P M) +ℤ z) e-term);
      within = subst (IsWithin ((r + 1) * 562941363486720)) (sym e-sum) (constant_within r sum term c.loop-r.invariant.within c.bounds_price-sum.ensures.within);
    }

pub returns-clause-value : goal.returns-clause-value
unfolding rows_constant
returns-clause-value c =
    let P = problem_of c.args.problem.now in
    let M : ℕ → ℕ = slice_index c.args.sides.now in
    let last : c.loop-r.r ≡ length P.plan.rows = omega (arith, c.loop-r.auto.r-end, c.loop-r-test.false, ap (λ (xs : List Row). length xs) c.rows-rows.ensures) in
    subst (λ (n : ℕ). to_z w64 c.loop-r.sum-bits ≡ total_z n (constant_share P M)) last c.loop-r.invariant.value
