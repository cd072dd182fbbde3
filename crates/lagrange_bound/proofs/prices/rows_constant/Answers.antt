use Rattle.std.proofs.Common.{◌≡◌, ℕ, ◌+◌, ◌*◌, ◌<◌, List, length, w64, to_z, of_z, add-one, sym, ap, ◌∙◌, subst, arith, rules}
use Rattle.std.specs.Prelude.{ℤ, ◌+ℤ◌, slice_index}
use Rattle.bank_tables.specs.Sums.{total_z}
use Rattle.form_model.specs.declared.row.Row.{Row}
use Rattle.form_model.specs.Plan.{row_at}
use Rattle.form_model.specs.Forms.{lower_bound, upper_bound}
use Rattle.certificate_model.specs.Ranges.{IsWithin}
use Rattle.certificate_model.specs.Weights.{bounds_price, constant_share, rows_constant}
use Rattle.constraint_model.specs.Views.{problem_of}
use Rattle.lagrange_bound.specs.Ranges.{bounds_top}
use Rattle.lagrange_bound.proofs.Sums.{summed, summed_within, row_read, row_number}
use Rattle.lagrange_bound.proofs.prices.rows_constant.Goals as goal

pub loop-r-preserved : goal.loop-r-preserved
loop-r-preserved c =
    let P = problem_of c.args.problem.now in
    let r = c.loop-r.r in
    let M : ℕ → ℕ = slice_index c.args.sides.now in
    let sum : ℤ = to_z w64 c.loop-r.sum-bits in
    let term : ℤ = c.bounds_price-sum.result in
    let few : r < 128 = row_number P.plan c.rows-rows.result.now r c.rows-rows.ensures c.loop-r-test.true c.requires.well_made.plan.few_rows in
    let row : c.index-rows-r.result ≡ row_at P.plan r = row_read P.plan c.rows-rows.result.now r c.index-rows-r.result c.rows-rows.ensures c.index-rows-r.is c.loop-r-test.true in
    let low : c.bounds_of.result.0 ≡ lower_bound (row_at P.plan r) = c.bounds_of.ensures.low ∙ ap (λ (x : Row). lower_bound x) row in
    let high : c.bounds_of.result.1 ≡ upper_bound (row_at P.plan r) = c.bounds_of.ensures.high ∙ ap (λ (x : Row). upper_bound x) row in
    let e-sum : to_z w64 (of_z w64 (sum +ℤ to_z w64 (of_z w64 term))) ≡ sum +ℤ term = summed (r * bounds_top) bounds_top sum term (omega arith) c.loop-r.invariant.within c.bounds_price-sum.ensures.within in
    record {
      value =
          let e-term : term ≡ constant_share P M r =
          c.bounds_price-sum.ensures.value ∙ ap (λ (m : ℕ). bounds_price M (2 * r) m c.bounds_of.result.1) low ∙ ap (λ (m : ℕ). bounds_price M (2 * r) (lower_bound (row_at P.plan r)) m) high in
          rw add-one (e-sum ∙ ap (λ z. z +ℤ term) c.loop-r.invariant.value ∙ ap (λ z. total_z r (constant_share P M) +ℤ z) e-term);
      within = subst (IsWithin ((r + 1) * bounds_top)) (sym e-sum) (summed_within (r * bounds_top) bounds_top ((r + 1) * bounds_top) sum term (omega arith) c.loop-r.invariant.within c.bounds_price-sum.ensures.within);
    }

pub returns-clause-value : goal.returns-clause-value
unfolding rows_constant
returns-clause-value c =
    let P = problem_of c.args.problem.now in
    let same : length c.rows-rows.result.now ≡ length P.plan.rows = ap (λ (xs : List Row). length xs) c.rows-rows.ensures in
    let all : c.loop-r.r ≡ length P.plan.rows = omega (arith, same) in
    c.loop-r.invariant.value ∙ ap (λ (n : ℕ). total_z n (constant_share P (slice_index c.args.sides.now))) all

pub overflow_mul-r : goal.overflow_mul-r
overflow_mul-r c = search rules

pub overflow_add-sum : goal.overflow_add-sum
overflow_add-sum c = search rules

pub returns-clause-within : goal.returns-clause-within
returns-clause-within c = search rules
