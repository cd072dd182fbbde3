use Rattle.std.proofs.Common.{◌≡◌, ℕ, ◌+◌, ◌*◌, ◌<◌, w64, to_z, of_z, add-one, sym, ap, ◌∙◌, subst, arith, rules}
use Rattle.std.specs.Prelude.{ℤ, pos, ◌+ℤ◌, ◌*ℤ◌, slice_index}
use Rattle.bank_tables.specs.Sums.{total_z}
use Rattle.form_model.specs.declared.row.Row.{Row}
use Rattle.form_model.specs.Plan.{row_at}
use Rattle.certificate_model.specs.Ranges.{IsWithin}
use Rattle.certificate_model.specs.Weights.{price, stimulus_activity, stimulus_share}
use Rattle.constraint_model.specs.Views.{problem_of}
use Rattle.lagrange_bound.proofs.Sums.{read_back, summed, summed_within, row_read, row_number}
use Rattle.lagrange_bound.proofs.prices.rows_on_stimuli.Goals as goal

pub loop-r-preserved : goal.loop-r-preserved
loop-r-preserved c =
    let P = problem_of c.args.problem.now in
    let r = c.loop-r.r in
    let M : ℕ → ℕ = slice_index c.args.sides.now in
    let sum : ℤ = to_z w64 c.loop-r.sum-bits in
    let term : ℤ = c.price_of_stimuli-sum.result in
    let few : r < 128 = row_number P.plan c.rows-rows.result.now r c.rows-rows.ensures c.loop-r-test.true c.requires.well_made.plan.few_rows in
    let row : c.index-rows-r.result ≡ row_at P.plan r = row_read P.plan c.rows-rows.result.now r c.index-rows-r.result c.rows-rows.ensures c.index-rows-r.is c.loop-r-test.true in
    let same : to_z w64 (of_z w64 c.price.result) ≡ c.price.result = read_back 16777216 c.price.result (omega arith) c.price.ensures.within in
    let e-sum : to_z w64 (of_z w64 (sum +ℤ to_z w64 (of_z w64 term))) ≡ sum +ℤ term = summed (r * 16777216) 16777216 sum term (omega arith) c.loop-r.invariant.within c.price_of_stimuli-sum.ensures.within in
    record {
      value =
          let e-term : term ≡ stimulus_share P M r =
          c.price_of_stimuli-sum.ensures.value
          ∙ ap (λ z. z *ℤ pos (stimulus_activity c.index-rows-r.result)) (same ∙ c.price.ensures.value)
          ∙ ap (λ (x : Row). price M (2 * r) *ℤ pos (stimulus_activity x)) row in
          rw add-one (e-sum ∙ ap (λ z. z +ℤ term) c.loop-r.invariant.value ∙ ap (λ z. total_z r (stimulus_share P M) +ℤ z) e-term);
      within = subst (IsWithin ((r + 1) * 16777216)) (sym e-sum) (summed_within (r * 16777216) 16777216 ((r + 1) * 16777216) sum term (omega arith) c.loop-r.invariant.within c.price_of_stimuli-sum.ensures.within);
    }

pub overflow_mul-r : goal.overflow_mul-r
overflow_mul-r c = search rules

pub overflow_add-sum : goal.overflow_add-sum
overflow_add-sum c = search rules

pub returns-clause-value : goal.returns-clause-value
returns-clause-value c = search rules

pub returns-clause-within : goal.returns-clause-within
returns-clause-within c = search rules
