use Rattle.std.proofs.Common.{◌≡◌, ◌<◌, ◌+◌, ◌*◌, ℕ, ap, ◌∙◌, w64, to_z, of_z, add-one, sym, subst, refl, rules}
use Rattle.std.specs.Prelude.{ℤ, pos, ◌+ℤ◌, ◌*ℤ◌, slice_index}
use Rattle.bank_tables.specs.Sums.{total_z}
use Rattle.form_model.specs.declared.row.Row.{Row}
use Rattle.form_model.specs.Plan.{row_at}
use Rattle.constraint_model.specs.Views.{problem_of}
use Rattle.certificate_model.specs.Weights.{stimulus_share, stimulus_activity, price}
use Rattle.certificate_model.specs.Ranges.{IsWithin}
use Rattle.certificate_check.proofs.Steps.{item_step, item_within, row_read, rows_few}
use Rattle.certificate_check.proofs.weights.rows_stimulus.Goals as goal

pub loop-r-preserved : goal.loop-r-preserved
loop-r-preserved c =
    let P = problem_of c.args.problem.now in
    let M : ℕ → ℕ = slice_index c.args.sides.now in
    let r = c.loop-r.r in
    let e-row : c.index-rows-r.result ≡ row_at P.plan r = row_read P.plan c.rows-rows.result.now r c.index-rows-r.result c.rows-rows.ensures c.index-rows-r.is c.loop-r-test.true in
    let e-part : c.stimulus_activity.result ≡ stimulus_activity (row_at P.plan r) = c.stimulus_activity.ensures.part ∙ ap (λ (x : Row). stimulus_activity x) e-row in
    let e-term : c.net_times-sum.result ≡ stimulus_share P M r = c.net_times-sum.ensures.value ∙ ap (λ (m : ℕ). price M (2 * r) *ℤ pos m) e-part in
    let few : r < 128 = rows_few P.plan c.rows-rows.result.now r c.rows-rows.ensures c.loop-r-test.true c.requires.well_made.plan.few_rows in
    let sum : ℤ = to_z w64 c.loop-r.sum-bits in
    let e-sum : to_z w64 (of_z w64 (sum +ℤ to_z w64 (of_z w64 c.net_times-sum.result))) ≡ sum +ℤ c.net_times-sum.result = item_step r sum c.net_times-sum.result sum few refl c.loop-r.invariant.within c.net_times-sum.ensures.within in
    record {
      value = rw add-one (e-sum ∙ ap (λ z. z +ℤ c.net_times-sum.result) c.loop-r.invariant.value ∙ ap (λ z. total_z r (stimulus_share P M) +ℤ z) e-term);
      within = subst (IsWithin ((r + 1) * 1099494850560)) (sym e-sum) (item_within r sum c.net_times-sum.result c.loop-r.invariant.within c.net_times-sum.ensures.within);
    }

pub loop-r-init : goal.loop-r-init
loop-r-init c = search rules

pub net_times-sum-requires-clause-part : goal.net_times-sum-requires-clause-part
net_times-sum-requires-clause-part c = search rules

pub overflow_add-sum : goal.overflow_add-sum
overflow_add-sum c = search rules

pub loop-r-smaller : goal.loop-r-smaller
loop-r-smaller c = search rules

pub returns-clause-value : goal.returns-clause-value
returns-clause-value c = search rules

pub returns-clause-within : goal.returns-clause-within
returns-clause-within c = search rules
