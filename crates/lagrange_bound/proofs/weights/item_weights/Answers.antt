use Rattle.std.proofs.Common.{◌≡◌, ℕ, List, length, ◌+◌, ◌*◌, ◌<◌, w64, to_z, of_z, sym, ap, ◌∙◌, subst, arith}
use Rattle.std.specs.Prelude.{ℤ, pos, ◌+ℤ◌, ◌*ℤ◌, slice_index}
use Rattle.std.proofs.lemmas.Int.{ints}
use Rattle.bank_tables.specs.Sums.{total_z}
use Rattle.form_model.specs.declared.row.Row.{Row}
use Rattle.form_model.specs.Plan.{row_at}
use Rattle.certificate_model.specs.Ranges.{IsWithin, at}
use Rattle.constraint_model.specs.Views.{problem_of}
use Rattle.lagrange_bound.proofs.Sums.{read_back, summed_within, row_read, row_number}
use Rattle.bank_tables.specs.Tables.{size, stimulus}
use Rattle.certificate_model.specs.Weights.{price, item_activity, item_share, item_weight, price_of_stimulus, weight}
use Rattle.lagrange_bound.specs.Ranges.{item_top, row_top}
use Rattle.lagrange_bound.specs.Shares.{own_weight}
use Rattle.lagrange_bound.proofs.Sums.{product_within, activity_high, total_more, wider}
use Rattle.lagrange_bound.proofs.weights.item_weights.Goals as goal

pub loop-r-preserved : goal.loop-r-preserved
loop-r-preserved c =
    let P = problem_of c.args.problem.now in
    let r = c.loop-r.r in
    let M : ℕ → ℕ = slice_index c.args.sides.now in
    let few : r < 128 = row_number P.plan c.rows-rows.result.now r c.rows-rows.ensures c.loop-r-test.true c.requires.well_made.plan.few_rows in
    let row : c.index-rows-r.result ≡ row_at P.plan r = row_read P.plan c.rows-rows.result.now r c.index-rows-r.result c.rows-rows.ensures c.index-rows-r.is c.loop-r-test.true in
    let price_now : ℤ = c.price.result in
    let same : to_z w64 (of_z w64 price_now) ≡ price_now = read_back 16777216 price_now (omega arith) c.price.ensures.within in
    let more : (i : ℕ) → i < size P.bank → at c.add_priced_row.new.weights i ≡ at c.loop-r.weights i +ℤ (price_now *ℤ pos (item_activity P.bank c.index-rows-r.result i)) =
    λ i w. c.add_priced_row.ensures i w ∙ ap (λ z. at c.loop-r.weights i +ℤ (z *ℤ pos (item_activity P.bank c.index-rows-r.result i))) same in
    record {
      value = λ i w.
          let e-term : price_now *ℤ pos (item_activity P.bank c.index-rows-r.result i) ≡ item_share P M i r =
          ap (λ z. z *ℤ pos (item_activity P.bank c.index-rows-r.result i)) c.price.ensures.value ∙ ap (λ (x : Row). price M (2 * r) *ℤ pos (item_activity P.bank x i)) row in
          more i w ∙ ap (λ z. z +ℤ (price_now *ℤ pos (item_activity P.bank c.index-rows-r.result i))) (c.loop-r.invariant.value i w) ∙ regrouped (own_weight P M c.args.ray i) (total_z r (item_share P M i)) (price_now *ℤ pos (item_activity P.bank c.index-rows-r.result i)) ∙ ap (λ z. own_weight P M c.args.ray i +ℤ (total_z r (item_share P M i) +ℤ z)) e-term ∙ ap (λ z. own_weight P M c.args.ray i +ℤ z) (sym (total_more r (item_share P M i)));
      within = λ i w.
          let range = product_within price_now (item_activity P.bank c.index-rows-r.result i) c.price.ensures.within (activity_high P.bank c.requires.well_made.bank c.index-rows-r.result i) in
          subst (IsWithin (272777216 + (r + 1) * row_top)) (sym (more i w)) (summed_within (272777216 + r * row_top) row_top (272777216 + (r + 1) * row_top) _ _ (omega arith) (c.loop-r.invariant.within i w) range);
    }
  where
    regrouped : (a b d : ℤ) → (a +ℤ b) +ℤ d ≡ a +ℤ (b +ℤ d)
    regrouped a b d = omega (arith, ints)

pub returns-clause-value : goal.returns-clause-value
unfolding item_weight
returns-clause-value c i w =
    let P = problem_of c.args.problem.now in
    let M : ℕ → ℕ = slice_index c.args.sides.now in
    let same : length c.rows-rows.result.now ≡ length P.plan.rows = ap (λ (xs : List Row). length xs) c.rows-rows.ensures in
    let all : c.loop-r.r ≡ length P.plan.rows = omega (arith, same) in
    c.loop-r.invariant.value i w
    ∙ ap (λ (n : ℕ). own_weight P M c.args.ray i +ℤ total_z n (item_share P M i)) all
    ∙ exchanged (pos (weight P c.args.ray i)) (price_of_stimulus P M (stimulus P.bank i)) (total_z (length P.plan.rows) (item_share P M i))
  where
    exchanged : (a b d : ℤ) → (a +ℤ b) +ℤ d ≡ a +ℤ (d +ℤ b)
    exchanged a b d = omega (arith, ints)

pub add_priced_row-requires-clause-within : goal.add_priced_row-requires-clause-within
add_priced_row-requires-clause-within c i w =
    let P = problem_of c.args.problem.now in
    let few : c.loop-r.r < 128 = row_number P.plan c.rows-rows.result.now c.loop-r.r c.rows-rows.ensures c.loop-r-test.true c.requires.well_made.plan.few_rows in
    wider (272777216 + c.loop-r.r * row_top) item_top (at c.loop-r.weights i) (omega arith) (c.loop-r.invariant.within i w)
