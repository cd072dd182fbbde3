use Rattle.std.proofs.Common.{◌≡◌, ◌≤◌, ◌+◌, ◌*◌, ℕ, length, arith, ap, subst, add-one}
use Rattle.std.specs.Prelude.{ℤ, pos, ◌+ℤ◌, List, slice_index}
use Rattle.std.proofs.lemmas.Int.{ints}
use Rattle.bank_tables.specs.Sums.{total_z}
use Rattle.bank_tables.specs.Tables.{stimulus}
use Rattle.form_model.specs.declared.row.Row.{Row}
use Rattle.certificate_model.specs.Weights.{weight, item_share, price_of_stimulus, item_weight}
use Rattle.constraint_model.specs.Views.{problem_of}
use Rattle.certificate_model.specs.Ranges.{IsWithin, at}
use Rattle.certificate_check.specs.Weights.{IsAdded, weight_up_to, item_top}
use Rattle.certificate_check.proofs.weights.item_weights.Goals as goal

-- a row more goes to the rows
regrouped : (new old x a t s : ℤ) → new ≡ old +ℤ x → old ≡ a +ℤ (t +ℤ s) → new ≡ a +ℤ ((t +ℤ x) +ℤ s)
regrouped new old x a t s e f = omega (arith, ints)

more_within : (r : ℕ) (new old x : ℤ) → IsWithin (r * 1099494850560 + 1099750850560) old → IsAdded 1099494850560 old x new → IsWithin ((r + 1) * 1099494850560 + 1099750850560) new
more_within r new old x w added = record { low = omega (arith, ints, w.low, added.within.low, added.sum); high = omega (arith, ints, w.high, added.within.high, added.sum) }

wider : (r : ℕ) (z : ℤ) → r ≤ 128 → IsWithin (r * 1099494850560 + 1099750850560) z → IsWithin item_top z
wider r z few w = record { low = omega (arith, ints, w.low); high = omega (arith, ints, w.high) }

pub loop-r-init : goal.loop-r-init
loop-r-init c = record { column = c.no_column-column.ensures c.args.problem.now.bank.now; value = c.plain_weights-weights.ensures.value; within = c.plain_weights-weights.ensures.within }

pub add_row_at-requires-clause-within : goal.add_row_at-requires-clause-within
add_row_at-requires-clause-within c = λ i w. wider c.loop-r.r (at c.loop-r.weights i) (omega (arith, c.loop-r-test.true, ap (λ (xs : List Row). length xs) c.rows-rows.ensures, c.requires.well_made.plan.few_rows)) (c.loop-r.invariant.within i w)

pub loop-r-preserved : goal.loop-r-preserved
loop-r-preserved c =
    let P = problem_of c.args.problem.now in
    let M : ℕ → ℕ = slice_index c.args.sides.now in
    let r = c.loop-r.r in
    record {
      value = λ i w. rw add-one (regrouped (at c.add_row_at.new.weights i) (at c.loop-r.weights i) (item_share P M i r) (pos (weight P c.args.ray i)) (total_z r (item_share P M i)) (price_of_stimulus P M (stimulus P.bank i)) (c.add_row_at.ensures.added i w).sum (c.loop-r.invariant.value i w));
      column = c.add_row_at.ensures.column;
      within = λ i w. more_within r (at c.add_row_at.new.weights i) (at c.loop-r.weights i) (item_share P M i r) (c.loop-r.invariant.within i w) (c.add_row_at.ensures.added i w);
    }

pub returns-clause-value : goal.returns-clause-value
unfolding item_weight
returns-clause-value c =
    let P = problem_of c.args.problem.now in
    let M : ℕ → ℕ = slice_index c.args.sides.now in
    let last : c.loop-r.r ≡ length P.plan.rows = omega (arith, c.loop-r.auto.r-end, c.loop-r-test.false, ap (λ (xs : List Row). length xs) c.rows-rows.ensures) in
    λ i w. subst (λ (n : ℕ). at c.loop-r.weights i ≡ weight_up_to P M c.args.ray n i) last (c.loop-r.invariant.value i w)

pub returns-clause-within : goal.returns-clause-within
returns-clause-within c = λ i w. wider c.loop-r.r (at c.loop-r.weights i) (omega (arith, c.loop-r.auto.r-end, ap (λ (xs : List Row). length xs) c.rows-rows.ensures, c.requires.well_made.plan.few_rows)) (c.loop-r.invariant.within i w)
