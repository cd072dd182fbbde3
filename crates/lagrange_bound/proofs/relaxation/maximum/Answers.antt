use Rattle.std.proofs.Common.{◌≡◌, ◌⊎◌, ℕ, suc, ◌+◌, ◌*◌, ◌<◌, ◌≤◌, List, length, inl, inr, sym, ap, ◌∙◌, subst, arith, rules}
use Rattle.std.specs.Prelude.{ℤ, pos, neg_ℤ, ◌-ℤ◌, slice_index, Option}
use Rattle.std.proofs.lemmas.Int.{ints}
use Rattle.bank_tables.specs.Items.{Set, has}
use Rattle.bank_tables.specs.Sums.{sum_in_z, total_z}
use Rattle.bank_tables.specs.Tables.{size, stimulus}
use Rattle.form_model.specs.Forms.{size_in, stimuli_of}
use Rattle.certificate_model.specs.Ranges.{at}
use Rattle.certificate_model.specs.Relaxed.{Multipliers, multiplier, cap, IsRelaxedMaximum}
use Rattle.certificate_model.specs.Weights.{item_weight, rows_constant}
use Rattle.constraint_model.specs.Views.{problem_of}
use Rattle.lagrange_bound.specs.Fills.{at_least, IsSumOfGreatest}
use Rattle.lagrange_bound.specs.Links.{excess_on, gain_on, link_on}
use Rattle.lagrange_bound.specs.Ranges.{item_top}
use Rattle.lagrange_bound.proofs.CountingSteps.{greatest_at_most}
use Rattle.lagrange_bound.proofs.Filled.{all_free}
use Rattle.lagrange_bound.proofs.Maximum.{maximum_is}
use Rattle.lagrange_bound.proofs.Sums.{four_summed}
use Rattle.lagrange_bound.proofs.relaxation.maximum.Goals as goal

-- a side of the plan or of the cap has a place in the array
side_is_low : (side rows stimuli : ℕ) → rows ≤ 128 → stimuli ≤ 64 → (side < 2 * rows + 2 * stimuli) ⊎ ((side ≡ 384) ⊎ (side ≡ 385)) → side < 386
side_is_low side rows stimuli few few_stimuli (inl low) = omega arith
side_is_low side rows stimuli few few_stimuli (inr (inl e)) = omega arith
side_is_low side rows stimuli few few_stimuli (inr (inr e)) = omega arith

pub sides_of-sides-requires : goal.sides_of-sides-requires
sides_of-sides-requires c k d w =
    let P = problem_of c.args.problem.now in
    let few : stimuli_of P.bank ≤ 64 = greatest_at_most (size P.bank) 64 (stimulus P.bank) c.requires.well_made.bank.stimulus_high in
    side_is_low _ (length P.plan.rows) (stimuli_of P.bank) c.requires.well_made.plan.few_rows few (c.requires.sides k d w)

pub sum_of_greatest-filled-requires-clause-enough : goal.sum_of_greatest-filled-requires-clause-enough
sum_of_greatest-filled-requires-clause-enough c =
    let b = c.args.problem.now.bank.now in
    let n = c.items-items.result in
    let lowered : List ℤ = c.cap_weights-excesses.new.weights in
    let xs : List ℤ = c.mark_others.new.weights in
    let F : Set = has c.args.cut.now.free in
    let items : n ≡ size b = c.items-items.ensures.items in
    let all : size_in b F ≡ at_least n xs (neg_ℤ (pos item_top)) =
    subst (λ (m : ℕ). size_in b F ≡ at_least m xs (neg_ℤ (pos item_top))) (sym items)
    (all_free (size b) F (at lowered) xs (neg_ℤ (pos item_top)) (λ i w. c.mark_others.ensures.value i (omega (arith, items))) (omega (arith, ints)) c.cap_weights-excesses.ensures.within (size b) (omega arith)) in
    omega (arith, c.requires.enough)

pub returns : goal.returns
returns c p is =
    let P = problem_of c.args.problem.now in
    let v : Multipliers = c.args.vector.now in
    let n = c.items-items.result in
    let items : n ≡ size P.bank = c.items-items.ensures.items in
    let weights : List ℤ = c.item_weights-weights.result in
    let lowered : List ℤ = c.cap_weights-excesses.new.weights in
    let xs : List ℤ = c.mark_others.new.weights in
    let excesses : List ℤ = c.cap_weights-excesses.result in
    let few : stimuli_of P.bank ≤ 64 = greatest_at_most (size P.bank) 64 (stimulus P.bank) c.requires.well_made.bank.stimulus_high in
    let sides : slice_index c.sides_of-sides.result ≡ multiplier v = c.sides_of-sides.ensures.value in
    let capped : c.cap_of.result ≡ cap v = c.cap_of.ensures.value v c.sides_of-sides.ensures.vector sides in
    let filled : IsSumOfGreatest (size P.bank) xs c.args.wanted c.sum_of_greatest-filled.result = subst (λ (m : ℕ). IsSumOfGreatest m xs c.args.wanted c.sum_of_greatest-filled.result) items c.sum_of_greatest-filled.ensures.sum in
    let taken : c.sum_over-taken.result ≡ sum_in_z (size P.bank) (has c.args.cut.now.taken) (at weights) = c.sum_over-taken.ensures.value ∙ ap (λ (m : ℕ). sum_in_z m (has c.args.cut.now.taken) (at weights)) items in
    let weighed : (i : ℕ) → i < size P.bank → at weights i ≡ item_weight P (multiplier v) c.args.ray i =
    λ i w. c.item_weights-weights.ensures.value i w ∙ ap (λ (M : ℕ → ℕ). item_weight P M c.args.ray i) sides in
    let less : (i : ℕ) → i < size P.bank → at lowered i ≡ at weights i -ℤ link_on P.bank c.args.cut.now (cap v) weights i =
    λ i w. c.cap_weights-excesses.ensures.weights i w ∙ ap (λ (o : Option ℤ). at weights i -ℤ link_on P.bank c.args.cut.now o weights i) capped in
    let above : (s : ℕ) → s ≤ 64 → at excesses s ≡ excess_on P.bank c.args.cut.now (cap v) weights s =
    λ s w. c.cap_weights-excesses.ensures.excesses s w ∙ ap (λ (o : Option ℤ). excess_on P.bank c.args.cut.now o weights s) capped in
    let constant : c.rows_constant.result ≡ rows_constant P (multiplier v) = c.rows_constant.ensures.value ∙ ap (λ (M : ℕ → ℕ). rows_constant P M) sides in
    let gains : c.gains.result ≡ total_z (stimuli_of P.bank) (λ k. gain_on P c.args.cut.now (multiplier v) excesses (suc k)) =
    c.gains.ensures.value ∙ ap (λ (M : ℕ → ℕ). total_z (stimuli_of P.bank) (λ k. gain_on P c.args.cut.now M excesses (suc k))) sides in
    subst (IsRelaxedMaximum P p v c.args.ray) (sym (four_summed c.rows_constant.result c.sum_over-taken.result c.sum_of_greatest-filled.result c.gains.result c.rows_constant.ensures.within c.sum_over-taken.ensures.within c.sum_of_greatest-filled.ensures.within c.gains.ensures.within))
    (maximum_is P p c.args.cut.now is v c.args.ray weights lowered xs excesses weighed less (λ i w. c.mark_others.ensures.value i (omega (arith, items))) above few c.args.wanted c.requires.fills c.rows_constant.result c.sum_over-taken.result c.sum_of_greatest-filled.result c.gains.result filled constant taken gains)

pub sum_over-taken-requires-clause-within : goal.sum_over-taken-requires-clause-within
sum_over-taken-requires-clause-within c = search rules

pub cap_weights-excesses-requires-clause-weights : goal.cap_weights-excesses-requires-clause-weights
cap_weights-excesses-requires-clause-weights c = search rules

pub mark_others-requires-clause-within : goal.mark_others-requires-clause-within
mark_others-requires-clause-within c = search rules

pub sum_of_greatest-filled-requires-clause-weights : goal.sum_of_greatest-filled-requires-clause-weights
sum_of_greatest-filled-requires-clause-weights c = search rules

pub overflow_add-result : goal.overflow_add-result
overflow_add-result c = search rules

pub gains-requires-clause-excesses : goal.gains-requires-clause-excesses
gains-requires-clause-excesses c = search rules

pub overflow_add-result-2 : goal.overflow_add-result-2
overflow_add-result-2 c = search rules

pub overflow_add-result-3 : goal.overflow_add-result-3
overflow_add-result-3 c = search rules
