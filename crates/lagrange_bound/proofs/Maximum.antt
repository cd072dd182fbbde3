-- What the code sums up is the relaxed maximum.
use Rattle.std.proofs.Common.{◌≡◌, ℕ, suc, ◌+◌, ◌<◌, ◌≤◌, ◌==◌, Bool, cond, List, sym, ap, ◌∙◌, subst, arith}
use Rattle.std.specs.Prelude.{ℤ, pos, ◌+ℤ◌, ◌-ℤ◌}
use Rattle.std.specs.Int.{int_max}
use Rattle.bank_tables.specs.Items.{Set, has}
use Rattle.bank_tables.specs.Sums.{sum_in_z, total_z}
use Rattle.bank_tables.specs.Tables.{size, stimulus}
use Rattle.form_model.specs.Forms.{size_in, stimuli_of}
use Rattle.form_model.specs.Problem.{Problem}
use Rattle.certificate_model.specs.Paths.{Path, is_free, is_chosen}
use Rattle.certificate_model.specs.Ranges.{at}
use Rattle.certificate_model.specs.Relaxed.{Multipliers, multiplier, cap, link_multiplier, IsRelaxedMaximum}
use Rattle.certificate_model.specs.ClosedForm.{capped_weight, excess_of_items, IsGreatestFill, stimulus_gain}
use Rattle.certificate_model.specs.Weights.{item_weight, stimulus_weight, rows_constant}
use Rattle.certificate_model.proofs.ClosedFormLaws.{closed_form_is}
use Rattle.certificate_model.proofs.Reduced.{total_z-same}
use Rattle.lagrange_bound.specs.declared.cut.Cut.{Cut}
use Rattle.lagrange_bound.specs.Cuts.{IsCutOf}
use Rattle.lagrange_bound.specs.Fills.{no_weight, IsSumOfGreatest}
use Rattle.lagrange_bound.specs.Links.{excess_on, gain_on, link_on}
use Rattle.lagrange_bound.proofs.Filled.{T, number, free, high, others, sum_is}
use Rattle.lagrange_bound.proofs.Linked.{link_is, sum_in_z-same}

summed : (a b c d a' b' c' d' : ℤ) → a ≡ a' → b ≡ b' → c ≡ c' → d ≡ d' → a +ℤ ((b +ℤ c) +ℤ d) ≡ a' +ℤ ((b' +ℤ c') +ℤ d')
summed a b c d a' b' c' d' e f g h = cc

module _ (P : Problem) (p : Path) (cut : Cut) (is : IsCutOf P p cut) (v : Multipliers) (ray : Bool) (weights lowered xs excesses : List ℤ)
    (weighed : (i : ℕ) → i < size P.bank → at weights i ≡ item_weight P (multiplier v) ray i)
    (capped : (i : ℕ) → i < size P.bank → at lowered i ≡ at weights i -ℤ link_on P.bank cut (cap v) weights i)
    (marked : (i : ℕ) → i < size P.bank → at xs i ≡ cond (has cut.free i) (at lowered i) no_weight)
    (above : (s : ℕ) → s ≤ 64 → at excesses s ≡ excess_on P.bank cut (cap v) weights s)
    (few_stimuli : stimuli_of P.bank ≤ 64)
    (k : ℕ)
    (fills : size_in P.bank (has cut.taken) + k ≡ P.plan.length)
    (constant taken filled gains : ℤ)
    (greatest : IsSumOfGreatest (size P.bank) xs k filled)
  where
    link_now : (i : ℕ) → i < size P.bank → link_on P.bank cut (cap v) weights i ≡ link_multiplier P p v ray i
    link_now i w = link_is P p cut is v ray weights i (weighed i w)

    capped_now : (i : ℕ) → i < size P.bank → at lowered i ≡ capped_weight P p v ray i
    capped_now i w =
        capped i w
        ∙ ap (λ (z : ℤ). z -ℤ link_on P.bank cut (cap v) weights i) (weighed i w)
        ∙ ap (λ (z : ℤ). item_weight P (multiplier v) ray i -ℤ z) (link_now i w)

    marked_now : (i : ℕ) → i < size P.bank → at xs i ≡ cond (is_free P p i) (capped_weight P p v ray i) no_weight
    marked_now i w =
        marked i w
        ∙ ap (λ (F : Set). cond (F i) (at lowered i) no_weight) is.free
        ∙ ap (λ (z : ℤ). cond (is_free P p i) z no_weight) (capped_now i w)

    excess_now : (s : ℕ) → s ≤ 64 → at excesses s ≡ excess_of_items P p v ray s
    unfolding excess_of_items
    excess_now s few = above s few ∙ sum_in_z-same (size P.bank) (λ i. stimulus P.bank i == s) (link_on P.bank cut (cap v) weights) (link_multiplier P p v ray) link_now

    gain_now : (s : ℕ) → s ≤ 64 → gain_on P cut (multiplier v) excesses s ≡ stimulus_gain P p v ray s
    gain_now s few =
        let u : ℤ = stimulus_weight P (multiplier v) s in
        ap (λ (z : ℤ). cond (has cut.chosen s) u (cond (has cut.opened s) (int_max (pos 0) (u +ℤ z)) (pos 0))) (excess_now s few)
        ∙ ap (λ (C : Set). cond (C s) u (cond (has cut.opened s) (int_max (pos 0) (u +ℤ excess_of_items P p v ray s)) (pos 0))) is.chosen
        ∙ ap (λ (O : Set). cond (is_chosen P p s) u (cond (O s) (int_max (pos 0) (u +ℤ excess_of_items P p v ray s)) (pos 0))) is.opened

    pub maximum_is : constant ≡ rows_constant P (multiplier v)
        → taken ≡ sum_in_z (size P.bank) (has cut.taken) (at weights)
        → gains ≡ total_z (stimuli_of P.bank) (λ k. gain_on P cut (multiplier v) excesses (suc k))
        → IsRelaxedMaximum P p v ray (constant +ℤ ((taken +ℤ filled) +ℤ gains))
    maximum_is a b d =
        let n = size P.bank in
        let w : ℕ → ℤ = capped_weight P p v ray in
        let t = greatest.threshold in
        let few = greatest.is.few in
        let enough = greatest.is.enough in
        let X : Set = T n (is_free P p) w xs t marked_now greatest.is.low k few enough in
        let fill : IsGreatestFill P p v ray X t =
        record {
          free = free n (is_free P p) w xs t marked_now greatest.is.low k few enough;
          fills = ap (λ (m : ℕ). size_in P.bank p.taken + m) (number n (is_free P p) w xs t marked_now greatest.is.low k few enough) ∙ ap (λ (Y : Set). size_in P.bank Y + k) (sym is.taken) ∙ fills;
          above = λ i below e. high n (is_free P p) w xs t marked_now greatest.is.low k few enough i e;
          others = λ i below e f. others n (is_free P p) w xs t marked_now greatest.is.low k few enough i e f;
        } in
        let taken_now : taken ≡ sum_in_z n p.taken (item_weight P (multiplier v) ray) = b ∙ sum_in_z-same n (has cut.taken) (at weights) (item_weight P (multiplier v) ray) weighed ∙ ap (λ (Y : Set). sum_in_z n Y (item_weight P (multiplier v) ray)) is.taken in
        let filled_now : filled ≡ sum_in_z n X w = greatest.value ∙ sym (sum_is n (is_free P p) w xs t marked_now greatest.is.low k few enough) in
        let gains_now : gains ≡ total_z (stimuli_of P.bank) (λ k. stimulus_gain P p v ray (suc k)) =
        d ∙ total_z-same (stimuli_of P.bank) (λ k. gain_on P cut (multiplier v) excesses (suc k)) (λ k. stimulus_gain P p v ray (suc k)) (λ k below. gain_now (suc k) (omega arith)) in
        subst (IsRelaxedMaximum P p v ray)
        (sym (summed constant taken filled gains (rows_constant P (multiplier v)) (sum_in_z n p.taken (item_weight P (multiplier v) ray)) (sum_in_z n X w) (total_z (stimuli_of P.bank) (λ k. stimulus_gain P p v ray (suc k))) a taken_now filled_now gains_now))
        (closed_form_is P p v ray X t fill)
