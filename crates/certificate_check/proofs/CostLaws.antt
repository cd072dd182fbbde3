-- The numbers of the code are the margins and the room of a vector.
use Rattle.std.proofs.Common.{◌≡◌, ℕ, zero, suc, ◌+◌, ◌*◌, ◌<◌, ◌≤◌, inl, inr, Bool, true, false, cond, not, ◌&&◌, ◌==◌, List, nat_lt, ℤ, pos, ◌+ℤ◌, ◌-ℤ◌, ◌*ℤ◌, neg_ℤ, refl, sym, ap, ◌∙◌, subst, arith, w64, to_z, of_z}
use Rattle.std.specs.Prelude.{int_lt, Some}
use Rattle.std.specs.Int.{int_max}
use Rattle.std.proofs.lemmas.Int.{ints}
use Rattle.std.proofs.lemmas.Bool.{eqb-true, ne_eqb, ltb-true, and_parts}
use Rattle.bank_tables.specs.Items.{Set}
use Rattle.bank_tables.specs.Sums.{sum_in_z, total_z}
use Rattle.bank_tables.specs.Tables.{size, stimulus}
use Rattle.form_model.specs.Forms.{stimuli_of}
use Rattle.form_model.specs.Problem.{Problem}
use Rattle.form_model.proofs.SumLaws.{either, any_elim, at_most_greatest}
use Rattle.certificate_model.specs.Fixing.{margin, above_zero, is_single, is_free_of, stimulus_margin, stimulus_most, places_left, fixing_bound, room}
use Rattle.certificate_model.specs.Paths.{Path, is_free, is_chosen, is_open}
use Rattle.certificate_model.specs.Ranges.{IsWithin, at}
use Rattle.certificate_model.specs.Relaxed.{Multipliers, multiplier, cap_side, excess_over, is_linked}
use Rattle.certificate_model.specs.Verdicts.{IsStimulusBranch}
use Rattle.certificate_model.specs.Weights.{price, item_weight, stimulus_weight, rows_constant}
use Rattle.certificate_model.proofs.Reduced.{total_z-same}
use Rattle.certificate_check.specs.Costs.{room_top}
use Rattle.certificate_check.specs.Maximum.{gain_of_stimulus}
use Rattle.certificate_check.specs.Weights.{excess_at}

-- ---- numbers near 0
pub read_back : (z : ℤ) → IsWithin room_top z → to_z w64 (of_z w64 z) ≡ z
read_back z w = omega (arith, ints)

pub wider : (top : ℕ) (z : ℤ) → top ≤ room_top → IsWithin top z → IsWithin room_top z
wider top z le w = record { low = omega (arith, ints, w.low); high = omega (arith, ints, w.high) }

none_within : (top : ℕ) → IsWithin top (pos 0)
none_within top = record { low = omega (arith, ints); high = omega (arith, ints) }

pub above_within : (top : ℕ) (z : ℤ) → IsWithin top z → IsWithin top (int_max (pos 0) z)
above_within top z w = elim (either (int_lt z (pos 0))) [ inl low ↦ rw low (none_within top) | inr high ↦ rw high w ]

pub below_within : (top : ℕ) (z : ℤ) → IsWithin top z → IsWithin top (int_max (pos 0) (neg_ℤ z))
below_within top z w = above_within top (neg_ℤ z) (record { low = omega (arith, ints, w.high); high = omega (arith, ints, w.low) })

-- what is above or below 0 in a number that is near it
pub above_is : (top : ℕ) (z m r : ℤ) → top ≤ room_top → IsWithin top z → z ≡ m → r ≡ int_max (pos 0) (to_z w64 (of_z w64 z)) → (to_z w64 (of_z w64 r) ≡ int_max (pos 0) m) × IsWithin top (to_z w64 (of_z w64 r))
above_is top z m r le w e is =
    let plain : r ≡ int_max (pos 0) z = is ∙ ap (λ (x : ℤ). int_max (pos 0) x) (read_back z (wider top z le w)) in
    let near : IsWithin top r = subst (IsWithin top) (sym plain) (above_within top z w) in
    let back : to_z w64 (of_z w64 r) ≡ r = read_back r (wider top r le near) in
    (back ∙ plain ∙ ap (λ (x : ℤ). int_max (pos 0) x) e, subst (IsWithin top) (sym back) near)

pub below_is : (top : ℕ) (z m r : ℤ) → top ≤ room_top → IsWithin top z → z ≡ m → r ≡ int_max (pos 0) (neg_ℤ (to_z w64 (of_z w64 z))) → (to_z w64 (of_z w64 r) ≡ int_max (pos 0) (neg_ℤ m)) × IsWithin top (to_z w64 (of_z w64 r))
below_is top z m r le w e is =
    let plain : r ≡ int_max (pos 0) (neg_ℤ z) = is ∙ ap (λ (x : ℤ). int_max (pos 0) (neg_ℤ x)) (read_back z (wider top z le w)) in
    let near : IsWithin top r = subst (IsWithin top) (sym plain) (below_within top z w) in
    let back : to_z w64 (of_z w64 r) ≡ r = read_back r (wider top r le near) in
    (back ∙ plain ∙ ap (λ (x : ℤ). int_max (pos 0) (neg_ℤ x)) e, subst (IsWithin top) (sym back) near)

-- ---- a free item is one of the bank's
pub free_below : (P : Problem) (p : Path) (i : ℕ) → is_free P p i ≡ true → i < size P.bank
free_below P p i free = ltb-true i (size P.bank) (and_parts (nat_lt i (size P.bank)) _ free).0

-- ---- an open stimulus is one of the bank's
pub open_branch : (P : Problem) (p : Path) (s : ℕ) → is_open P p s ≡ true → IsStimulusBranch P p s
open_branch P p s opened =
    let uses = (and_parts (not (is_chosen P p s)) _ opened).1 in
    let parts = and_parts (nat_lt 0 s) _ uses in
    let (i, within, at) = any_elim (size P.bank) (λ i. is_free P p i && stimulus P.bank i == s) parts.1 in
    let here : stimulus P.bank i ≡ s = eqb-true (stimulus P.bank i) s (and_parts (is_free P p i) _ at).1 in
    record {
      first = ltb-true 0 s parts.0;
      last = subst (λ (t : ℕ). t ≤ stimuli_of P.bank) here (at_most_greatest (size P.bank) (stimulus P.bank) i within);
      is_open = opened;
    }

-- ---- sums
pub sums_alike : (n : ℕ) (X Y : Set) (f g : ℕ → ℤ) → ((i : ℕ) → i < n → cond (X i) (f i) (pos 0) ≡ cond (Y i) (g i) (pos 0)) → sum_in_z n X f ≡ sum_in_z n Y g
sums_alike zero X Y f g h = refl
sums_alike (suc n) X Y f g h =
    let rest : sum_in_z n X f ≡ sum_in_z n Y g = sums_alike n X Y f g (λ i w. h i (omega arith)) in
    let last : cond (X n) (f n) (pos 0) ≡ cond (Y n) (g n) (pos 0) = h n (omega arith) in
    omega (arith, ints)

and_true : (b : Bool) → (b && true) ≡ b
and_true true = refl
and_true false = refl

and_false : (b : Bool) (z : ℤ) → cond (b && false) z (pos 0) ≡ pos 0
and_false true z = refl
and_false false z = refl

module _ (P : Problem) (p : Path) (v : Multipliers) (weights margins excesses : List ℤ)
    (weighed : (i : ℕ) → i < size P.bank → at weights i ≡ item_weight P (multiplier v) false i)
    (lowered : (i : ℕ) → i < size P.bank → at margins i ≡ at weights i -ℤ price (multiplier v) cap_side)
    (above : (k : ℕ) → k < 64 → at excesses k ≡ sum_in_z (size P.bank) (λ i. stimulus P.bank i == suc k) (excess_at P p (multiplier v) weights))
    (few : stimuli_of P.bank ≤ 64)
  where
    over_cap : (i : ℕ) → i < size P.bank → at weights i -ℤ price (multiplier v) cap_side ≡ margin P v i
    unfolding margin
    over_cap i w = ap (λ (z : ℤ). z -ℤ price (multiplier v) cap_side) (weighed i w)

    pub margins_are : (i : ℕ) → i < size P.bank → at margins i ≡ margin P v i
    margins_are i w = lowered i w ∙ over_cap i w

    linked_part : (i k : ℕ) → i < size P.bank → is_open P p (suc k) ≡ true → cond (stimulus P.bank i == suc k) (excess_at P p (multiplier v) weights i) (pos 0) ≡ cond (is_free P p i && stimulus P.bank i == suc k) (above_zero (margin P v i)) (pos 0)
    linked_part i k w opened =
        let free : Bool = is_free P p i in
        let own : ℤ = above_zero (margin P v i) in
        let over : ℤ = excess_at P p (multiplier v) weights i in
        elim (either (stimulus P.bank i == suc k)) [
          | inl of_it ↦
              let e : stimulus P.bank i ≡ suc k = eqb-true (stimulus P.bank i) (suc k) of_it in
              let linked : is_linked P p i ≡ free = ap (λ (s : ℕ). not (s == 0) && (free && is_open P p s)) e ∙ ap (λ (b : Bool). not b && (free && is_open P p (suc k))) (ne_eqb (suc k) 0 (omega arith)) ∙ ap (λ (o : Bool). free && o) opened ∙ and_true free in
              let same : over ≡ cond free own (pos 0) = ap (λ (b : Bool). cond b (excess_over (Some (price (multiplier v) cap_side)) (at weights i)) (pos 0)) linked ∙ ap (λ (z : ℤ). cond free (above_zero z) (pos 0)) (over_cap i w) in
              ap (λ (b : Bool). cond b over (pos 0)) of_it ∙ same ∙ sym (ap (λ (b : Bool). cond (free && b) own (pos 0)) of_it ∙ ap (λ (b : Bool). cond b own (pos 0)) (and_true free))
          | inr other ↦ ap (λ (b : Bool). cond b over (pos 0)) other ∙ sym (ap (λ (b : Bool). cond (free && b) own (pos 0)) other ∙ and_false free own)
        ]

    use_is : (k : ℕ) → k < stimuli_of P.bank → is_open P p (suc k) ≡ true → stimulus_weight P (multiplier v) (suc k) +ℤ at excesses k ≡ stimulus_margin P p v (suc k)
    unfolding stimulus_margin
    use_is k w opened =
        ap (λ (z : ℤ). stimulus_weight P (multiplier v) (suc k) +ℤ z)
        (above k (omega arith) ∙ sums_alike (size P.bank) (λ i. stimulus P.bank i == suc k) (is_free_of P p (suc k)) (excess_at P p (multiplier v) weights) (λ i. above_zero (margin P v i)) (λ i w. linked_part i k w opened))

    most_is : (k : ℕ) → k < stimuli_of P.bank → gain_of_stimulus P p (multiplier v) (at excesses k) (suc k) ≡ stimulus_most P p v (suc k)
    unfolding stimulus_most
    most_is k w =
        let W : ℤ = stimulus_weight P (multiplier v) (suc k) in
        let chosen : Bool = is_chosen P p (suc k) in
        elim (either (is_open P p (suc k))) [
          | inl opened ↦ ap (λ (z : ℤ). cond chosen W (cond (is_open P p (suc k)) (above_zero z) (pos 0))) (use_is k w opened)
          | inr closed ↦ ap (λ (o : Bool). cond chosen W (cond o (above_zero (W +ℤ at excesses k)) (pos 0))) closed ∙ sym (ap (λ (o : Bool). cond chosen W (cond o (above_zero (stimulus_margin P p v (suc k))) (pos 0))) closed)
        ]

    pub uses_are : (uses : List ℤ) → ((k : ℕ) → k < stimuli_of P.bank → at uses k ≡ stimulus_weight P (multiplier v) (suc k) +ℤ at excesses k)
        → (k : ℕ) → k < stimuli_of P.bank → is_open P p (suc k) ≡ true → at uses k ≡ stimulus_margin P p v (suc k)
    uses_are uses summed k w opened = summed k w ∙ use_is k w opened

    pub room_is : (goal : ℕ) (bound left : ℤ)
        → bound ≡ (rows_constant P (multiplier v) +ℤ sum_in_z (size P.bank) p.taken (at weights))
        +ℤ ((pos (places_left P p) *ℤ price (multiplier v) cap_side)
        +ℤ (sum_in_z (size P.bank) (is_single P p) (λ i. int_max (pos 0) (at margins i))
        +ℤ total_z (stimuli_of P.bank) (λ k. gain_of_stimulus P p (multiplier v) (at excesses k) (suc k))))
        → left ≡ bound -ℤ pos (256 * goal + 255)
        → left ≡ room P p v goal
    unfolding room fixing_bound
    room_is goal bound left summed lower =
        let taken : sum_in_z (size P.bank) p.taken (at weights) ≡ sum_in_z (size P.bank) p.taken (item_weight P (multiplier v) false) = sums_alike (size P.bank) p.taken p.taken (at weights) (item_weight P (multiplier v) false) (λ i w. ap (λ (z : ℤ). cond (p.taken i) z (pos 0)) (weighed i w)) in
        let single : sum_in_z (size P.bank) (is_single P p) (λ i. int_max (pos 0) (at margins i)) ≡ sum_in_z (size P.bank) (is_single P p) (λ i. above_zero (margin P v i)) = sums_alike (size P.bank) (is_single P p) (is_single P p) (λ i. int_max (pos 0) (at margins i)) (λ i. above_zero (margin P v i)) (λ i w. ap (λ (z : ℤ). cond (is_single P p i) (int_max (pos 0) z) (pos 0)) (margins_are i w)) in
        let most : total_z (stimuli_of P.bank) (λ k. gain_of_stimulus P p (multiplier v) (at excesses k) (suc k)) ≡ total_z (stimuli_of P.bank) (λ k. stimulus_most P p v (suc k)) = total_z-same (stimuli_of P.bank) (λ k. gain_of_stimulus P p (multiplier v) (at excesses k) (suc k)) (λ k. stimulus_most P p v (suc k)) most_is in
        let places : ℤ = pos (places_left P p) *ℤ price (multiplier v) cap_side in
        lower ∙ ap (λ (z : ℤ). z -ℤ pos (256 * goal + 255))
        (summed ∙ five (rows_constant P (multiplier v)) places _ _ _ _ _ _ taken single most)
      where
        five : (c q a b d a' b' d' : ℤ) → a ≡ a' → b ≡ b' → d ≡ d' → (c +ℤ a) +ℤ (q +ℤ (b +ℤ d)) ≡ (c +ℤ a') +ℤ (q +ℤ (b' +ℤ d'))
        five c q a b d a' b' d' e f g = cc
