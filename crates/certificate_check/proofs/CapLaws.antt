-- The cap of the code is the cap of the vector, and its arrays hold what the cap makes of the
-- weights.
use Rattle.std.proofs.Common.{◌≡◌, ℕ, zero, suc, ◌+◌, ◌<◌, ◌≤◌, inl, inr, Bool, true, false, cond, not, ◌||◌, ◌==◌, List, [], ◌∷◌, ℤ, pos, ◌-ℤ◌, Option, Some, None, refl, sym, ap, ◌∙◌, arith}
use Rattle.std.specs.Prelude.{replicate}
use Rattle.std.proofs.lemmas.Int.{ints}
use Rattle.std.proofs.lemmas.Bool.{ne_eqb}
use Rattle.bank_tables.specs.Items.{Set}
use Rattle.bank_tables.specs.Sums.{sum_in_z}
use Rattle.bank_tables.specs.Tables.{size, stimulus}
use Rattle.form_model.specs.Forms.{stimuli_of}
use Rattle.form_model.specs.Problem.{Problem}
use Rattle.certificate_model.specs.Paths.{Path}
use Rattle.certificate_model.specs.ProofTrees.{IsVector}
use Rattle.certificate_model.specs.Ranges.{at}
use Rattle.certificate_model.specs.Weights.{price, item_weight}
use Rattle.certificate_model.specs.Relaxed.{Multipliers, multiplier, names, cap, cap_side, excess_over, is_linked, link_multiplier}
use Rattle.certificate_model.specs.ClosedForm.{excess_of_items}
use Rattle.form_model.proofs.SumLaws.{either}
use Rattle.certificate_check.specs.Caps.{has_cap, AreCapped}
use Rattle.certificate_check.specs.Weights.{excess_at}

-- a side is named where it has a multiplier
names-is : (from : ℕ) (v : Multipliers) (side : ℕ) → IsVector from v → names v side ≡ not (multiplier v side == 0)
names-is from [] side is = refl
names-is from (pair ∷ v) side is =
    elim (either (pair.0 == side)) [
      | inl here ↦ rw here (sym (ap not (ne_eqb pair.1 0 (omega (arith, is.1)))))
      | inr other ↦ rw other (names-is (pair.0 + 1) v side is.3)
    ]

pub cap_is : (v : Multipliers) → IsVector 0 v → cap v ≡ cond (has_cap (multiplier v)) (Some (price (multiplier v) cap_side)) None
cap_is v is =
    ap (λ (b : Bool). cond (b || names v (cap_side + 1)) (Some (price (multiplier v) cap_side)) None) (names-is 0 v cap_side is)
    ∙ ap (λ (b : Bool). cond (not (multiplier v cap_side == 0) || b) (Some (price (multiplier v) cap_side)) None) (names-is 0 v (cap_side + 1) is)

sum_in_z-same : (n : ℕ) (X : Set) (f g : ℕ → ℤ) → ((i : ℕ) → i < n → f i ≡ g i) → sum_in_z n X f ≡ sum_in_z n X g
sum_in_z-same zero X f g h = refl
sum_in_z-same (suc n) X f g h = rw (sum_in_z-same n X f g (λ i w. h i (omega arith)), h n (omega arith)) refl

sum_in_z-none : (n : ℕ) (X : Set) (f : ℕ → ℤ) → ((i : ℕ) → f i ≡ pos 0) → sum_in_z n X f ≡ pos 0
sum_in_z-none zero X f h = refl
sum_in_z-none (suc n) X f h =
    let rest = sum_in_z-none n X f h in
    elim (either (X n)) [ inl member ↦ rw member (omega (arith, ints, h n)) | inr other ↦ rw other (omega (arith, ints)) ]

minus_zero : (a m : ℤ) → m ≡ pos 0 → a ≡ a -ℤ m
minus_zero a m e = omega (arith, ints)

none_over : (linked : Bool) (weight : ℤ) → cond linked (excess_over None weight) (pos 0) ≡ pos 0
none_over true weight = refl
none_over false weight = refl

pub zeros : (n k : ℕ) → at (replicate n (pos 0)) k ≡ pos 0
zeros zero k = refl
zeros (suc n) zero = refl
zeros (suc n) (suc k) = zeros n k

module _ (P : Problem) (p : Path) (v : Multipliers) (ray : Bool) (weights : List ℤ) (weighed : (i : ℕ) → i < size P.bank → at weights i ≡ item_weight P (multiplier v) ray i) where
  link_is : cap v ≡ Some (price (multiplier v) cap_side) → (i : ℕ) → i < size P.bank → excess_at P p (multiplier v) weights i ≡ link_multiplier P p v ray i
  unfolding link_multiplier
  link_is e i w =
      ap (λ (z : ℤ). cond (is_linked P p i) (excess_over (Some (price (multiplier v) cap_side)) z) (pos 0)) (weighed i w)
      ∙ ap (λ (o : Option ℤ). cond (is_linked P p i) (excess_over o (item_weight P (multiplier v) ray i)) (pos 0)) (sym e)

  pub with_cap : (capped excesses : List ℤ) → cap v ≡ Some (price (multiplier v) cap_side)
      → ((i : ℕ) → i < size P.bank → at capped i ≡ at weights i -ℤ excess_at P p (multiplier v) weights i)
      → ((k : ℕ) → k < 64 → at excesses k ≡ sum_in_z (size P.bank) (λ i. stimulus P.bank i == suc k) (excess_at P p (multiplier v) weights))
      → stimuli_of P.bank ≤ 64
      → AreCapped P p v ray capped excesses
  unfolding excess_of_items
  with_cap capped excesses e lowered above few =
      record {
        weights_are = λ i w.
            lowered i w
            ∙ ap (λ (z : ℤ). z -ℤ excess_at P p (multiplier v) weights i) (weighed i w)
            ∙ ap (λ (z : ℤ). item_weight P (multiplier v) ray i -ℤ z) (link_is e i w);
        excesses_are = λ k w. above k (omega arith) ∙ sum_in_z-same (size P.bank) (λ i. stimulus P.bank i == suc k) (excess_at P p (multiplier v) weights) (link_multiplier P p v ray) (link_is e);
      }

  no_link : cap v ≡ None → (i : ℕ) → link_multiplier P p v ray i ≡ pos 0
  unfolding link_multiplier
  no_link e i = ap (λ (o : Option ℤ). cond (is_linked P p i) (excess_over o (item_weight P (multiplier v) ray i)) (pos 0)) e ∙ none_over (is_linked P p i) (item_weight P (multiplier v) ray i)

  pub without_cap : (n : ℕ) → cap v ≡ None → AreCapped P p v ray weights (replicate n (pos 0))
  unfolding excess_of_items
  without_cap n e =
      record {
        weights_are = λ i w. weighed i w ∙ minus_zero (item_weight P (multiplier v) ray i) (link_multiplier P p v ray i) (no_link e i);
        excesses_are = λ k w. zeros n k ∙ sym (sum_in_z-none (size P.bank) (λ i. stimulus P.bank i == suc k) (link_multiplier P p v ray) (no_link e));
      }
