-- The cap of a vector and the links, by arrays.
use Rattle.std.proofs.Common.{◌≡◌, ℕ, zero, suc, ◌+◌, ◌<◌, ◌≤◌, ◌⊎◌, Bool, true, false, not, cond, ◌&&◌, ◌||◌, ◌==◌, nat_lt, ◌≢◌, List, [], ◌∷◌, length, replicate, set, inl, inr, add-one, below_more, refl, sym, ap, ◌∙◌, subst, arith}
use Rattle.std.specs.Prelude.{ℤ, pos, ◌+ℤ◌, ◌-ℤ◌, int_lt, Some, None, if◌then◌else◌}
use Rattle.std.proofs.lemmas.Int.{ints}
use Rattle.std.proofs.lemmas.Bool.{lt-ltb}
use Rattle.std.proofs.lemmas.Bool.Decides.{eqb_tells}
use Rattle.std.proofs.lemmas.List.{get_or-set_same, get_or-set_other}
use Rattle.bank_tables.specs.Items.{Set, has}
use Rattle.bank_tables.specs.Sums.{sum_in_z}
use Rattle.bank_tables.specs.Tables.{Tables, size, stimulus}
use Rattle.certificate_model.specs.ProofTrees.{IsVector}
use Rattle.form_model.specs.Problem.{Problem}
use Rattle.certificate_model.specs.Paths.{Path, is_free}
use Rattle.certificate_model.specs.Ranges.{IsWithin, at}
use Rattle.certificate_model.specs.Relaxed.{Multipliers, multiplier, names, cap, excess_over, is_linked, link_multiplier}
use Rattle.certificate_model.specs.Weights.{price, item_weight}
use Rattle.form_model.proofs.SumLaws.{either}
use Rattle.lagrange_bound.specs.declared.cut.Cut.{Cut}
use Rattle.lagrange_bound.specs.Cuts.{IsCutOf}
use Rattle.lagrange_bound.specs.Links.{is_linked_on, link_on, excess_on}
use Rattle.lagrange_bound.specs.Ranges.{item_top}

-- a vector names the sides that have a multiplier
names_is : (v : Multipliers) (from side : ℕ) → IsVector from v → names v side ≡ nat_lt 0 (multiplier v side)
names_is [] from side is = refl
names_is (pair ∷ pairs) from side is =
    elim (either (pair.0 == side)) [
      | inl same ↦ rw same (sym (lt-ltb 0 pair.1 is.1))
      | inr other ↦ rw other (names_is pairs (pair.0 + 1) side is.3)
    ]

positive : (n : ℕ) → (n ≡ 0) ⊎ (nat_lt 0 n ≡ true)
positive zero = inl refl
positive (suc n) = inr (lt-ltb 0 (suc n) (omega arith))

cap_is : (v : Multipliers) → IsVector 0 v → cap v ≡ (if nat_lt 0 (multiplier v 384) || nat_lt 0 (multiplier v 385) then Some (price (multiplier v) 384) else None)
cap_is v is =
    ap (λ (b : Bool). if b || names v 385 then Some (price (multiplier v) 384) else None) (names_is v 0 384 is)
    ∙ ap (λ (b : Bool). if nat_lt 0 (multiplier v 384) || b then Some (price (multiplier v) 384) else None) (names_is v 0 385 is)

pub cap_none : (v : Multipliers) → IsVector 0 v → multiplier v 384 ≡ 0 → multiplier v 385 ≡ 0 → cap v ≡ None
cap_none v is low high = cap_is v is ∙ rw (low, high) refl

pub cap_low : (v : Multipliers) → IsVector 0 v → (multiplier v 384 ≡ 0 → ⊥) → cap v ≡ Some (price (multiplier v) 384)
cap_low v is some = elim (positive (multiplier v 384)) [ inl none ↦ absurd (some none) | inr low ↦ cap_is v is ∙ rw low refl ]

pub cap_high : (v : Multipliers) → IsVector 0 v → (multiplier v 385 ≡ 0 → ⊥) → cap v ≡ Some (price (multiplier v) 384)
cap_high v is some =
    elim (positive (multiplier v 385)) [
      | inl none ↦ absurd (some none)
      | inr high ↦ elim (either (nat_lt 0 (multiplier v 384))) [ inl low ↦ cap_is v is ∙ rw low refl | inr no_low ↦ cap_is v is ∙ rw (no_low, high) refl ]
    ]

-- one more number of an array written
pub filled : (P : ℕ → ℤ → Type 0) (xs : List ℤ) (i : ℕ) (x : ℤ) → i < length xs → ((j : ℕ) → j < i → P j (at xs j)) → P i x → (j : ℕ) → j < i + 1 → P j (at (set xs i x) j)
filled P xs i x within before here =
    below_more (λ (j : ℕ). P j (at (set xs i x) j)) i
    (λ j w. let other : j ≢ i = λ e. omega arith in subst (P j) (sym (get_or-set_other xs i j x (pos 0) other)) (before j w))
    (subst (P i) (sym (get_or-set_same xs i x (pos 0) within)) here)

pub zero_at : (n s : ℕ) → at (replicate n (pos 0)) s ≡ pos 0
zero_at zero s = refl
zero_at (suc n) zero = refl
zero_at (suc n) (suc s) = zero_at n s

pub sum_in_z-same : (n : ℕ) (X : Set) (f g : ℕ → ℤ) → ((i : ℕ) → i < n → f i ≡ g i) → sum_in_z n X f ≡ sum_in_z n X g
sum_in_z-same zero X f g h = refl
sum_in_z-same (suc n) X f g h =
    let rest = sum_in_z-same n X f g (λ i w. h i (omega arith)) in
    let last : cond (X n) (f n) (pos 0) ≡ cond (X n) (g n) (pos 0) = ap (λ (m : ℤ). cond (X n) m (pos 0)) (h n (omega arith)) in
    omega (arith, ints)

-- one more number in the sum of its stimulus
pub one_more : (of : ℕ → ℕ) (f : ℕ → ℤ) (xs : List ℤ) (i : ℕ) → of i < length xs
    → (s : ℕ) → at xs s ≡ sum_in_z i (λ j. of j == s) f
    → at (set xs (of i) (at xs (of i) +ℤ f i)) s ≡ sum_in_z (i + 1) (λ j. of j == s) f
one_more of f xs i within s before =
    rw add-one (elim (eqb_tells (of i) s) [
      | inl (e, same) ↦
          let read : at (set xs (of i) (at xs (of i) +ℤ f i)) s ≡ at xs (of i) +ℤ f i =
          ap (λ (t : ℕ). at (set xs (of i) (at xs (of i) +ℤ f i)) t) (sym same) ∙ get_or-set_same xs (of i) (at xs (of i) +ℤ f i) (pos 0) within in
          let old : at xs (of i) ≡ at xs s = ap (at xs) same in
          rw e (omega (arith, ints))
      | inr (e, other) ↦
          let ne : s ≢ of i = λ same. other (sym same) in
          let read : at (set xs (of i) (at xs (of i) +ℤ f i)) s ≡ at xs s = get_or-set_other xs (of i) s (at xs (of i) +ℤ f i) (pos 0) ne in
          rw e (omega (arith, ints))
    ])

pub one_more_within : (of : ℕ → ℕ) (xs : List ℤ) (i top more : ℕ) (x : ℤ) → of i < length xs
    → ((s : ℕ) → s ≤ 64 → IsWithin top (at xs s))
    → of i ≤ 64
    → IsWithin more x
    → (s : ℕ) → s ≤ 64 → IsWithin (top + more) (at (set xs (of i) (at xs (of i) +ℤ x)) s)
one_more_within of xs i top more x within before low small s few =
    let here = before (of i) low in
    let there = before s few in
    elim (eqb_tells (of i) s) [
      | inl (e, same) ↦
          let read : at (set xs (of i) (at xs (of i) +ℤ x)) s ≡ at xs (of i) +ℤ x =
          ap (λ (t : ℕ). at (set xs (of i) (at xs (of i) +ℤ x)) t) (sym same) ∙ get_or-set_same xs (of i) (at xs (of i) +ℤ x) (pos 0) within in
          subst (IsWithin (top + more)) (sym read) (record { low = omega (arith, ints); high = omega (arith, ints) })
      | inr (e, other) ↦
          let ne : s ≢ of i = λ same. other (sym same) in
          subst (IsWithin (top + more)) (sym (get_or-set_other xs (of i) s (at xs (of i) +ℤ x) (pos 0) ne)) (record { low = omega (arith, ints); high = omega (arith, ints) })
    ]

-- without a cap nothing is above it
pub excess_none : (b : Tables) (cut : Cut) (weights : List ℤ) (s : ℕ) → excess_on b cut None weights s ≡ pos 0
excess_none b cut weights s = below (size b)
  where
    link : (linked : Bool) (w : ℤ) → (if linked then excess_over None w else pos 0) ≡ pos 0
    link true w = refl
    link false w = refl

    part : (x : Bool) (z : ℤ) → z ≡ pos 0 → cond x z (pos 0) ≡ pos 0
    part true z e = e
    part false z e = refl

    below : (n : ℕ) → sum_in_z n (λ i. stimulus b i == s) (link_on b cut None weights) ≡ pos 0
    below zero = refl
    below (suc n) =
        let rest = below n in
        let last = part (stimulus b n == s) (link_on b cut None weights n) (link (is_linked_on b cut n) (at weights n)) in
        omega (arith, ints)

-- a weight that is lowered to the cap stays in its range
pub lowered : (linked : Bool) (cap w : ℤ) → IsWithin 16777216 cap → IsWithin item_top w → IsWithin item_top (w -ℤ (if linked then excess_over (Some cap) w else pos 0))
lowered true cap w c r =
    elim (either (int_lt (w -ℤ cap) (pos 0))) [
      | inl low ↦ rw low (record { low = omega (arith, ints, r.low); high = omega (arith, ints, r.high) })
      | inr high ↦ rw high (record { low = omega (arith, ints, c.low); high = omega (arith, ints, c.high) })
    ]
lowered false cap w c r = record { low = omega (arith, ints, r.low); high = omega (arith, ints, r.high) }

module _ (P : Problem) (p : Path) (cut : Cut) (is : IsCutOf P p cut) (v : Multipliers) (ray : Bool) (weights : List ℤ) where
  pub linked_is : (i : ℕ) → is_linked_on P.bank cut i ≡ is_linked P p i
  linked_is i =
      ap (λ (F : Set). not (stimulus P.bank i == 0) && (F i && has cut.opened (stimulus P.bank i))) is.free
      ∙ ap (λ (O : Set). not (stimulus P.bank i == 0) && (is_free P p i && O (stimulus P.bank i))) is.opened

  pub link_is : (i : ℕ) → at weights i ≡ item_weight P (multiplier v) ray i → link_on P.bank cut (cap v) weights i ≡ link_multiplier P p v ray i
  unfolding link_multiplier
  link_is i weighed =
      ap (λ (b : Bool). if b then excess_over (cap v) (at weights i) else pos 0) (linked_is i)
      ∙ ap (λ (w : ℤ). if is_linked P p i then excess_over (cap v) w else pos 0) weighed
