-- Counts of the items of a set, by a number that each item has.
use Rattle.std.proofs.Common.{◌≡◌, ◌≢◌, ℕ, zero, suc, ◌+◌, ◌<◌, ◌≤◌, Bool, true, false, cond, ◌==◌, List, length, get_or, set, inl, inr, refl, sym, ap, ◌∙◌, arith}
use Rattle.std.specs.Prelude.{replicate}
use Rattle.std.proofs.lemmas.Bool.{eq-eqb, ne_eqb, cases_eq}
use Rattle.std.proofs.lemmas.List.{get_or-set_same, get_or-set_other}
use Rattle.bank_tables.specs.Items.{Set}
use Rattle.bank_tables.specs.Sums.{sum_in, count_in}

pub none_yet : (n k : ℕ) → ◌≡◌ {A = ℕ} (get_or (replicate n 0) k 0) 0
none_yet zero k = refl
none_yet (suc n) zero = refl
none_yet (suc n) (suc k) = none_yet n k

at_most_one : (a b : Bool) → cond a (cond b 1 0) 0 ≤ 1
at_most_one true true = omega arith
at_most_one true false = omega arith
at_most_one false b = omega arith

pub count_few : (n : ℕ) (X p : Set) → count_in n X p ≤ n
count_few zero X p = omega arith
count_few (suc n) X p = omega (arith, count_few n X p, at_most_one (X n) (p n))

nothing : (a : Bool) (n : ℕ) → n ≡ n + cond a 0 0
nothing true n = omega arith
nothing false n = omega arith

-- one item more is counted at its number
pub tallied : (xs : List ℕ) (number : ℕ → ℕ) (X : Set) (i at new : ℕ) → at ≡ number i → at < length xs → new ≡ get_or xs at 0 + cond (X i) 1 0 → ((s : ℕ) → s < 65 → get_or xs s 0 ≡ count_in i X (λ j. number j == s)) → (s : ℕ) → s < 65 → get_or (set xs at new) s 0 ≡ count_in (suc i) X (λ j. number j == s)
tallied xs number X i at new is within e before s w =
    elim (cases_eq s at) [
      | inl same ↦
          let here : (number i == s) ≡ true = eq-eqb (number i) s (sym is ∙ sym same) in
          let read : get_or (set xs at new) s 0 ≡ new = ap (λ (k : ℕ). get_or (set xs at new) k 0) same ∙ get_or-set_same xs at new 0 within in
          let old : get_or xs at 0 ≡ count_in i X (λ j. number j == s) = ap (λ (k : ℕ). get_or xs k 0) (sym same) ∙ before s w in
          rw here (read ∙ e ∙ ap (λ (n : ℕ). n + cond (X i) 1 0) old)
      | inr ne ↦
          let ne' : number i ≢ s = λ f. ne (sym f ∙ sym is) in
          let elsewhere : (number i == s) ≡ false = ne_eqb (number i) s ne' in
          rw elsewhere (get_or-set_other xs at s new 0 ne ∙ before s w ∙ nothing (X i) (count_in i X (λ j. number j == s)))
    ]

-- sums of numbers that are the same below n
pub sum_in_alike : (n : ℕ) (X : Set) (f g : ℕ → ℕ) → ((i : ℕ) → i < n → f i ≡ g i) → sum_in n X f ≡ sum_in n X g
sum_in_alike zero X f g h = refl
sum_in_alike (suc n) X f g h = rw (sum_in_alike n X f g (λ i w. h i (omega arith)), h n (omega arith)) refl
