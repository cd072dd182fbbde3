-- The sets of a path.
use Rattle.std.proofs.Common.{◌≡◌, ℕ, zero, suc, ◌+◌, ◌%◌, ◌<◌, ◌⊎◌, inl, inr, Bool, true, false, ◌&&◌, ◌||◌, ◌==◌, List, [], ◌∷◌, length, get_or, set, refl, sym, ap, ◌∙◌, arith, nat_lt}
use Rattle.std.proofs.lemmas.Bool.{eq-eqb, ne_eqb, cases_eq, lt-ltb, le-ltb}
use Rattle.std.proofs.lemmas.List.{get_or-set_same, get_or-set_other}
use Rattle.std.proofs.lemmas.Nat.Bits.{bit_at-zero}
use Rattle.std.proofs.Math.Path.{fun_ext}
use Rattle.bank_tables.specs.Items.{Set, has}
use Rattle.series_model.specs.SeriesPaths.{SeriesPath}

-- no words have no items
pub no_words : (i : ℕ) → has [] i ≡ false
unfolding has
no_words i = rw (bit_at-zero (i % 64)) refl

pub no_sets : (none : List ℕ) → ((i : ℕ) → has none i ≡ false) → (f i : ℕ) → has (get_or (none ∷ none ∷ none ∷ none ∷ []) f []) i ≡ false
no_sets none empty zero i = empty i
no_sets none empty (suc zero) i = empty i
no_sets none empty (suc (suc zero)) i = empty i
no_sets none empty (suc (suc (suc zero))) i = empty i
no_sets none empty (suc (suc (suc (suc f)))) i = no_words i

-- an item is put into the set of one form
pub put : (sets : List (List ℕ)) (f item : ℕ) (new : List ℕ) → f < length sets → ((i : ℕ) → has new i ≡ ((i == item) || has (get_or sets f []) i)) → (g i : ℕ) → has (get_or (set sets f new) g []) i ≡ ((g == f && i == item) || has (get_or sets g []) i)
put sets f item new within is g i =
    elim (cases_eq g f) [
      | inl same ↦
          rw (eq-eqb g f same)
          (ap (λ (k : ℕ). has (get_or (set sets f new) k []) i) same
          ∙ ap (λ (ws : List ℕ). has ws i) (get_or-set_same sets f new [] within)
          ∙ is i
          ∙ ap (λ (k : ℕ). (i == item) || has (get_or sets k []) i) (sym same))
      | inr other ↦ rw (ne_eqb g f other) (ap (λ (ws : List ℕ). has ws i) (get_or-set_other sets f g new [] other))
    ]

-- two paths with the same items are one
pub same_path : (taken taken' out out' : ℕ → Set) (used used' : Set) → ((f i : ℕ) → taken f i ≡ taken' f i) → ((f i : ℕ) → out f i ≡ out' f i) → ((i : ℕ) → used i ≡ used' i)
    → (let p : SeriesPath = record { taken = taken; out = out; used = used } in let q : SeriesPath = record { taken = taken'; out = out'; used = used' } in p ≡ q)
same_path taken taken' out out' used used' e d h =
    let first : taken ≡ taken' = fun_ext (λ f. fun_ext (e f)) in
    let second : out ≡ out' = fun_ext (λ f. fun_ext (d f)) in
    let third : used ≡ used' = fun_ext h in
    cc

-- ---- an item is put out of a form and its twins, one form after the other
twin_last : (h g : ℕ) → (h < g) ⊎ ((h ≡ g) ⊎ (g < h))
twin_last h g = grind arith

pub twin_more : (twin : Set) (g h : ℕ) (x old now before : Bool) → twin g ≡ true → now ≡ ((h == g && x) || before) → before ≡ (((nat_lt h g && twin h) && x) || old) → now ≡ (((nat_lt h (g + 1) && twin h) && x) || old)
twin_more twin g h x old now before is e d =
    elim (twin_last h g) [
      | inl lower ↦ (let a = ne_eqb h g (omega arith) in let b = lt-ltb h g lower in let b' = lt-ltb h (g + 1) (omega arith) in e ∙ rw (a, b') (d ∙ rw b refl))
      | inr rest ↦
          elim rest [
            | inl same ↦ (let a = eq-eqb h g same in let b = le-ltb h g (omega arith) in let b' = lt-ltb h (g + 1) (omega arith) in let t : twin h ≡ true = ap twin same ∙ is in e ∙ rw (a, b', t) (ap (λ (o : Bool). x || o) (d ∙ rw b refl)))
            | inr higher ↦ (let a = ne_eqb h g (omega arith) in let b = le-ltb h g (omega arith) in let b' = le-ltb h (g + 1) (omega arith) in e ∙ rw (a, b') (d ∙ rw b refl))
          ]
    ]

pub form_more : (g h : ℕ) (x old now before : Bool) → now ≡ ((h == g && x) || before) → before ≡ ((nat_lt h g && x) || old) → now ≡ ((nat_lt h (g + 1) && x) || old)
form_more g h x old now before e d =
    elim (twin_last h g) [
      | inl lower ↦ (let a = ne_eqb h g (omega arith) in let b = lt-ltb h g lower in let b' = lt-ltb h (g + 1) (omega arith) in e ∙ rw (a, b') (d ∙ rw b refl))
      | inr rest ↦
          elim rest [
            | inl same ↦ (let a = eq-eqb h g same in let b = le-ltb h g (omega arith) in let b' = lt-ltb h (g + 1) (omega arith) in e ∙ rw (a, b') (ap (λ (o : Bool). x || o) (d ∙ rw b refl)))
            | inr higher ↦ (let a = ne_eqb h g (omega arith) in let b = le-ltb h g (omega arith) in let b' = le-ltb h (g + 1) (omega arith) in e ∙ rw (a, b') (d ∙ rw b refl))
          ]
    ]

pub twin_none : (twin : Set) (g h : ℕ) (x old before : Bool) → twin g ≡ false → before ≡ (((nat_lt h g && twin h) && x) || old) → before ≡ (((nat_lt h (g + 1) && twin h) && x) || old)
twin_none twin g h x old before is d =
    elim (twin_last h g) [
      | inl lower ↦ (let b = lt-ltb h g lower in let b' = lt-ltb h (g + 1) (omega arith) in rw b' (d ∙ rw b refl))
      | inr rest ↦
          elim rest [
            | inl same ↦ (let b = le-ltb h g (omega arith) in let b' = lt-ltb h (g + 1) (omega arith) in let t : twin h ≡ false = ap twin same ∙ is in rw (b', t) (d ∙ rw b refl))
            | inr higher ↦ (let b = le-ltb h g (omega arith) in let b' = le-ltb h (g + 1) (omega arith) in rw b' (d ∙ rw b refl))
          ]
    ]
