use Rattle.std.proofs.Common.{◌≡◌, ℕ, zero, suc, ◌+◌, ◌<◌, ◌≤◌, Bool, true, false, ◌&&◌, eqb, ◌⊎◌, inl, inr, refl, sym, subst, ◌∙◌, arith, add-one, List, [], ◌∷◌, ◌++◌, length, take, drop}
use Rattle.std.specs.Str.{bytes_eq}
use Rattle.std.proofs.lemmas.Bool.{ne_eqb, eq-eqb, and_right, cases_Bool}
use Rattle.bank_reader.specs.Reading.{lead}

last_or_below : (i n : ℕ) → i < suc n → (i < n) ⊎ (i ≡ n)
last_or_below i n lt = grind arith

-- all below i pass, and i doesn't: they are those that lead
pub lead_stops : (n i : ℕ) (p : ℕ → Bool) → lead i p ≡ i → p i ≡ false → i < n → lead n p ≡ i
lead_stops zero i p before here lt = absurd (omega arith)
lead_stops (suc n) i p before here lt = elim (last_or_below i n lt) [
  | inl less ↦ (let e = lead_stops n i p before here less in
      let other : eqb (lead n p) n ≡ false = ne_eqb (lead n p) n (λ same. omega (arith, same, e, less)) in
      rw (other) e)
  | inr same ↦ (let e : lead n p ≡ n = subst (λ (k : ℕ). lead k p ≡ k) same before in
      let h : p n ≡ false = subst (λ (k : ℕ). p k ≡ false) same here in
      rw (h, and_right (eqb (lead n p) n) false refl) (e ∙ sym same))
]

-- one more passes
pub lead_more : (n : ℕ) (p : ℕ → Bool) → lead n p ≡ n → p n ≡ true → lead (n + 1) p ≡ n + 1
lead_more n p before here = rw (add-one) (rw (eq-eqb (lead n p) n before, here) (add-one n))

-- a text is two texts one after the other
pub split_eq : (front text ds : List ℕ) → length front ≤ length text → bytes_eq text (front ++ ds) ≡ (bytes_eq (take (length front) text) front && bytes_eq (drop (length front) text) ds)
split_eq [] text ds le = refl
split_eq (f ∷ fs) [] ds le = absurd (omega arith)
split_eq (f ∷ fs) (t ∷ ts) ds le = elim (cases_Bool (eqb t f)) [
  | inl same ↦ rw same (split_eq fs ts ds (omega (arith, le)))
  | inr other ↦ rw other refl
]

pub too_short : (front text ds : List ℕ) → length text < length front → false ≡ bytes_eq text (front ++ ds)
too_short [] text ds lt = absurd (omega arith)
too_short (f ∷ fs) [] ds lt = refl
too_short (f ∷ fs) (t ∷ ts) ds lt = elim (cases_Bool (eqb t f)) [
  | inl same ↦ rw same (too_short fs ts ds (omega (arith, lt)))
  | inr other ↦ rw other refl
]
