-- The relaxed maximum is reached by the greatest reduced weights.
use Rattle.std.proofs.Common.{◌≡◌, ℕ, zero, suc, ◌+◌, ◌<◌, ◌⊎◌, inl, inr, Bool, true, false, cond, not, ◌&&◌, ◌||◌, ℤ, pos, ◌+ℤ◌, ◌-ℤ◌, ◌*ℤ◌, ◌≤ℤ◌, refl, sym, ap, ◌∙◌, arith}
use Rattle.std.proofs.lemmas.Int.{ints}
use Rattle.std.proofs.lemmas.Bool.{and_parts}
use Rattle.std.proofs.Math.Bool.{true≢false}
use Rattle.std.specs.Prelude.{int_le}
use Rattle.bank_tables.specs.Items.{Set}
use Rattle.bank_tables.specs.Tables.{size}
use Rattle.bank_tables.specs.Sums.{sum_in_z, total_z, count_in}
use Rattle.form_model.specs.Forms.{stimuli_of, size_in}
use Rattle.certificate_model.specs.Paths.{Path, is_free, is_chosen, is_open}
use Rattle.form_model.specs.Problem.{Problem}
use Rattle.certificate_model.specs.Relaxed.{Multipliers, lagrangian, IsRelaxedPair, IsRelaxedMaximum}
use Rattle.form_model.proofs.SumLaws.{either, or_true, or_left}
use Rattle.certificate_model.proofs.Reduced.{reduced, lagrangian-reduced, total_z-cond, total_z-same}

-- ---- sums compared term by term
pub sum_in_z-le : (n : ℕ) (X Y : Set) (f g : ℕ → ℤ) → ((i : ℕ) → i < n → cond (X i) (f i) (pos 0) ≤ℤ cond (Y i) (g i) (pos 0)) → sum_in_z n X f ≤ℤ sum_in_z n Y g
sum_in_z-le zero X Y f g h = omega (arith, ints)
sum_in_z-le (suc n) X Y f g h = let rest = sum_in_z-le n X Y f g (λ i w. h i (omega arith)) in let last = h n (omega arith) in omega (arith, ints)

-- a sum less t for each of its terms
pub sum_in_z-shift : (n : ℕ) (X : Set) (f : ℕ → ℤ) (t : ℤ) → sum_in_z n X f ≡ sum_in_z n X (λ i. f i -ℤ t) +ℤ (pos (count_in n X (λ _. true)) *ℤ t)
sum_in_z-shift zero X f t = omega (arith, ints)
sum_in_z-shift (suc n) X f t =
    let rest = sum_in_z-shift n X f t in
    elim (either (X n)) [ inl in_X ↦ rw in_X (omega (arith, ints)) | inr not_in_X ↦ rw not_in_X (omega (arith, ints)) ]

-- of the sets of a size within F, one whose members are all at least t, with none above t left, has
-- the greatest sum
pub greatest_of_size : (n : ℕ) (F T X : Set) (f : ℕ → ℤ) (t : ℤ)
    → ((i : ℕ) → i < n → T i ≡ true → t ≤ℤ f i)
    → ((i : ℕ) → i < n → F i ≡ true → T i ≡ false → f i ≤ℤ t)
    → ((i : ℕ) → i < n → X i ≡ true → F i ≡ true)
    → count_in n X (λ _. true) ≡ count_in n T (λ _. true)
    → sum_in_z n X f ≤ℤ sum_in_z n T f
greatest_of_size n F T X f t above others within same =
    let x = sum_in_z-shift n X f t in
    let y = sum_in_z-shift n T f t in
    let e : pos (count_in n X (λ _. true)) *ℤ t ≡ pos (count_in n T (λ _. true)) *ℤ t = ap (λ (m : ℕ). pos m *ℤ t) same in
    let le : sum_in_z n X (λ i. f i -ℤ t) ≤ℤ sum_in_z n T (λ i. f i -ℤ t) = sum_in_z-le n X T _ _ term in
    omega (arith, ints)
  where
    term : (i : ℕ) → i < n → cond (X i) (f i -ℤ t) (pos 0) ≤ℤ cond (T i) (f i -ℤ t) (pos 0)
    term i w =
        elim (either (X i)) [
          | inl in_X ↦
              elim (either (T i)) [
                | inl in_T ↦ rw (in_X, in_T) (omega (arith, ints))
                | inr not_T ↦ let low = others i w (within i w in_X) not_T in rw (in_X, not_T) (omega (arith, ints))
              ]
          | inr not_X ↦
              elim (either (T i)) [
                | inl in_T ↦ let high = above i w in_T in rw (not_X, in_T) (omega (arith, ints))
                | inr not_T ↦ rw (not_X, not_T) (omega (arith, ints))
              ]
        ]

-- a set and the rest of a larger one
pub sum_in_z-split : (n : ℕ) (X A B : Set) (f : ℕ → ℤ) → ((i : ℕ) → i < n → (X i ≡ (A i || B i)) × ((A i && B i) ≡ false)) → sum_in_z n X f ≡ sum_in_z n A f +ℤ sum_in_z n B f
sum_in_z-split zero X A B f h = omega (arith, ints)
sum_in_z-split (suc n) X A B f h =
    let rest = sum_in_z-split n X A B f (λ i w. h i (omega arith)) in
    let last = term (X n) (A n) (B n) (f n) (h n (omega arith)).0 (h n (omega arith)).1 in
    omega (arith, ints)
  where
    term : (x a b : Bool) (m : ℤ) → x ≡ (a || b) → (a && b) ≡ false → cond x m (pos 0) ≡ cond a m (pos 0) +ℤ cond b m (pos 0)
    term x true true m e d = absurd (true≢false d)
    term x true false m e d = rw e (omega (arith, ints))
    term x false true m e d = rw e (omega (arith, ints))
    term x false false m e d = rw e (omega (arith, ints))

pub count_in-split : (n : ℕ) (X A B : Set) → ((i : ℕ) → i < n → (X i ≡ (A i || B i)) × ((A i && B i) ≡ false)) → count_in n X (λ _. true) ≡ count_in n A (λ _. true) + count_in n B (λ _. true)
count_in-split zero X A B h = refl
count_in-split (suc n) X A B h =
    let rest = count_in-split n X A B (λ i w. h i (omega arith)) in
    let last = term (X n) (A n) (B n) (h n (omega arith)).0 (h n (omega arith)).1 in
    omega arith
  where
    term : (x a b : Bool) → x ≡ (a || b) → (a && b) ≡ false → ◌≡◌ {A = ℕ} (cond x 1 0) (cond a 1 0 + cond b 1 0)
    term x true true e d = absurd (true≢false d)
    term x true false e d = rw e refl
    term x false true e d = rw e refl
    term x false false e d = rw e refl

-- ---- the items that reach it
module _ (P : Problem) (p : Path) (v : Multipliers) (ray : Bool) where
  -- T are the free items of greatest weight that fill the length, t a threshold between them and
  -- the rest
  pub record IsTop (T : Set) (t : ℤ) : Type 0 where
    pub free : (i : ℕ) → T i ≡ true → is_free P p i ≡ true
    pub fills : size_in P.bank p.taken + size_in P.bank T ≡ P.plan.length
    pub above : (i : ℕ) → i < size P.bank → T i ≡ true → t ≤ℤ (reduced P p v ray).item i
    pub others : (i : ℕ) → i < size P.bank → is_free P p i ≡ true → T i ≡ false → (reduced P p v ray).item i ≤ℤ t

  -- what a stimulus adds: its weight if chosen, and if open its weight where that is positive
  unfoldable pub best_stimulus : ℕ → ℤ
  best_stimulus s = cond (is_chosen P p s) ((reduced P p v ray).stimulus s) (cond (is_open P p s) (cond (int_le (pos 0) ((reduced P p v ray).stimulus s)) ((reduced P p v ray).stimulus s) (pos 0)) (pos 0))

  unfoldable pub best_stimuli : Set
  best_stimuli s = is_chosen P p s || (is_open P p s && int_le (pos 0) ((reduced P p v ray).stimulus s))

  -- the constant, the weights of the items taken and of the greatest free ones, and what the
  -- stimuli add
  unfoldable pub relaxed_by : Set → ℤ
  relaxed_by T =
      (reduced P p v ray).constant
      +ℤ ((sum_in_z (size P.bank) p.taken (reduced P p v ray).item +ℤ sum_in_z (size P.bank) T (reduced P p v ray).item)
      +ℤ total_z (stimuli_of P.bank) (λ k. best_stimulus (suc k)))

total_z-le : (n : ℕ) (f g : ℕ → ℤ) → ((i : ℕ) → i < n → f i ≤ℤ g i) → total_z n f ≤ℤ total_z n g
total_z-le zero f g h = omega (arith, ints)
total_z-le (suc n) f g h = let rest = total_z-le n f g (λ i w. h i (omega arith)) in let last = h n (omega arith) in omega (arith, ints)

pub rest_of : (a x : Bool) → (a ≡ true → x ≡ true) → (x ≡ (a || (x && not a))) × ((a && (x && not a)) ≡ false)
rest_of true true h = (refl, refl)
rest_of true false h = (h refl, refl)
rest_of false true h = (refl, refl)
rest_of false false h = (refl, refl)

apart : (a b : Bool) → (b ≡ true → a ≡ false) → (a && b) ≡ false
apart true true h = h refl
apart true false h = refl
apart false b h = refl

picked : (c o q : Bool) (u : ℤ) → cond (c || (o && q)) u (pos 0) ≡ cond c u (cond o (cond q u (pos 0)) (pos 0))
picked true o q u = refl
picked false true q u = refl
picked false false q u = refl

at_most_best : (c o z : Bool) (u : ℤ) → (c ≡ true → z ≡ true) → (z ≡ true → (c ≡ true) ⊎ (o ≡ true)) → cond z u (pos 0) ≤ℤ cond c u (cond o (cond (int_le (pos 0) u) u (pos 0)) (pos 0))
at_most_best true o z u h k = rw (h refl) (omega (arith, ints))
at_most_best false true true u h k = elim (either (int_le (pos 0) u)) [ inl high ↦ rw high (omega (arith, ints)) | inr low ↦ rw low (omega (arith, ints)) ]
at_most_best false true false u h k = elim (either (int_le (pos 0) u)) [ inl high ↦ rw high (omega (arith, ints)) | inr low ↦ rw low (omega (arith, ints)) ]
at_most_best false false true u h k = elim (k refl) [ inl e ↦ absurd (true≢false (sym e)) | inr e ↦ absurd (true≢false (sym e)) ]
at_most_best false false false u h k = omega (arith, ints)

module _ (P : Problem) (p : Path) (v : Multipliers) (ray : Bool) (T : Set) (t : ℤ) (top : IsTop P p v ray T t) where
  free_not_taken : (i : ℕ) → is_free P p i ≡ true → p.taken i ≡ false
  free_not_taken i free = not_true (p.taken i) (and_parts _ _ (and_parts _ _ free).1).0
    where
      not_true : (b : Bool) → not b ≡ true → b ≡ false
      not_true true h = absurd (true≢false (sym h))
      not_true false h = refl

  filled : Set
  filled i = p.taken i || T i

  filled_split : (i : ℕ) → i < size P.bank → (filled i ≡ (p.taken i || T i)) × ((p.taken i && T i) ≡ false)
  unfolding filled
  filled_split i w = (refl, apart (p.taken i) (T i) (λ e. free_not_taken i (top.free i e)))

  reach_fits : IsRelaxedPair P p filled (best_stimuli P p v ray)
  unfolding filled best_stimuli
  reach_fits =
      record {
        n_items = count_in-split (size P.bank) filled p.taken T filled_split ∙ top.fills;
        holds_taken = λ i e. or_left (p.taken i) (T i) e;
        else_free = λ i e. elim (or_true (p.taken i) (T i) e) [ inl taken ↦ inl taken | inr new ↦ inr (top.free i new) ];
        holds_chosen = λ s first last e. or_left _ _ e;
        else_open = λ s first last e. elim (or_true (is_chosen P p s) _ e) [ inl chosen ↦ inl chosen | inr opened ↦ inr (and_parts (is_open P p s) _ opened).0 ];
      }

  reach_value : lagrangian P p v ray filled (best_stimuli P p v ray) ≡ relaxed_by P p v ray T
  unfolding relaxed_by best_stimuli best_stimulus
  reach_value =
      let e = lagrangian-reduced P p v ray filled (best_stimuli P p v ray) in
      let items = sum_in_z-split (size P.bank) filled p.taken T (reduced P p v ray).item filled_split in
      let stimuli = total_z-cond (stimuli_of P.bank) (λ k. best_stimuli P p v ray (suc k)) (λ k. (reduced P p v ray).stimulus (suc k)) in
      let same =
      total_z-same (stimuli_of P.bank) (λ k. cond (best_stimuli P p v ray (suc k)) ((reduced P p v ray).stimulus (suc k)) (pos 0)) (λ k. best_stimulus P p v ray (suc k))
      (λ k w. picked (is_chosen P p (suc k)) (is_open P p (suc k)) (int_le (pos 0) ((reduced P p v ray).stimulus (suc k))) ((reduced P p v ray).stimulus (suc k))) in
      omega (arith, ints)

  most : (X Z : Set) → IsRelaxedPair P p X Z → lagrangian P p v ray X Z ≤ℤ relaxed_by P p v ray T
  unfolding relaxed_by best_stimulus
  most X Z fits =
      let n = size P.bank in
      let rest : Set = λ i. X i && not (p.taken i) in
      let split : (i : ℕ) → i < n → (X i ≡ (p.taken i || rest i)) × ((p.taken i && rest i) ≡ false) = λ i w. rest_of (p.taken i) (X i) (fits.holds_taken i) in
      let e = lagrangian-reduced P p v ray X Z in
      let items = sum_in_z-split n X p.taken rest (reduced P p v ray).item split in
      let counts = count_in-split n X p.taken rest split in
      let n_items = fits.n_items in
      let fills = top.fills in
      let same : size_in P.bank rest ≡ size_in P.bank T = omega arith in
      let rest_free : (i : ℕ) → i < n → rest i ≡ true → is_free P p i ≡ true =
      λ i w h.
      let parts = and_parts (X i) (not (p.taken i)) h in
      elim (fits.else_free i parts.0) [ inl taken ↦ absurd (true≢false (sym parts.1 ∙ ap not taken)) | inr free ↦ free ] in
      let more : sum_in_z n rest (reduced P p v ray).item ≤ℤ sum_in_z n T (reduced P p v ray).item = greatest_of_size n (is_free P p) T rest (reduced P p v ray).item t top.above top.others rest_free same in
      let own = total_z-cond (stimuli_of P.bank) (λ k. Z (suc k)) (λ k. (reduced P p v ray).stimulus (suc k)) in
      let stimuli =
      total_z-le (stimuli_of P.bank) (λ k. cond (Z (suc k)) ((reduced P p v ray).stimulus (suc k)) (pos 0)) (λ k. best_stimulus P p v ray (suc k))
      (λ k w. at_most_best (is_chosen P p (suc k)) (is_open P p (suc k)) (Z (suc k)) ((reduced P p v ray).stimulus (suc k)) (fits.holds_chosen (suc k) (omega arith) (omega arith)) (fits.else_open (suc k) (omega arith) (omega arith))) in
      omega (arith, ints)

  -- by the greatest free weights the relaxed maximum is had
  pub relaxed_is : IsRelaxedMaximum P p v ray (relaxed_by P p v ray T)
  relaxed_is = record { reached = (filled, best_stimuli P p v ray, reach_fits, reach_value); greatest = most }
