-- A grid with points has a mode.
use Rattle.std.proofs.Common.{◌≡◌, ℕ, zero, suc, ◌-◌, ◌<◌, ◌⊎◌, inl, inr, Bool, true, false, cond, List, ℤ, ◌≤ℤ◌, ◌<ℤ◌, refl, sym, subst, arith}
use Rattle.std.proofs.lemmas.Int.{ints}
use Rattle.std.specs.Prelude.{int_le}
use Rattle.bank_tables.specs.Tables.{Tables}
use Rattle.form_model.specs.Ability.{AnswerList, log_posterior, IsPosteriorMode, greatest_at, mode_of, ModeIsModeOf}
use Rattle.form_model.proofs.OneMode.{one_mode}

record IsTopBelow (f : ℕ → ℤ) (n g : ℕ) : Type 0 where
  within : g < n
  greatest : (h : ℕ) → h < n → f h ≤ℤ f g
  lowest : (h : ℕ) → h < g → f h <ℤ f g

last_or : (h n : ℕ) → h < suc n → (h < n) ⊎ (h ≡ n)
last_or h n w = grind arith

top_below : (f : ℕ → ℤ) (n : ℕ) → IsTopBelow f (suc n) (greatest_at f n)
unfolding greatest_at
top_below f zero = record { within = omega arith; greatest = λ h w. let e : h ≡ 0 = omega arith in subst (λ (k : ℕ). f k ≤ℤ f 0) (sym e) (omega (arith, ints)); lowest = λ h w. absurd (omega arith) }
top_below f (suc n) =
    let g : ℕ = greatest_at f n in
    let top = top_below f n in
    let low_is : int_le (f (suc n)) (f g) ≡ true → IsTopBelow f (suc (suc n)) g = λ low.
    record {
      within = omega (arith, top.within);
      greatest = λ h w. elim (last_or h (suc n) w) [ inl old ↦ top.greatest h old | inr new ↦ subst (λ (k : ℕ). f k ≤ℤ f g) (sym new) (omega (arith, ints)) ];
      lowest = top.lowest;
    } in
    let high_is : int_le (f (suc n)) (f g) ≡ false → IsTopBelow f (suc (suc n)) (suc n) = λ high.
    record {
      within = omega arith;
      greatest = λ h w. elim (last_or h (suc n) w) [ inl old ↦ (let a = top.greatest h old in omega (arith, ints)) | inr new ↦ subst (λ (k : ℕ). f k ≤ℤ f (suc n)) (sym new) (omega (arith, ints)) ];
      lowest = λ h w. let a = top.greatest h w in omega (arith, ints);
    } in
    chosen (int_le (f (suc n)) (f g)) g (suc n) low_is high_is
  where
    chosen : (low : Bool) (g h : ℕ) → (low ≡ true → IsTopBelow f (suc (suc n)) g) → (low ≡ false → IsTopBelow f (suc (suc n)) h) → IsTopBelow f (suc (suc n)) (cond low g h)
    chosen true g h a b = a refl
    chosen false g h a b = b refl

-- the value of the function is the mode
pub mode_of_is_mode : (b : Tables) (prior : List ℤ) (A : AnswerList) → 0 < b.grid → IsPosteriorMode b prior A (mode_of b prior A)
unfolding mode_of
mode_of_is_mode b prior A points =
    let top = top_below (log_posterior b prior A) (b.grid - 1) in
    record { within = omega (arith, top.within); greatest = λ h w. top.greatest h (omega (arith, w)); lowest = top.lowest }

pub some_mode : (b : Tables) (prior : List ℤ) (A : AnswerList) → 0 < b.grid → (g : ℕ) × IsPosteriorMode b prior A g
some_mode b prior A points = (mode_of b prior A, mode_of_is_mode b prior A points)

pub mode_is_mode_of : ModeIsModeOf
mode_is_mode_of b prior A point points =
    let mode = mode_of_is_mode b prior A points in
    (λ is. one_mode b prior A point (mode_of b prior A) is mode, λ is. subst (λ (p : ℕ). IsPosteriorMode b prior A p) (sym is) mode)
