-- A form with an item not yet given has a next item.
use Rattle.std.proofs.Common.{◌≡◌, ℕ, zero, suc, ◌<◌, ◌≤◌, ◌⊎◌, inl, inr, Bool, true, false, not, ◌&&◌, ◌==◌, IsTrue, IsFalse, refl, sym, ◌∙◌, subst, arith}
use Rattle.std.specs.Prelude.{if◌then◌else◌}
use Rattle.std.proofs.Math.Bool.{true≢false}
use Rattle.std.proofs.lemmas.Bool.{cases_lt}
use Rattle.bank_tables.specs.Items.{Set}
use Rattle.bank_tables.specs.Tables.{size, info, stimulus}
use Rattle.form_model.specs.Problem.{Problem}
use Rattle.form_model.specs.Forms.{Form}
use Rattle.serving_model.specs.Serving.{is_not_given, last_stimulus, stimulus_goes_on, is_candidate, IsNext}
use Rattle.form_model.proofs.SumLaws.{either, and_true, both, any_elim}

record IsBestBelow (p : Set) (f : ℕ → ℕ) (n g : ℕ) : Type 0 where
  within : g < n
  passes : p g ≡ true
  greatest : (h : ℕ) → h < n → p h ≡ true → f h ≤ f g
  lowest : (h : ℕ) → h < g → p h ≡ true → f h < f g

last_or : (h n : ℕ) → h < suc n → (h < n) ⊎ (h ≡ n)
last_or h n w = grind arith

best_below : (p : Set) (f : ℕ → ℕ) (n : ℕ) → ((i : ℕ) → i < n → p i ≡ false) ⊎ ((g : ℕ) × IsBestBelow p f n g)
best_below p f zero = inl (λ i w. absurd (omega arith))
best_below p f (suc n) = by (best_below p f n) (either (p n))
  where
    by : (((i : ℕ) → i < n → p i ≡ false) ⊎ ((g : ℕ) × IsBestBelow p f n g)) → (p n ≡ true) ⊎ (p n ≡ false) → ((i : ℕ) → i < suc n → p i ≡ false) ⊎ ((g : ℕ) × IsBestBelow p f (suc n) g)
    by (inl none) (inr fails) = inl (λ i w. elim (last_or i n w) [ inl old ↦ none i old | inr new ↦ subst (λ (k : ℕ). p k ≡ false) (sym new) fails ])
    by (inl none) (inl passes) =
        inr (
          n,
          record {
            within = omega arith;
            passes = passes;
            greatest = λ h w e. elim (last_or h n w) [ inl old ↦ absurd (true≢false (sym e ∙ none h old)) | inr new ↦ subst (λ (k : ℕ). f k ≤ f n) (sym new) (omega arith) ];
            lowest = λ h w e. absurd (true≢false (sym e ∙ none h w));
          },
        )
    by (inr (g, best)) (inr fails) =
        inr (
          g,
          record {
            within = omega (arith, best.within);
            passes = best.passes;
            greatest = λ h w e. elim (last_or h n w) [ inl old ↦ best.greatest h old e | inr new ↦ absurd (true≢false (sym e ∙ subst (λ (k : ℕ). p k ≡ false) (sym new) fails)) ];
            lowest = best.lowest;
          },
        )
    by (inr (g, best)) (inl passes) =
        elim (cases_lt (f g) (f n)) [
          | inl more ↦
              inr (
                n,
                record {
                  within = omega arith;
                  passes = passes;
                  greatest = λ h w e. elim (last_or h n w) [ inl old ↦ omega (arith, best.greatest h old e, more) | inr new ↦ subst (λ (k : ℕ). f k ≤ f n) (sym new) (omega arith) ];
                  lowest = λ h w e. omega (arith, best.greatest h w e, more);
                },
              )
          | inr least ↦
              inr (
                g,
                record {
                  within = omega (arith, best.within);
                  passes = best.passes;
                  greatest = λ h w e. elim (last_or h n w) [ inl old ↦ best.greatest h old e | inr new ↦ subst (λ (k : ℕ). f k ≤ f g) (sym new) least ];
                  lowest = best.lowest;
                },
              )
        ]

if_true : (a b : Bool) → a ≡ true → b ≡ true → (if a then b else true) ≡ true
if_true true b e h = h
if_true false b e h = refl

if_false : (a b : Bool) → a ≡ false → (if a then b else true) ≡ true
if_false true b e = absurd (true≢false e)
if_false false b e = refl

some_candidate : (P : Problem) (X : Set) (item : ℕ) → IsTrue (X item) → IsFalse (P.given item) → (i : ℕ) × (is_candidate P X i ≡ true)
some_candidate P X item held new =
    elim (either (stimulus_goes_on P X)) [
      | inl on ↦
          let found = any_elim (size P.bank) (λ i. is_not_given P X i && stimulus P.bank i == last_stimulus P.bank P.last) (and_true (not (last_stimulus P.bank P.last == 0)) _ on).1 in
          let parts = and_true (is_not_given P X found.0) (stimulus P.bank found.0 == last_stimulus P.bank P.last) found.2 in
          (found.0, both _ _ parts.0 (if_true _ _ on parts.1))
      | inr off ↦ (item, both _ _ (both (X item) (not (P.given item)) held (subst (λ (b : Bool). not b ≡ true) (sym new) refl)) (if_false _ _ off))
    ]

pub some_next : (P : Problem) (X : Set) (item : ℕ) → Form P X → IsTrue (X item) → IsFalse (P.given item) → (next : ℕ) × IsNext P X next
some_next P X item form held new = by (best_below (is_candidate P X) (λ i. info P.bank i P.theta) (size P.bank)) (some_candidate P X item held new)
  where
    in_bank : (i : ℕ) → is_candidate P X i ≡ true → i < size P.bank
    in_bank i e = form.meets.right_length.in_bank i (and_true (X i) (not (P.given i)) (and_true (is_not_given P X i) _ e).0).0

    by : (((i : ℕ) → i < size P.bank → is_candidate P X i ≡ false) ⊎ ((g : ℕ) × IsBestBelow (is_candidate P X) (λ i. info P.bank i P.theta) (size P.bank) g)) → (i : ℕ) × (is_candidate P X i ≡ true) → (next : ℕ) × IsNext P X next
    by (inl none) (i, e) = absurd (true≢false (sym e ∙ none i (in_bank i e)))
    by (inr (g, best)) some = (g, record { candidate = best.passes; greatest = λ i e. best.greatest i (in_bank i e) e; lowest = λ i e w. best.lowest i w e })
