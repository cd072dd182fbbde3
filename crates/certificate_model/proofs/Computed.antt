-- Facts of paths, rows and the relaxed maximum by computing, for the worked rows.
use Rattle.std.proofs.Common.{◌≡◌, ℕ, zero, suc, ◌+◌, ◌*◌, ◌<◌, inl, inr, Bool, true, false, not, ◌&&◌, ◌||◌, ◌==◌, [], ◌∷◌, length, ℤ, ◌≤ℤ◌, ◌<ℤ◌, sym, ap, ◌∙◌, subst, arith, nat_lt}
use Rattle.std.specs.Prelude.{int_le}
use Rattle.std.specs.List.{list_all}
use Rattle.std.proofs.lemmas.Int.{ints}
use Rattle.std.proofs.lemmas.Bool.{and_parts, and_from, ltb-true, eqb-true, not-true}
use Rattle.std.proofs.Math.Bool.{true≢false}
use Rattle.bank_tables.specs.Items.{Set}
use Rattle.bank_tables.specs.Tables.{size}
use Rattle.bank_tables.specs.Validity.{HoldsItems}
use Rattle.form_model.specs.Problem.{Problem}
use Rattle.form_model.specs.Forms.{stimuli_of, size_in}
use Rattle.certificate_model.specs.Paths.{Path, is_free}
use Rattle.certificate_model.specs.Counting.{is_impossible}
use Rattle.certificate_model.specs.Relaxed.{Multipliers, cap_side, IsRelaxedMaximum}
use Rattle.certificate_model.specs.ClosedForm.{capped_weight, IsGreatestFill, closed_form}
use Rattle.certificate_model.specs.Verdicts.{MaximumIsAtMost, IsSide, NamesOnlySides}
use Rattle.form_model.proofs.SumLaws.{either, or_true}
use Rattle.certificate_model.proofs.ClosedFormLaws.{closed_form_is}
use Rattle.certificate_model.proofs.Beyond.{impossible_within}
use Rattle.form_model.proofs.Computed.{all_below, each_of, implied}

-- ---- rows impossible by counting
module _ (P : Problem) (p : Path) where
  pub all_possible : all_below (length P.plan.rows + stimuli_of P.bank + 1) (λ r. not (is_impossible P p r)) ≡ true → (r : ℕ) → is_impossible P p r ≡ false
  all_possible e r =
      elim (either (is_impossible P p r)) [
        | inl impossible ↦
            let within = impossible_within P p r impossible in
            absurd (true≢false (sym impossible ∙ not-true _ (each_of (length P.plan.rows + stimuli_of P.bank + 1) (λ r. not (is_impossible P p r)) e r (omega arith))))
        | inr possible ↦ possible
      ]

-- ---- the relaxed maximum
module _ (P : Problem) (p : Path) (v : Multipliers) (ray : Bool) (T : Set) where
  abbrev is_high : ℤ → ℕ → Bool
  is_high t i = not (T i) || (is_free P p i && int_le t (capped_weight P p v ray i))

  abbrev is_low : ℤ → ℕ → Bool
  is_low t i = not (is_free P p i && not (T i)) || int_le (capped_weight P p v ray i) t

  -- T are free items of the greatest capped weights that fill the test, t is a threshold between
  -- them and the rest
  abbrev pub fill_test : ℤ → Bool
  fill_test t = (size_in P.bank p.taken + size_in P.bank T == P.plan.length) && all_below (size P.bank) (λ i. is_high t i && is_low t i)

  at_least : (a b : ℤ) → int_le a b ≡ true → a ≤ℤ b
  at_least a b e = omega (arith, ints)

  fill_is : (t : ℤ) → HoldsItems P.bank T → fill_test t ≡ true → IsGreatestFill P p v ray T t
  fill_is t items e =
      let parts = and_parts (size_in P.bank p.taken + size_in P.bank T == P.plan.length) _ e in
      let item : (i : ℕ) → i < size P.bank → (is_high t i && is_low t i) ≡ true = each_of (size P.bank) (λ i. is_high t i && is_low t i) parts.1 in
      record {
        free = λ i h. (and_parts (is_free P p i) _ (implied (T i) _ (and_parts (is_high t i) _ (item i (items i h))).0 h)).0;
        fills = eqb-true _ _ parts.0;
        above = λ i w h. at_least t _ (and_parts (is_free P p i) _ (implied (T i) _ (and_parts (is_high t i) _ (item i w)).0 h)).1;
        others = λ i w free not_in. at_least _ t (implied (is_free P p i && not (T i)) _ (and_parts (is_high t i) _ (item i w)).1 (and_from _ _ free (ap not not_in)));
      }

  pub maximum_is : (t r : ℤ) → HoldsItems P.bank T → fill_test t ≡ true → closed_form P p v ray T ≡ r → IsRelaxedMaximum P p v ray r
  maximum_is t r items e by = subst (λ (m : ℤ). IsRelaxedMaximum P p v ray m) by (closed_form_is P p v ray T t (fill_is t items e))

-- a relaxed maximum above a number isn't at most that number
pub not_at_most : (P : Problem) (p : Path) (v : Multipliers) (ray : Bool) (r top : ℤ) → IsRelaxedMaximum P p v ray r → top <ℤ r → MaximumIsAtMost P p v ray top → ⊥
not_at_most P p v ray r top is above other =
    let (X, Z, pair, reached) = is.reached in
    let most = other.is_maximum.greatest X Z pair in
    let low = other.below in
    omega (arith, ints)

pub at_most : (P : Problem) (p : Path) (v : Multipliers) (ray : Bool) (r top : ℤ) → IsRelaxedMaximum P p v ray r → int_le r top ≡ true → MaximumIsAtMost P p v ray top
at_most P p v ray r top is e = record { maximum = r; is_maximum = is; below = omega (arith, ints) }

abbrev side_test : Problem → ℕ → Bool
side_test P side = nat_lt side (2 * length P.plan.rows + 2 * stimuli_of P.bank) || (side == cap_side || side == cap_side + 1)

side_is : (P : Problem) (side : ℕ) → side_test P side ≡ true → IsSide P side
side_is P side e =
    elim (or_true (nat_lt side _) _ e) [
      | inl own ↦ inl (ltb-true _ _ own)
      | inr of_cap ↦ elim (or_true (side == cap_side) _ of_cap) [ inl low ↦ inr (inl (eqb-true _ _ low)) | inr high ↦ inr (inr (eqb-true _ _ high)) ]
    ]

pub names_sides : (P : Problem) (v : Multipliers) → list_all (λ pair. side_test P pair.0) v ≡ true → NamesOnlySides P v
names_sides P [] e k d w = absurd (omega arith)
names_sides P (pair ∷ pairs) e zero d w = side_is P pair.0 (and_parts (side_test P pair.0) _ e).0
names_sides P (pair ∷ pairs) e (suc k) d w = names_sides P pairs (and_parts (side_test P pair.0) _ e).1 k d (omega arith)
