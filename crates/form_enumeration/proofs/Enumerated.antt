-- What is kept of the sets of the masks so far.
use Rattle.std.proofs.Common.{◌≡◌, ℕ, ◌+◌, ◌^◌, ◌≤◌, ◌<◌, ◌⊎◌, inl, inr, sym, ap, ◌∙◌, subst, arith, Option, Some, None, List}
use Rattle.std.specs.Prelude.{MatchOption}
use Rattle.std.specs.Option.{option_map}
use Rattle.std.proofs.Math.Path.{fun_ext}
use lib.Count.{ones}
use Rattle.bank_tables.specs.Items.{Set, has}
use Rattle.bank_tables.specs.Tables.{size}
use Rattle.form_model.specs.Problem.{Problem}
use Rattle.form_model.specs.Forms.{Form, Best, HasNoForm}
use Rattle.certificate_model.specs.Verdicts.{IsFormOrNone, IsAtLeast}
use Rattle.form_enumeration.specs.Enumeration.{masked, IsBetterOf}
use Rattle.form_enumeration.proofs.Masks.{mask_of, mask_below, masked_mask, ones_of_mask}

module _ (P : Problem) where
  abbrev pub Before : ℕ → Option Set → Type 0
  Before m kept = (Y : Set) → Form P Y → mask_of (size P.bank) Y < m → IsAtLeast P kept Y

  -- the set of a form's mask is the form
  mask_form : (S Y : Set) → ((i : ℕ) → S i ≡ masked (mask_of (size P.bank) Y) (size P.bank) i) → Form P Y → S ≡ Y
  mask_form S Y e form = fun_ext (λ i. e i ∙ masked_mask (size P.bank) Y form.meets.right_length.in_bank i)

  earlier_or_this : (m k : ℕ) → k < m + 1 → (k < m) ⊎ (k ≡ m)
  earlier_or_this m k h = grind arith

  -- the set of the mask was tried
  pub after_set : (m : ℕ) (S : Set) (kept new : Option Set) → ((i : ℕ) → S i ≡ masked m (size P.bank) i) → IsBetterOf P kept S new → Before m kept → Before (m + 1) new
  after_set m S kept new e better before Y form within =
      elim (earlier_or_this m (mask_of (size P.bank) Y) within) [
        | inl earlier ↦ better.than_kept Y (before Y form earlier)
        | inr this ↦
            let same : S ≡ Y = mask_form S Y (λ i. e i ∙ ap (λ (k : ℕ). masked k (size P.bank) i) (sym this)) form in
            subst (IsAtLeast P new) same (better.than_set (subst (Form P) (sym same) form))
      ]

  -- the mask has too many ones, or too few
  pub after_skip : (m : ℕ) (kept : Option Set) → (ones m ≡ P.plan.length → ⊥) → Before m kept → Before (m + 1) kept
  after_skip m kept other before Y form within =
      elim (earlier_or_this m (mask_of (size P.bank) Y) within) [
        | inl earlier ↦ before Y form earlier
        | inr this ↦ absurd (other (ap ones (sym this) ∙ ones_of_mask (size P.bank) Y ∙ form.meets.right_length.n_items))
      ]

  pub all_masks : (m : ℕ) (kept : Option (List ℕ)) → 2 ^ size P.bank ≤ m → IsFormOrNone P (option_map has kept) → Before m (option_map has kept) → MatchOption kept (HasNoForm P) (λ words. Best P (has words))
  all_masks m None all form before = record { none = λ Y form. before Y form (omega (arith, mask_below (size P.bank) Y)) }
  all_masks m (Some words) all form before = record { form = form; greatest = λ Y form. before Y form (omega (arith, mask_below (size P.bank) Y)) }
