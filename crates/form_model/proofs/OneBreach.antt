-- A set of items has one first breach, or none.
use Rattle.std.proofs.Common.{◌≡◌, ℕ, ◌<◌, ◌⊎◌, inl, inr, refl, sym, ap, ◌∙◌, arith, Option, Some, None}
use Rattle.std.proofs.Math.Bool.{true≢false}
use Rattle.bank_tables.specs.Items.{Set}
use Rattle.form_model.specs.declared.breach.Breach.{Breach}
use Rattle.form_model.specs.declared.breach.Breach.TheVariants.{Length, Row, Stimulus, Given, Barred}
use Rattle.form_model.specs.Breaches.{IsFirstBreach}
use Rattle.form_model.specs.Forms.{activity, used, items_of}
use Rattle.form_model.specs.Plan.{row_at}
use Rattle.form_model.specs.Problem.{Problem}
use Rattle.form_model.proofs.BreachLaws.{breach_no_form}

in_order : (i j : ℕ) → (i < j) ⊎ ((j < i) ⊎ (i ≡ j))
in_order i j = grind arith

module _ (P : Problem) (X : Set) where
  abbrev Is : Breach → Type 0
  Is b = IsFirstBreach P X (Some b)

  row_found : (r q f g : ℕ) → r ≡ q → f ≡ activity P.bank (row_at P.plan r) X (used P.bank X) → g ≡ activity P.bank (row_at P.plan q) X (used P.bank X) → Row r f ≡ Row q g
  row_found r q f g e a b = let same : f ≡ g = a ∙ (ap (λ (k : ℕ). activity P.bank (row_at P.plan k) X (used P.bank X)) e ∙ sym b) in cc

  stimulus_found : (s t f g : ℕ) → s ≡ t → f ≡ items_of P.bank s X → g ≡ items_of P.bank t X → Stimulus s f ≡ Stimulus t g
  stimulus_found s t f g e a b = let same : f ≡ g = a ∙ (ap (λ (k : ℕ). items_of P.bank k X) e ∙ sym b) in cc

  -- the earlier of two kinds leaves no room for the later
  one : (b c : Breach) → Is b → Is c → b ≡ c
  one (Length f) (Length g) h k = let same : f ≡ g = h.1 ∙ sym k.1 in cc
  one (Length f) (Row q g) h k = absurd (h.0 k.0)
  one (Length f) (Stimulus t g) h k = absurd (h.0 k.0)
  one (Length f) (Given j) h k = absurd (h.0 k.0.right_length)
  one (Length f) (Barred j) h k = absurd (h.0 k.0.right_length)
  one (Row r f) (Length g) h k = absurd (k.0 h.0)
  one (Row r f) (Row q g) h k = elim (in_order r q) [ inl before ↦ absurd (h.3 (k.1 r before)) | inr (inl behind) ↦ absurd (k.3 (h.1 q behind)) | inr (inr at) ↦ row_found r q f g at h.4 k.4 ]
  one (Row r f) (Stimulus t g) h k = absurd (h.3 (k.1 r h.2))
  one (Row r f) (Given j) h k = absurd (h.3 (k.0.rows r h.2))
  one (Row r f) (Barred j) h k = absurd (h.3 (k.0.rows r h.2))
  one (Stimulus s f) (Length g) h k = absurd (k.0 h.0)
  one (Stimulus s f) (Row q g) h k = absurd (k.3 (h.1 q k.2))
  one (Stimulus s f) (Stimulus t g) h k = elim (in_order s t) [ inl before ↦ absurd (h.5 (k.2 s h.3 before)) | inr (inl behind) ↦ absurd (k.5 (h.2 t k.3 behind)) | inr (inr at) ↦ stimulus_found s t f g at h.6 k.6 ]
  one (Stimulus s f) (Given j) h k = absurd (h.5 (k.0.stimuli s h.3 h.4))
  one (Stimulus s f) (Barred j) h k = absurd (h.5 (k.0.stimuli s h.3 h.4))
  one (Given i) (Length g) h k = absurd (k.0 h.0.right_length)
  one (Given i) (Row q g) h k = absurd (k.3 (h.0.rows q k.2))
  one (Given i) (Stimulus t g) h k = absurd (k.5 (h.0.stimuli t k.3 k.4))
  one (Given i) (Given j) h k = elim (in_order i j) [ inl before ↦ absurd (true≢false (sym (k.1 i before h.2) ∙ h.3)) | inr (inl behind) ↦ absurd (true≢false (sym (h.1 j behind k.2) ∙ k.3)) | inr (inr at) ↦ ap Given at ]
  one (Given i) (Barred j) h k = absurd (true≢false (sym (k.1 i h.2) ∙ h.3))
  one (Barred i) (Length g) h k = absurd (k.0 h.0.right_length)
  one (Barred i) (Row q g) h k = absurd (k.3 (h.0.rows q k.2))
  one (Barred i) (Stimulus t g) h k = absurd (k.5 (h.0.stimuli t k.3 k.4))
  one (Barred i) (Given j) h k = absurd (true≢false (sym (h.1 j k.2) ∙ k.3))
  one (Barred i) (Barred j) h k = elim (in_order i j) [ inl before ↦ absurd (true≢false (sym h.4 ∙ k.2 i before h.3)) | inr (inl behind) ↦ absurd (true≢false (sym k.4 ∙ h.2 j behind k.3)) | inr (inr at) ↦ ap Barred at ]

  pub one_breach : (b c : Option Breach) → IsFirstBreach P X b → IsFirstBreach P X c → b ≡ c
  one_breach None None h k = refl
  one_breach None (Some c) h k = absurd (breach_no_form P X c k h)
  one_breach (Some b) None h k = absurd (breach_no_form P X b h k)
  one_breach (Some b) (Some c) h k = ap Some (one b c h k)
