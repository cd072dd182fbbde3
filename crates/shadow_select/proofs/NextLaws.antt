-- The best of the candidates, one after another.
use Rattle.std.proofs.Common.{◌≡◌, ℕ, ◌+◌, ◌≤◌, ◌<◌, ◌⊎◌, inl, inr, true, false, refl, sym, ◌∙◌, subst, arith, Option, Some, None, IsFalse}
use Rattle.std.specs.Prelude.{IfSome}
use Rattle.std.proofs.Math.Bool.{true≢false}
use Rattle.bank_tables.specs.Items.{Set}
use Rattle.bank_tables.specs.Tables.{size, info}
use Rattle.form_model.specs.Problem.{Problem}
use Rattle.form_model.specs.Forms.{Form}
use Rattle.serving_model.specs.Serving.{is_candidate}
use Rattle.form_model.specs.Validity.{IsWellMade}
use Rattle.serving_model.proofs.NextItems.{some_next}
use Rattle.form_model.proofs.SumLaws.{and_true}
use Rattle.shadow_select.specs.Next.{HasFreeItem, IsNextBelow}

last_or : (i n : ℕ) → i < n + 1 → (i < n) ⊎ (i ≡ n)
last_or i n w = grind arith

module _ (P : Problem) (X : Set) where
  -- the next number is no candidate
  pub passed_over : (n : ℕ) (best : Option ℕ) → is_candidate P X n ≡ false → IsNextBelow n P X best → IsNextBelow (n + 1) P X best
  passed_over n None fails next = λ i w. elim (last_or i n w) [ inl old ↦ next i old | inr new ↦ subst (λ (k : ℕ). is_candidate P X k ≡ false) (sym new) fails ]
  passed_over n (Some item) fails next = (
    omega (arith, next.0),
    next.1,
    λ i w e. elim (last_or i n w) [ inl old ↦ next.2 i old e | inr new ↦ absurd (true≢false (sym e ∙ subst (λ (k : ℕ). is_candidate P X k ≡ false) (sym new) fails)) ],
    next.3,
  )

  -- it is the first one
  pub first_found : (n : ℕ) → is_candidate P X n ≡ true → IsNextBelow n P X None → IsNextBelow (n + 1) P X (Some n)
  first_found n passes none = (
    omega arith,
    passes,
    λ i w e. elim (last_or i n w) [ inl old ↦ absurd (true≢false (sym e ∙ none i old)) | inr new ↦ subst (λ (k : ℕ). info P.bank k P.theta ≤ info P.bank n P.theta) (sym new) (omega arith) ],
    λ i w e. absurd (true≢false (sym e ∙ none i w)),
  )

  -- it has more information than the best
  pub bettered : (n old : ℕ) → is_candidate P X n ≡ true → info P.bank old P.theta < info P.bank n P.theta → IsNextBelow n P X (Some old) → IsNextBelow (n + 1) P X (Some n)
  bettered n old passes more next = (
    omega arith,
    passes,
    λ i w e. elim (last_or i n w) [ inl before ↦ omega (arith, next.2 i before e, more) | inr new ↦ subst (λ (k : ℕ). info P.bank k P.theta ≤ info P.bank n P.theta) (sym new) (omega arith) ],
    λ i w e. omega (arith, next.2 i w e, more),
  )

  -- it has no more
  pub stayed : (n old : ℕ) → info P.bank n P.theta ≤ info P.bank old P.theta → IsNextBelow n P X (Some old) → IsNextBelow (n + 1) P X (Some old)
  stayed n old least next = (
    omega (arith, next.0),
    next.1,
    λ i w e. elim (last_or i n w) [ inl before ↦ next.2 i before e | inr new ↦ subst (λ (k : ℕ). info P.bank k P.theta ≤ info P.bank old P.theta) (sym new) least ],
    next.3,
  )

  -- there is a candidate
  pub none_is_wrong : Form P X → HasFreeItem P X → ((i : ℕ) → i < size P.bank → IsFalse (is_candidate P X i)) → ⊥
  none_is_wrong form free none =
      let (item, next) = some_next P X free.item form free.held free.not_given in
      let parts = and_true _ _ (and_true _ _ next.candidate).0 in
      true≢false (sym next.candidate ∙ none item (form.meets.right_length.in_bank item parts.0))

-- the item given last is of the bank
pub last_in_bank : (P : Problem) → IsWellMade P → IfSome P.last (λ item. item < size P.bank)
last_in_bank P made = by P.last (λ item e. made.given_items item (made.last_given item e))
  where
    by : (last : Option ℕ) → ((item : ℕ) → last ≡ Some item → item < size P.bank) → IfSome last (λ item. item < size P.bank)
    by None h = tt
    by (Some item) h = h item refl
