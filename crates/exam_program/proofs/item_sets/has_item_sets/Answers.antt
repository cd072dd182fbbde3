use Rattle.std.proofs.Common.{◌≡◌, ℕ, ◌+◌, ◌<◌, ◌≤◌, ◌⊎◌, inl, inr, List, length, get_or, Option, IfSome, ap, ◌∙◌, subst, rules, arith}
use Rattle.std.proofs.lemmas.List.{get_or_default}
use Rattle.bank_tables.specs.Items.{AreWords}
use Rattle.form_model.specs.declared.row.Row.{Row}
use Rattle.form_model.specs.Plan.{no_row}
use Rattle.exam_program.specs.ItemSets.{set_of}
use Rattle.exam_program.proofs.item_sets.has_item_sets.Goals as goal

-- the rows before one, and that one
up_to : (rows : List Row) (k : ℕ) (row : Row) → row ≡ get_or rows k row → k < length rows → IfSome (set_of row) AreWords
    → ((r : ℕ) → r < k → IfSome (set_of (get_or rows r no_row)) AreWords)
    → (r : ℕ) → r < k + 1 → IfSome (set_of (get_or rows r no_row)) AreWords
up_to rows k row is lt set before r below = elim (cases r k) [
  | inl less ↦ before r less
  | inr more ↦
      (let last : k ≡ r = omega arith in
      let here : row ≡ get_or rows r no_row = is ∙ get_or_default rows k row no_row lt ∙ ap (λ (n : ℕ). get_or rows n no_row) last in
      subst (λ (x : Row). IfSome (set_of x) AreWords) here set)
]
  where
    cases : (a b : ℕ) → (a < b) ⊎ (b ≤ a)
    cases a b = search rules

pub loop-row-init : goal.loop-row-init
loop-row-init c = λ r lt. absurd (omega (arith, lt))

pub loop-row-preserved : goal.loop-row-preserved
loop-row-preserved c = up_to c.rows-rows.result.now c.loop-row.row-index c.row-item.result c.row-item.is c.loop-row-test.true c.has_item_set.ensures c.loop-row.invariant

pub returns : goal.returns
returns c = record {
  rows = subst (λ (rows : List Row). (r : ℕ) → r < length rows → IfSome (set_of (get_or rows r no_row)) AreWords) c.rows-rows.ensures (λ r lt. c.loop-row.invariant r (omega (arith, lt)));
  base = subst (λ (o : Option (List ℕ)). IfSome o AreWords) c.base.ensures c.base_is_item_set.ensures;
}
