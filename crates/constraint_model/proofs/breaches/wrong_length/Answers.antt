use Rattle.std.proofs.Common.{◌≡◌, ◌≤◌, ◌<◌, ℕ, true, arith, refl, sym, ◌∙◌, inl, inr}
use Rattle.std.proofs.Math.Bool.{true≢false}
use Rattle.bank_tables.specs.Items.{Set, has}
use Rattle.bank_tables.specs.Sums.{size_of, count_in}
use Rattle.bank_tables.specs.Tables.{size}
use Rattle.bank_tables.proofs.Bits.{size_of-below}
use Rattle.form_model.proofs.SumLaws.{either}
use Rattle.constraint_model.proofs.breaches.wrong_length.Goals as goal
use Rattle.constraint_model.proofs.breaches.wrong_length.Goals.{else-all_below-via-then-all_below+else-found-plan, else-all_below-via-else-all_below}

-- a set of items of the bank is counted there
counted : (n : ℕ) (X : Set) → n ≤ 512 → ((i : ℕ) → X i ≡ true → i < n) → size_of X ≡ count_in n X (λ _. true)
counted n X few below = size_of-below n X few (λ i past. elim (either (X i)) [ inl has_i ↦ absurd (omega (arith, below i has_i)) | inr not_i ↦ not_i ])

pub returns-then-found-plan : goal.returns-then-found-plan
returns-then-found-plan c =
    let below : (i : ℕ) → has c.args.form.now i ≡ true → i < size c.args.bank.now = λ i e. omega (arith, c.if-all_below.ensures.0 refl i e, c.items.ensures.items) in
    let n = counted (size c.args.bank.now) (has c.args.form.now) c.items.ensures.bank.few below in
    record {
      in_bank = below;
      n_items = omega arith;
    }

pub returns-else-all_below : goal.returns-else-all_below
returns-else-all_below c =
    elim c.else-all_below.branch [
      | else-all_below-via-then-all_below+else-found-plan w ↦
          (λ right. w.if-found-plan.false (c.count-found.ensures.count ∙ counted (size c.args.bank.now) (has c.args.form.now) c.items.ensures.bank.few right.in_bank ∙ right.n_items ∙ sym refl), c.count-found.ensures.count)
      | else-all_below-via-else-all_below w ↦
          (λ right. true≢false (sym (w.if-all_below.ensures.1 (λ i e. omega (arith, right.in_bank i e, c.items.ensures.items)))), c.count-found.ensures.count)
    ]
