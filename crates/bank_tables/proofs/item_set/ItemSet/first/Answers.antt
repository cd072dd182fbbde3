use Rattle.std.proofs.Common.{◌≡◌, ◌<◌, ◌/◌, ◌^◌, ℕ, get_or, List, length, subst, inl, inr, arith, rules}
use Rattle.std.proofs.lemmas.Bool.{cases_lt}
use Rattle.bank_tables.proofs.Bits.{has_past}
use Rattle.bank_tables.proofs.Words.{first_in, has_none}
use Rattle.bank_tables.proofs.item_set.ItemSet.first.Goals as goal

above : (n : ℕ) → (n ≡ 0 → ⊥) → 0 < n
above n h = omega arith

pub returns-then-word-ne0-clause-lowest : goal.returns-then-word-ne0-clause-lowest
returns-then-word-ne0-clause-lowest c =
    let words : List ℕ = c.self.inside.words in
    let fits : get_or words c.loop-k.k 0 < 2 ^ 64 = search rules in
    let none : (j : ℕ) → j < c.loop-k.k → get_or words j 0 ≡ 0 = subst (λ (ws : List ℕ). (j : ℕ) → j < c.loop-k.k → get_or ws j 0 ≡ 0) (search rules) c.loop-k.invariant in
    rw (← c.self.view_is) (first_in words c.loop-k.k (above (get_or words c.loop-k.k 0) c.if-word-ne0.true) fits none).1

pub returns-clause-lowest : goal.returns-clause-lowest
returns-clause-lowest c i =
    let e : length c.args.self.now ≡ 8 = subst (λ (ws : List ℕ). length ws ≡ 8) c.self.view_is c.self.invariant.eight in
    elim (cases_lt i 512) [
      | inl within ↦ has_none c.args.self.now i (c.loop-k.invariant (i / 64) (omega arith))
      | inr past ↦ has_past c.args.self.now i e past
    ]
