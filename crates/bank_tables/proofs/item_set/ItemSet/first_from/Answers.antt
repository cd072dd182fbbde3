use Rattle.std.proofs.Common.{◌≡◌, ◌<◌, ◌/◌, ◌^◌, ℕ, get_or, List, length, sym, subst, inl, inr, arith}
use Rattle.std.proofs.lemmas.Bool.{cases_lt}
use Rattle.bank_tables.proofs.Bits.{has_past}
use Rattle.bank_tables.proofs.Words.{word_from, none_from, first_in_word, first_after}
use Rattle.bank_tables.proofs.item_set.ItemSet.first_from.Goals as goal

above : (n : ℕ) → (n ≡ 0 → ⊥) → 0 < n
above n h = omega arith

pub returns-then-from-ge-ITEMS-clause-lowest : goal.returns-then-from-ge-ITEMS-clause-lowest
returns-then-from-ge-ITEMS-clause-lowest c i high =
    let e : length c.args.self.now ≡ 8 = subst (λ (ws : List ℕ). length ws ≡ 8) c.self.view_is c.self.invariant.eight in
    has_past c.args.self.now i e (omega (arith, c.if-from-ge-ITEMS.true))

pub returns-then-word-ne0-clause-lowest : goal.returns-then-word-ne0-clause-lowest
returns-then-word-ne0-clause-lowest c =
    let words : List ℕ = c.self.inside.words in
    let fits : get_or words (c.args.from / 64) 0 < 2 ^ 64 = c.self.invariant.small (c.args.from / 64) (omega (arith, c.if-from-ge-ITEMS.false)) in
    rw (← c.self.view_is) (first_in_word words c.args.from (above (word_from words c.args.from) c.if-word-ne0.true) fits).1

pub returns-then-word-ne0-clause-item : goal.returns-then-word-ne0-clause-item
returns-then-word-ne0-clause-item c =
    let words : List ℕ = c.self.inside.words in
    let fits : get_or words (c.args.from / 64) 0 < 2 ^ 64 = c.self.invariant.small (c.args.from / 64) (omega (arith, c.if-from-ge-ITEMS.false)) in
    omega (arith, c.if-from-ge-ITEMS.false, (first_in_word words c.args.from (above (word_from words c.args.from) c.if-word-ne0.true) fits).0)

pub returns-then-word-ne0-2-clause-lowest : goal.returns-then-word-ne0-2-clause-lowest
returns-then-word-ne0-2-clause-lowest c =
    let words : List ℕ = c.self.inside.words in
    let k = c.loop-k.k in
    let fits : get_or words k 0 < 2 ^ 64 = c.self.invariant.small k (omega (arith, c.loop-k-test.true)) in
    let between : (j : ℕ) → c.args.from / 64 < j → j < k → get_or words j 0 ≡ 0 = subst (λ (ws : List ℕ). (j : ℕ) → c.args.from / 64 < j → j < k → get_or ws j 0 ≡ 0) (sym c.self.view_is) c.loop-k.invariant in
    let none : word_from words c.args.from ≡ 0 = omega (arith, c.if-word-ne0.false) in
    let later : c.args.from / 64 < k = omega (arith, c.loop-k.auto.k) in
    rw (← c.self.view_is) (first_after words c.args.from k later (above (get_or words k 0) c.if-word-ne0-2.true) fits none between).1

pub returns-clause-lowest : goal.returns-clause-lowest
returns-clause-lowest c i high =
    let words : List ℕ = c.self.inside.words in
    let e : length c.args.self.now ≡ 8 = subst (λ (ws : List ℕ). length ws ≡ 8) c.self.view_is c.self.invariant.eight in
    let between : (j : ℕ) → c.args.from / 64 < j → j < c.loop-k.k → get_or words j 0 ≡ 0 = subst (λ (ws : List ℕ). (j : ℕ) → c.args.from / 64 < j → j < c.loop-k.k → get_or ws j 0 ≡ 0) (sym c.self.view_is) c.loop-k.invariant in
    let none : word_from words c.args.from ≡ 0 = omega (arith, c.if-word-ne0.false) in
    elim (cases_lt i 512) [
      | inl within ↦ rw (← c.self.view_is) (none_from words c.args.from i high none (λ after. between (i / 64) after (omega (arith, within, c.loop-k-test.false))))
      | inr past ↦ has_past c.args.self.now i e past
    ]
