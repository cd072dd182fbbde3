use Rattle.std.proofs.Common.{◌≡◌, ◌<◌, ◌/◌, ◌^◌, ℕ, get_or, List, length, subst, inl, inr, refl, sym, ◌∙◌, arith, rules}
use Rattle.std.proofs.lemmas.Bool.{cases_lt, false≢true}
use Rattle.bank_tables.proofs.Bits.{has_past}
use Rattle.bank_tables.proofs.Words.{sub_words, word_within}
use Rattle.bank_tables.proofs.item_set.ItemSet.is_subset.Goals as goal

pub returns-then-self-k : goal.returns-then-self-k
returns-then-self-k c =
    let k : ℕ = c.loop-k.k in
    let fits : get_or c.self.inside.words k 0 < 2 ^ 64 = search rules in
    rw (← c.self.view_is, ← c.other.view_is)
    (λ h. absurd (false≢true h), λ sub. absurd (c.if-self-k.true (word_within c.self.inside.words c.other.inside.words k fits sub)))

pub returns : goal.returns
returns c =
    let e : length c.args.self.now ≡ 8 = subst (λ (ws : List ℕ). length ws ≡ 8) c.self.view_is c.self.invariant.eight in (
      λ _ i h. elim (cases_lt i 512) [
        | inl within ↦ sub_words c.args.self.now c.args.other.now i (c.loop-k.invariant (i / 64) (omega arith)) h
        | inr past ↦ absurd (false≢true (sym (has_past c.args.self.now i e past) ∙ h))
      ],
      λ _. refl,
    )
