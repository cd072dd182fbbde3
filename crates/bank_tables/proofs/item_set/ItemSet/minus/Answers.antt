use Rattle.std.proofs.Common.{◌≡◌, ◌/◌, ℕ, List, length, subst, inl, inr, refl, arith, rules}
use Rattle.std.proofs.lemmas.Bool.{cases_lt}
use Rattle.bank_tables.proofs.Bits.{has_past}
use Rattle.bank_tables.proofs.Words.{has_and_not}
use Rattle.bank_tables.proofs.item_set.ItemSet.minus.Goals as goal

pub returns : goal.returns
returns c i =
    let e : length c.args.self ≡ 8 = subst (λ (ws : List ℕ). length ws ≡ 8) c.self.view_is c.self.invariant.eight in
    rw (← c.other.view_is)
    (elim (cases_lt i 512) [
      | inl within ↦ has_and_not c.args.self c.other.inside.words c.loop-k.words i (search rules) (c.loop-k.invariant.done (i / 64) (omega arith))
      | inr past ↦ rw (has_past c.loop-k.words i c.loop-k.invariant.size past, has_past c.args.self i e past) refl
    ])
