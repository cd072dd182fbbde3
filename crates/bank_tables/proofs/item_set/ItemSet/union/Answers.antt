use Rattle.std.proofs.Common.{◌≡◌, ◌/◌, ◌^◌, ◌<◌, get_or, bit_or, ℕ, List, length, subst, inl, inr, refl, arith}
use Rattle.std.proofs.lemmas.Bool.{cases_lt}
use Rattle.std.proofs.lemmas.Nat.{or_lt}
use Rattle.bank_tables.proofs.Bits.{has_past}
use Rattle.bank_tables.proofs.Words.{has_or}
use Rattle.bank_tables.proofs.item_set.ItemSet.union.Goals as goal

pub invariant_of-result : goal.invariant_of-result
invariant_of-result c = record {
  eight = c.loop-k.invariant.size;
  small = λ k lt.
      let own : get_or c.args.self k 0 < 2 ^ 64 = subst (λ (ws : List ℕ). get_or ws k 0 < 2 ^ 64) c.self.view_is (c.self.invariant.small k lt) in
      let fits : bit_or (get_or c.args.self k 0) (get_or c.other.inside.words k 0) < 2 ^ 64 = or_lt 64 (get_or c.args.self k 0) (get_or c.other.inside.words k 0) own (c.other.invariant.small k lt) in
      rw (c.loop-k.invariant.done k (omega (arith, lt))) fits;
}

pub returns : goal.returns
returns c i =
    let e : length c.args.self ≡ 8 = subst (λ (ws : List ℕ). length ws ≡ 8) c.self.view_is c.self.invariant.eight in
    rw (← c.other.view_is)
    (elim (cases_lt i 512) [
      | inl within ↦ has_or c.args.self c.other.inside.words c.loop-k.words i (c.loop-k.invariant.done (i / 64) (omega arith))
      | inr past ↦ rw (has_past c.loop-k.words i c.loop-k.invariant.size past, has_past c.args.self i e past, has_past c.other.inside.words i c.other.invariant.eight past) refl
    ])
