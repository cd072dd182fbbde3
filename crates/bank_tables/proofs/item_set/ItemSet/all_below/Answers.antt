use Rattle.std.proofs.Common.{◌≡◌, ℕ, arith, length, subst, List, refl, sym, ◌∙◌, inl, inr}
use Rattle.std.proofs.Math.Bool.{true≢false}
use Rattle.std.proofs.lemmas.Bool.{cases_lt}
use Rattle.bank_tables.proofs.Bits.{has_past}
use Rattle.bank_tables.proofs.item_set.ItemSet.all_below.Goals as goal

pub returns : goal.returns
returns c =
    let e : length c.args.self.now ≡ 8 = subst (λ (ws : List ℕ). length ws ≡ 8) c.self.view_is c.self.invariant.eight in (
      λ _ i is_in. elim (cases_lt i c.args.bound) [
        | inl below ↦ below
        | inr from ↦
            elim (cases_lt i 512) [
              | inl within ↦ absurd (true≢false (sym is_in ∙ c.loop-i.invariant i from (omega arith)))
              | inr past ↦ absurd (true≢false (sym is_in ∙ has_past c.args.self.now i e past))
            ]
      ],
      λ _. refl,
    )
