use Rattle.std.proofs.Common.{◌<◌, ◌/◌, ◌%◌, ◌^◌, ◌*◌, ℕ, List, length, get_or, bit_or, arith, inl, inr, length-set, ◌∙◌}
use Rattle.std.proofs.lemmas.Nat.{or_lt}
use Rattle.std.proofs.lemmas.Bool.{cases_eq}
use Rattle.std.proofs.lemmas.List.{get_or-set_same, get_or-set_other}
use Rattle.bank_tables.proofs.Bits.{has_set}
use Rattle.bank_tables.proofs.item_set.ItemSet.with.Goals as goal

pub invariant_of-result : goal.invariant_of-result
invariant_of-result c =
    let words : List ℕ = c.self.inside.words in
    let at : ℕ = c.args.item / 64 in
    let within : at < length words = omega (arith, c.self.invariant.eight, c.requires) in
    let value : ℕ = bit_or (get_or words at 0) (1 * 2 ^ (c.args.item % 64) % 2 ^ 64) in
    let fits : value < 2 ^ 64 = or_lt 64 (get_or words at 0) (1 * 2 ^ (c.args.item % 64) % 2 ^ 64) (c.self.invariant.small at (omega (arith, c.requires))) (omega arith) in
    record {
      eight = length-set words at value ∙ c.self.invariant.eight;
      small = λ k lt. elim (cases_eq k at) [
        | inl same ↦ rw (same, get_or-set_same words at value 0 within) fits
        | inr other ↦ rw (get_or-set_other words at k value 0 other) (c.self.invariant.small k lt)
      ];
    }

pub returns : goal.returns
returns c i =
    let within : c.args.item / 64 < length c.self.inside.words = omega (arith, c.self.invariant.eight, c.requires) in
    rw (← c.self.view_is) (has_set c.self.inside.words c.args.item i within)
