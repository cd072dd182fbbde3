use Rattle.std.proofs.Common.{◌≡◌, ℕ, ◌*◌, ◌&&◌, ltb, subst, arith}
use Rattle.bank_tables.specs.Items.{has}
use Rattle.exam_records.proofs.SetLaws.{bit_is_set, all_items}
use Rattle.exam_records.proofs.sets.items_of.Goals as goal

pub returns : goal.returns
returns c =
    let all : 8 * c.loop-byte.byte ≡ 512 = omega arith in
    all_items c.args.bytes.now c.args.at c.loop-byte.set c.is_set.ensures (subst (λ (n : ℕ). (i : ℕ) → has c.loop-byte.set i ≡ (ltb i n && bit_is_set c.args.bytes.now c.args.at i)) all c.loop-byte.invariant)
