use Rattle.std.proofs.Common.{◌≡◌, ℕ, ◌+◌, ◌*◌, ◌∙◌, ap, arith}
use Rattle.bank_tables.specs.Items.{Set, has}
use Rattle.exam_records.specs.Sets.{number_of}
use Rattle.exam_records.proofs.SetLaws.{eight_at}
use Rattle.exam_records.proofs.sets.eight_bytes.Goals as goal

pub returns-clause-bytes : goal.returns-clause-bytes
returns-clause-bytes c =
    let X : Set = has c.args.set.now in
    let first : ℕ = 64 * c.args.word in
    let none : first ≡ first + 8 * 0 = omega arith in
    eight_at (λ k. number_of 8 X (first + 8 * k)) c.eight_items.result c.eight_items-2.result c.eight_items-3.result c.eight_items-4.result c.eight_items-5.result c.eight_items-6.result c.eight_items-7.result c.eight_items-8.result
    (c.eight_items.ensures ∙ ap (number_of 8 X) none) c.eight_items-2.ensures c.eight_items-3.ensures c.eight_items-4.ensures c.eight_items-5.ensures c.eight_items-6.ensures c.eight_items-7.ensures c.eight_items-8.ensures
