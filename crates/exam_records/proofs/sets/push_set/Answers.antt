use Rattle.std.proofs.Common.{sym, append_assoc}
use Rattle.std.proofs.lemmas.List.{append-nil}
use Rattle.bank_tables.specs.Items.{has}
use Rattle.exam_records.specs.Sets.{numbers_of}
use Rattle.exam_records.proofs.SetLaws.{eight_more}
use Rattle.exam_records.proofs.sets.push_set.Goals as goal

pub loop-word-init : goal.loop-word-init
unfolding numbers_of
loop-word-init c = sym (append-nil c.args.out.now.items)

pub loop-word-preserved : goal.loop-word-preserved
loop-word-preserved c = rw (c.in_ok-extend_from_slice.ensures.items, c.loop-word.invariant, eight_more c.loop-word.word (has c.args.set.now) c.eight_bytes.result c.eight_bytes.ensures.length c.eight_bytes.ensures.bytes) (append_assoc c.args.out.now.items _ _)
