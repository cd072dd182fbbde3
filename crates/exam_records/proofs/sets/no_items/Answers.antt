use Rattle.std.proofs.Common.{false}
use Rattle.exam_records.proofs.SetLaws.{words_again}
use Rattle.exam_records.proofs.sets.no_items.Goals as goal

pub returns : goal.returns
returns c = words_again c.empty-set.result (λ _. false) c.is_set.ensures (λ i lt. c.empty-set.ensures i)
