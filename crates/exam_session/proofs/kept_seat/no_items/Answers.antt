use Rattle.std.proofs.Common.{false}
use Rattle.exam_records.proofs.SetLaws.{words_again}
use Rattle.exam_session.proofs.kept_seat.no_items.Goals as goal

pub returns : goal.returns
returns c = words_again c.empty-none.result (λ _. false) c.count.ensures.words (λ i lt. c.empty-none.ensures i)
