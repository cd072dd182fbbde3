use Rattle.std.proofs.lemmas.Result.{on_ok_weaker}
use Rattle.answer_journal.proofs.Finishing.{some_skipped}
use Rattle.answer_journal.proofs.walk.Walk.settle_mark.Goals as goal

pub returns-clause-settled : goal.returns-clause-settled
returns-clause-settled g c =
    let w = c.self.inside in
    rw (← c.self.view_is)
    (on_ok_weaker c.settle_mark.result
    (λ settled told one two switched. settled told one (some_skipped w.extent.version w.extent.skipped one two) switched)
    c.settle_mark.ensures.settled)
