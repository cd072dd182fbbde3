use Rattle.std.proofs.Common.{arith}
use Rattle.std.proofs.lemmas.List.{length-map}
use Rattle.exam_session.specs.KeptSeats.{seat_kept}
use Rattle.history_model.proofs.Bounds.{sessions_are_few}
use Rattle.exam_session.proofs.book.Book.sessions.Goals as goal

pub overflow_cast-result : goal.overflow_cast-result
overflow_cast-result c =
    let kept = c.self.invariant in
    let few = sessions_are_few c.self.inside.bank.now c.self.inside.spec.now c.self.inside.entries kept.0.legal in
    let high = kept.0.plan.few_sessions in
    let number = kept.1.kept.are.number in
    let same = length-map c.self.inside.seats.items seat_kept in
    let len = c.len.ensures in
    omega arith

pub returns-clause-few : goal.returns-clause-few
returns-clause-few c =
    let kept = c.self.invariant in
    let few = sessions_are_few c.self.inside.bank.now c.self.inside.spec.now c.self.inside.entries kept.0.legal in
    let number = kept.1.kept.are.number in
    let same = length-map c.self.inside.seats.items seat_kept in
    let len = c.len.ensures in
    rw (← c.self.view_is) (omega arith)
