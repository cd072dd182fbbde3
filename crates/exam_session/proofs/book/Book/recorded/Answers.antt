use Rattle.std.proofs.Common.{◌≡◌, ◌∙◌, Some, None, Option, Bor, sym, ap}
use Rattle.std.specs.Option.{option_copied, option_map}
use Rattle.exam_session.specs.declared.kept_seat.KeptSeat.{KeptSeat}
use Rattle.exam_session.specs.KeptSeats.{seat_kept}
use Rattle.exam_session.proofs.BookLaws.{seat_if_started}
use Rattle.exam_session.proofs.KeptLaws.{found_kept}
use Rattle.exam_session.proofs.RecordedLaws.{none_recorded, recorded_in}
use Rattle.exam_session.proofs.book.Book.recorded.Goals as goal

pub returns-in-Some : goal.returns-in-Some
returns-in-Some c =
    let held = c.self.invariant in
    let b = c.self.inside.bank.now in
    let plan = c.self.inside.spec.now in
    let H = c.self.inside.entries in
    let run = held.0.legal in
    let found : Some (seat_kept c.in-Some.kept.now) ≡ seat_if_started H c.args.session =
    sym (ap (λ (o : Option (Bor KeptSeat)). option_map seat_kept (option_copied o)) c.in-Some.is)
    ∙ found_kept b plan H c.self.inside.seats.items c.deref.result.now c.args.session c.get.result run held.1.kept c.deref.ensures.value c.get.ensures.lookup in
    rw (← c.self.view_is) (c.response.ensures ∙ recorded_in H c.args.session c.args.step (seat_kept c.in-Some.kept.now) found)

pub returns-in-None : goal.returns-in-None
returns-in-None c =
    let held = c.self.invariant in
    let b = c.self.inside.bank.now in
    let plan = c.self.inside.spec.now in
    let H = c.self.inside.entries in
    let run = held.0.legal in
    let none : None ≡ seat_if_started H c.args.session =
    sym (ap (λ (o : Option (Bor KeptSeat)). option_map seat_kept (option_copied o)) c.in-None.is)
    ∙ found_kept b plan H c.self.inside.seats.items c.deref.result.now c.args.session c.get.result run held.1.kept c.deref.ensures.value c.get.ensures.lookup in
    rw (← c.self.view_is) (sym (none_recorded b plan H c.args.session c.args.step run none))
