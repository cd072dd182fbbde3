use Rattle.std.proofs.Common.{◌∙◌, sym, ap, Some, Option, Bor}
use Rattle.std.specs.Option.{option_copied, option_map}
use Rattle.serving_model.specs.declared.seat.Seat.{Seat}
use Rattle.exam_session.specs.declared.kept_seat.KeptSeat.{KeptSeat}
use Rattle.exam_session.specs.KeptSeats.{seat_kept}
use Rattle.exam_session.proofs.KeptLaws.{found_kept, kept_there, is_short}
use Rattle.exam_session.proofs.book.Book.seat.Goals as goal

pub seat-requires : goal.seat-requires
seat-requires c =
    let held = c.self.invariant in
    is_short c.self.inside.bank.now c.self.inside.spec.now c.self.inside.entries c.self.inside.seats.items c.args.session c.in-Some.kept.now held.0.bank held.0.plan held.0.legal held.1.kept
    (kept_there c.self.inside.seats.items c.deref.result.now c.args.session c.get.result c.in-Some.kept c.deref.ensures.value c.get.ensures.lookup c.in-Some.is)

pub returns-in-Some : goal.returns-in-Some
returns-in-Some c =
    let held = c.self.invariant in
    rw (← c.self.view_is)
    (ap (λ (seat : Seat). Some seat) c.seat.ensures
    ∙ (sym (ap (λ (o : Option (Bor KeptSeat)). option_map seat_kept (option_copied o)) c.in-Some.is)
    ∙ found_kept c.self.inside.bank.now c.self.inside.spec.now c.self.inside.entries c.self.inside.seats.items c.deref.result.now c.args.session c.get.result held.0.legal held.1.kept c.deref.ensures.value c.get.ensures.lookup))

pub returns-in-None : goal.returns-in-None
returns-in-None c =
    let held = c.self.invariant in
    rw (← c.self.view_is)
    (sym (ap (λ (o : Option (Bor KeptSeat)). option_map seat_kept (option_copied o)) c.in-None.is)
    ∙ found_kept c.self.inside.bank.now c.self.inside.spec.now c.self.inside.entries c.self.inside.seats.items c.deref.result.now c.args.session c.get.result held.0.legal held.1.kept c.deref.ensures.value c.get.ensures.lookup)
