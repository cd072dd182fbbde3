use Rattle.std.proofs.Common.{◌≡◌, ◌∙◌, false, length, sym, ap, subst, Option, Bor}
use Rattle.history_model.specs.SessionProblems.{is_aside_now}
use Rattle.exam_session.specs.Ledgers.{Ledger}
use Rattle.std.specs.Option.{option_copied, option_map}
use Rattle.serving_model.specs.declared.seat.Seat.{Seat}
use Rattle.serving_model.specs.Seats.{answers, band_at, is_aside_in}
use Rattle.exam_session.specs.declared.kept_seat.KeptSeat.{KeptSeat}
use Rattle.exam_session.specs.KeptSeats.{seat_kept}
use Rattle.exam_session.proofs.BookLaws.{not_aside}
use Rattle.exam_session.proofs.KeptLaws.{found_kept, kept_there, is_of}
use Rattle.exam_session.proofs.book.Book.is_aside.Goals as goal

pub returns-in-Some : goal.returns-in-Some
returns-in-Some c =
    let held = c.self.invariant in
    let b = c.self.inside.bank.now in
    let plan = c.self.inside.spec.now in
    let at = kept_there c.self.inside.seats.items c.deref.result.now c.args.session c.get.result c.in-Some.kept c.deref.ensures.value c.get.ensures.lookup c.in-Some.is in
    let is = is_of plan c.self.inside.entries c.self.inside.seats.items c.args.session c.in-Some.kept.now held.1.kept at in
    subst (λ (l : Ledger). c.is_aside.result ≡ is_aside_now l.bank l.plan l.entries c.args.session) c.self.view_is
    (c.is_aside.ensures b (held.1.sums c.args.session c.in-Some.kept.now at) ∙ ap (λ (x : Seat). is_aside_in x (band_at b plan x (length (answers x)))) is)

pub returns-in-None : goal.returns-in-None
returns-in-None c =
    let held = c.self.invariant in
    subst (λ (l : Ledger). false ≡ is_aside_now l.bank l.plan l.entries c.args.session) c.self.view_is
    (not_aside c.self.inside.bank.now c.self.inside.spec.now c.self.inside.entries c.args.session held.0.legal
    (sym (ap (λ (o : Option (Bor KeptSeat)). option_map seat_kept (option_copied o)) c.in-None.is)
    ∙ found_kept c.self.inside.bank.now c.self.inside.spec.now c.self.inside.entries c.self.inside.seats.items c.deref.result.now c.args.session c.get.result held.0.legal held.1.kept c.deref.ensures.value c.get.ensures.lookup))
