use Rattle.std.proofs.Common.{◌≡◌, ◌∙◌, ◌<◌, sym, ap, subst, Some, None, Option, Bor}
use Rattle.std.specs.Option.{option_copied, option_map}
use Rattle.bank_tables.specs.Tables.{size}
use Rattle.history_model.specs.declared.place.Place.{Place}
use Rattle.history_model.specs.Laws.{seat_place}
use Rattle.history_model.specs.Places.{place}
use Rattle.exam_session.specs.Ledgers.{Ledger}
use Rattle.exam_session.specs.declared.kept_seat.KeptSeat.{KeptSeat}
use Rattle.exam_session.specs.KeptSeats.{seat_kept}
use Rattle.exam_session.proofs.BookLaws.{seat_if_started, placed, not_placed, waiting_item}
use Rattle.exam_session.proofs.KeptLaws.{found_kept, kept_there, is_short}
use Rattle.exam_session.proofs.book.Book.place.Goals as goal

pub place-requires : goal.place-requires
place-requires c =
    let held = c.self.invariant in
    is_short c.self.inside.bank.now c.self.inside.spec.now c.self.inside.entries c.self.inside.seats.items c.args.session c.in-Some.kept.now held.0.bank held.0.plan held.0.legal held.1.kept
    (kept_there c.self.inside.seats.items c.deref.result.now c.args.session c.get.result c.in-Some.kept c.deref.ensures.value c.get.ensures.lookup c.in-Some.is)

pub returns-in-Some-clause-place : goal.returns-in-Some-clause-place
returns-in-Some-clause-place c =
    let held = c.self.invariant in
    let b = c.self.inside.bank.now in
    let plan = c.self.inside.spec.now in
    let H = c.self.inside.entries in
    let run = held.0.legal in
    let found : Some (seat_kept c.in-Some.kept.now) ≡ seat_if_started H c.args.session =
    sym (ap (λ (o : Option (Bor KeptSeat)). option_map seat_kept (option_copied o)) c.in-Some.is)
    ∙ found_kept b plan H c.self.inside.seats.items c.deref.result.now c.args.session c.get.result run held.1.kept c.deref.ensures.value c.get.ensures.lookup in
    ap (λ (p : Place). Some p) c.place.ensures ∙ rw (← c.self.view_is) (placed b plan H c.args.session (seat_kept c.in-Some.kept.now) run found)

pub returns-in-Some-clause-item : goal.returns-in-Some-clause-item
returns-in-Some-clause-item c =
    let held = c.self.invariant in
    let b = c.self.inside.bank.now in
    let plan = c.self.inside.spec.now in
    let H = c.self.inside.entries in
    let run = held.0.legal in
    let found : Some (seat_kept c.in-Some.kept.now) ≡ seat_if_started H c.args.session =
    sym (ap (λ (o : Option (Bor KeptSeat)). option_map seat_kept (option_copied o)) c.in-Some.is)
    ∙ found_kept b plan H c.self.inside.seats.items c.deref.result.now c.args.session c.get.result run held.1.kept c.deref.ensures.value c.get.ensures.lookup in
    let at : Some (seat_place plan (seat_kept c.in-Some.kept.now)) ≡ place plan H c.args.session = placed b plan H c.args.session (seat_kept c.in-Some.kept.now) run found in
    let same : Some c.place.result ≡ Some (seat_place plan (seat_kept c.in-Some.kept.now)) = ap (λ (p : Place). Some p) c.place.ensures in
    λ step item proved e.
    let below : item < size b = waiting_item b plan H c.args.session step item proved run (sym at ∙ (sym same ∙ e)) in
    subst (λ (book : Ledger). item < size book.bank) c.self.view_is below

pub returns-in-None-clause-place : goal.returns-in-None-clause-place
returns-in-None-clause-place c =
    let held = c.self.invariant in
    let b = c.self.inside.bank.now in
    let plan = c.self.inside.spec.now in
    let H = c.self.inside.entries in
    let run = held.0.legal in
    let none : None ≡ seat_if_started H c.args.session =
    sym (ap (λ (o : Option (Bor KeptSeat)). option_map seat_kept (option_copied o)) c.in-None.is)
    ∙ found_kept b plan H c.self.inside.seats.items c.deref.result.now c.args.session c.get.result run held.1.kept c.deref.ensures.value c.get.ensures.lookup in
    rw (← c.self.view_is) (not_placed plan H c.args.session none)
