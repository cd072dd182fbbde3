use Rattle.std.proofs.Common.{◌<◌, List, [], ◌∷◌, ◌++◌, length, ◌∙◌, sym, ap, subst, arith}
use Rattle.exposure_counters.specs.Tallies.{Tally}
use Rattle.exam_session.specs.Kept.{AreCountsByBand}
use Rattle.exam_session.proofs.KeptNotes.{whole}
use Rattle.history_model.specs.Entries.{starts, sessions}
use Rattle.history_model.specs.Legality.{Legal, more}
use Rattle.std.proofs.lemmas.List.{length-map}
use Rattle.exam_session.specs.Ledgers.{Ledger}
use Rattle.exam_session.specs.declared.kept_seat.KeptSeat.{KeptSeat}
use Rattle.exam_session.specs.KeptSeats.{seat_kept, AreKept}
use Rattle.exam_session.proofs.Applied.{is_seated, seats_left, seat_free, is_below, takes_start}
use Rattle.exam_session.proofs.TotalLaws.{have_room, totals_pushed, one_left}
use Rattle.exam_session.proofs.book.Book.apply.Goals as goal

pub note_seat-requires-clause-seated : goal.note_seat-requires-clause-seated
note_seat-requires-clause-seated c = λ no_start.
    let kept = c.self.invariant in
    let b = c.self.inside.bank.now in
    let plan = c.self.inside.spec.now in
    let H = c.self.inside.entries in
    let legal : Legal b plan H c.args.entry = subst (λ (book : Ledger). Legal book.bank book.plan book.entries c.args.entry) (sym c.self.view_is) c.requires.legal in
    is_seated b plan H c.self.inside.seats.items c.args.entry kept.0.bank kept.0.plan no_start kept.0.legal legal kept.1.kept kept.1.sums

pub invariant_of-self : goal.invariant_of-self
invariant_of-self c =
    let kept = c.self.invariant in
    let b = c.self.inside.bank.now in
    let plan = c.self.inside.spec.now in
    let H = c.self.inside.entries in
    let e = c.args.entry in
    let legal : Legal b plan H e = subst (λ (book : Ledger). Legal book.bank book.plan book.entries e) (sym c.self.view_is) c.requires.legal in
    let some : 0 < c.self.inside.room = subst (λ (book : Ledger). 0 < book.room) (sym c.self.view_is) c.requires.room in
    let seats : AreKept plan H c.as_slice.result.now = subst (λ (xs : List KeptSeat). AreKept plan H xs) (sym c.as_slice.ensures.value) kept.1.kept in
    let by_band : AreCountsByBand b plan H c.as_mut_slice.result.now = subst (λ (xs : List Tally). AreCountsByBand b plan H xs) (sym c.as_mut_slice.ensures.value) kept.11 in
    rw c.push.ensures (
      record { bank = kept.0.bank; plan = kept.0.plan; legal = more H e kept.0.legal legal },
      record { kept = c.note_seat.ensures.seats b plan H kept.0.legal legal kept.7 kept.1.kept; sums = c.note_seat.ensures.sums plan (sym kept.0.plan.prior_number) kept.7 kept.1.sums },
      c.note_booking.ensures.bookings b plan H kept.0.legal legal kept.2,
      c.count_entry.ensures.total H kept.0.legal legal seats kept.3,
      totals_pushed H e c.self.inside.totals c.totals_with-self-inside.result kept.4 c.totals_with-self-inside.ensures.small c.totals_with-self-inside.ensures.totals,
      one_left H e c.self.inside.room kept.5 some,
      omega (arith, kept.6),
      c.note_seat.ensures.spare plan kept.7,
      (λ more below. absurd (omega (arith, kept.6, more))),
      seats_left plan.sessions (sessions H) _ _ c.self.inside.room _ _ (starts e) kept.9 some (c.self.inside.seats.ok.0 ∙ (sym (length-map c.self.inside.seats.items seat_kept) ∙ kept.1.kept.are.number)) (is_below b plan H e legal) c.note_seat.ensures.number c.note_seat.ensures.capacity,
      seats_left plan.sessions (sessions H) _ _ c.self.inside.room _ _ (starts e) kept.10 some (c.self.inside.bookings.each.ok.0 ∙ kept.2.number) (is_below b plan H e legal) c.note_booking.ensures.number c.note_booking.ensures.capacity,
      subst (λ (xs : List Tally). AreCountsByBand b plan (H ++ e ∷ []) xs) (sym (whole c.self.inside.band_counters.len c.self.inside.band_counters.items c.count_entry.new.band_counters c.self.inside.band_counters.ok.0 (c.count_entry.auto.band_counters ∙ ap (λ (xs : List Tally). length xs) c.as_mut_slice.ensures.value))) (c.count_entry.ensures.bands H kept.0.legal legal seats by_band),
    )

pub note_seat-requires-clause-room : goal.note_seat-requires-clause-room
note_seat-requires-clause-room c = λ start.
    let kept = c.self.invariant in
    let b = c.self.inside.bank.now in
    let plan = c.self.inside.spec.now in
    let H = c.self.inside.entries in
    let e = c.args.entry in
    let legal : Legal b plan H e = subst (λ (book : Ledger). Legal book.bank book.plan book.entries e) (sym c.self.view_is) c.requires.legal in
    let some : 0 < c.self.inside.room = subst (λ (book : Ledger). 0 < book.room) (sym c.self.view_is) c.requires.room in
    seat_free plan.sessions (sessions H) _ _ c.self.inside.room kept.9 some (c.self.inside.seats.ok.0 ∙ (sym (length-map c.self.inside.seats.items seat_kept) ∙ kept.1.kept.are.number)) (is_below b plan H e legal start)

pub note_seat-requires-clause-spare : goal.note_seat-requires-clause-spare
note_seat-requires-clause-spare c = λ start.
    let kept = c.self.invariant in
    let b = c.self.inside.bank.now in
    let plan = c.self.inside.spec.now in
    let H = c.self.inside.entries in
    let e = c.args.entry in
    let legal : Legal b plan H e = subst (λ (book : Ledger). Legal book.bank book.plan book.entries e) (sym c.self.view_is) c.requires.legal in
    let some : 0 < c.self.inside.room = subst (λ (book : Ledger). 0 < book.room) (sym c.self.view_is) c.requires.room in
    let number = c.self.inside.seats.ok.0 ∙ (sym (length-map c.self.inside.seats.items seat_kept) ∙ kept.1.kept.are.number) in
    let below = is_below b plan H e legal start in
    kept.8 some (omega (arith, number, below))

pub note_booking-requires : goal.note_booking-requires
note_booking-requires c =
    let kept = c.self.invariant in
    let b = c.self.inside.bank.now in
    let plan = c.self.inside.spec.now in
    let H = c.self.inside.entries in
    let e = c.args.entry in
    let legal : Legal b plan H e = subst (λ (book : Ledger). Legal book.bank book.plan book.entries e) (sym c.self.view_is) c.requires.legal in
    let some : 0 < c.self.inside.room = subst (λ (book : Ledger). 0 < book.room) (sym c.self.view_is) c.requires.room in
    record { rising = kept.2.rising; same = c.self.inside.bookings.order.ok.0 ∙ (kept.2.ordered ∙ sym (c.self.inside.bookings.each.ok.0 ∙ kept.2.number)); room = λ start. seat_free plan.sessions (sessions H) _ _ c.self.inside.room kept.10 some (c.self.inside.bookings.each.ok.0 ∙ kept.2.number) (is_below b plan H e legal start) }

pub totals_with-self-inside-requires : goal.totals_with-self-inside-requires
totals_with-self-inside-requires c =
    let kept = c.self.invariant in
    let H = c.self.inside.entries in
    let some : 0 < c.self.inside.room = subst (λ (book : Ledger). 0 < book.room) (sym c.self.view_is) c.requires.room in
    let few = kept.5 in
    have_room H c.self.inside.totals kept.4 (omega arith)

pub push-requires : goal.push-requires
push-requires c =
    let kept = c.self.invariant in
    let some : 0 < c.self.inside.room = subst (λ (book : Ledger). 0 < book.room) (sym c.self.view_is) c.requires.room in
    let few = kept.5 in
    omega arith

pub note_seat-requires-clause-takes : goal.note_seat-requires-clause-takes
note_seat-requires-clause-takes c = λ start.
    let kept = c.self.invariant in
    let b = c.self.inside.bank.now in
    let plan = c.self.inside.spec.now in
    let H = c.self.inside.entries in
    let legal : Legal b plan H c.args.entry = subst (λ (book : Ledger). Legal book.bank book.plan book.entries c.args.entry) (sym c.self.view_is) c.requires.legal in
    takes_start b plan H c.args.entry c.self.inside.spare kept.0.plan legal start kept.7
