use Rattle.std.proofs.Common.{◌+◌, ◌++◌, ◌∷◌, [], List, ℕ, Bool, cond, sym, ap, ◌∙◌, subst, arith}
use Rattle.std.specs.List.{insert}
use Rattle.std.specs.Vec.{vec_len}
use Rattle.history_model.specs.declared.entry.Entry.{Entry}
use Rattle.history_model.specs.Legality.{Legal}
use Rattle.exam_session.specs.Bookings.{IsPlaceFor, AreBookings}
use Rattle.exam_session.proofs.Applied.{no_start}
use Rattle.exam_session.proofs.BookingNotes.{bookings_started, bookings_kept}
use Rattle.exam_session.proofs.bookings.note_booking.Goals as goal

pub returns-in_default : goal.returns-in_default
returns-in_default c =
    let other = no_start c.args.entry.now c.in_default.not-Started in
    record {
      bookings = λ b plan H run legal kept. bookings_kept H c.args.bookings.now.each.items c.args.bookings.now.order.items c.args.entry.now other kept;
      number = sym (ap (λ (t : Bool). vec_len c.args.bookings.now.each + cond t 1 0) other ∙ omega arith);
      capacity = search;
    }

pub returns-in-Ok-clause-bookings : goal.returns-in-Ok-clause-bookings
returns-in-Ok-clause-bookings c = λ b plan H run legal kept.
    let bookings = c.args.bookings.now.each.items in
    let order = c.args.bookings.now.order.items in
    let session = c.in-Started.session in
    let booking = c.in-Started.booking in
    let place = c.place_for-place.result in
    let is = c.in-Started.is in
    let lent : IsPlaceFor bookings c.as_slice-in-Started.result.now booking place = subst (λ (xs : List ℕ). IsPlaceFor xs c.as_slice-in-Started.result.now booking place) c.as_slice.ensures.value c.place_for-place.ensures in
    let at : IsPlaceFor bookings order booking place = subst (λ (xs : List ℕ). IsPlaceFor bookings xs booking place) c.as_slice-in-Started.ensures.value lent in
    let started : AreBookings (H ++ c.args.entry.now ∷ []) (bookings ++ booking ∷ []) (insert order place session) =
    subst (λ (e : Entry). AreBookings (H ++ e ∷ []) (bookings ++ booking ∷ []) (insert order place session)) (sym is)
    (bookings_started b plan H bookings order session booking place c.in-Started.eligible c.in-Started.without at (subst (λ (e : Entry). Legal b plan H e) is legal) kept) in
    rw (c.in-Ok.ensures.items, c.push_reserved.ensures.items) started
