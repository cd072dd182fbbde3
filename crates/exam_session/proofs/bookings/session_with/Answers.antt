use Rattle.std.proofs.Common.{◌≡◌, ◌∙◌, sym, ap, Some, slice_get}
use Rattle.std.specs.Option.{option_copied}
use Rattle.exam_session.specs.Bookings.{booking_of}
use Rattle.exam_session.proofs.BookLaws.{looked_up}
use Rattle.exam_session.proofs.BookingLaws.{new_before, present, not_there, same_session, no_session}
use Rattle.exam_session.proofs.bookings.session_with.Goals as goal

pub returns-in-Some : goal.returns-in-Some
returns-in-Some c =
    let bookings = c.args.bookings.now in
    let l = c.args.order.now in
    let at = c.place_for.result in
    let there : slice_get l at ≡ Some c.in-Some.session.now = sym (looked_up l at c.get.result c.get.ensures.lookup) ∙ ap option_copied c.in-Some.is in
    sym (present bookings l c.args.booking at c.in-Some.session.now there (sym c.booking_of.ensures ∙ c.if-booking_of-booking.true) (new_before bookings l c.args.booking at c.place_for.ensures))

pub returns-in_default : goal.returns-in_default
returns-in_default c =
    let bookings = c.args.bookings.now in
    let l = c.args.order.now in
    let at = c.place_for.result in
    let there : slice_get l at ≡ Some c.in-Some.session.now = sym (looked_up l at c.get.result c.get.ensures.lookup) ∙ ap option_copied c.in-Some.is in
    sym (not_there bookings l c.args.booking at c.place_for.ensures c.requires
    (λ session e same. c.if-booking_of-booking.false (c.booking_of.ensures ∙ (ap (booking_of bookings) (same_session l at c.in-Some.session.now session there e) ∙ same))))

pub returns-in_default-2 : goal.returns-in_default-2
returns-in_default-2 c =
    let bookings = c.args.bookings.now in
    let l = c.args.order.now in
    let at = c.place_for.result in
    let nothing = sym (looked_up l at c.get.result c.get.ensures.lookup) ∙ ap option_copied c.in_default.is in
    sym (not_there bookings l c.args.booking at c.place_for.ensures c.requires (λ session e same. no_session l at session nothing e))
