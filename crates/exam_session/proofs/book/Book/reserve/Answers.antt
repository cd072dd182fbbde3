use Rattle.std.proofs.Common.{◌∙◌, sym, rules, arith}
use Rattle.std.proofs.lemmas.List.{length-map}
use Rattle.exam_session.specs.KeptSeats.{seat_kept}
use Rattle.exam_session.proofs.book.Book.reserve.Goals as goal

pub reserve-requires-2 : goal.reserve-requires-2
reserve-requires-2 c =
    let kept = c.self.invariant in
    c.self.inside.bookings.order.ok.0 ∙ (kept.2.ordered ∙ sym (c.self.inside.bookings.each.ok.0 ∙ kept.2.number))

pub invariant_of-self : goal.invariant_of-self
invariant_of-self c =
    let kept = c.self.invariant in
    let mapped = length-map c.self.inside.seats.items seat_kept in
    let number = c.self.inside.seats.ok.0 ∙ (sym mapped ∙ kept.1.kept.are.number) in
    let booked = c.self.inside.bookings.each.ok.0 ∙ kept.2.number in (
      search rules,
      search rules,
      search rules,
      search rules,
      search rules,
      omega arith,
      omega arith,
      search rules,
      (λ more below. absurd (omega arith)),
      omega (arith, kept.9),
      omega (arith, kept.10, number, booked),
      search rules,
    )

pub invariant_of-self-in_err-reserve : goal.invariant_of-self-in_err-reserve
invariant_of-self-in_err-reserve c = search rules

pub invariant_of-self-in_err-reserve-2 : goal.invariant_of-self-in_err-reserve-2
invariant_of-self-in_err-reserve-2 c = search rules

pub invariant_of-self-in_err-make_spare : goal.invariant_of-self-in_err-make_spare
invariant_of-self-in_err-make_spare c = search rules

pub invariant_of-self-2 : goal.invariant_of-self-2
invariant_of-self-2 c =
    let kept = c.self.invariant in
    let seats = c.in_ok-reserve.ensures in
    let bookings = c.in_ok-reserve-2.ensures in (
      search rules,
      search rules,
      search rules,
      search rules,
      search rules,
      omega arith,
      omega arith,
      search rules,
      search rules,
      omega (arith, kept.9),
      omega (arith, kept.10),
      search rules,
    )
