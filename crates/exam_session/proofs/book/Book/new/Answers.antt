use Rattle.std.proofs.Common.{◌∙◌, arith}
use Rattle.history_model.specs.Legality.{empty}
use Rattle.exam_session.proofs.EmptyBook.{no_kept, no_bookings, no_counts, no_counts_by_band, no_sums}
use Rattle.exam_session.proofs.TotalLaws.{no_totals}
use Rattle.exam_session.proofs.book.Book.new.Goals as goal

pub invariant_of-result : goal.invariant_of-result
invariant_of-result c =
    let none = c.new-2.ensures in
    let seats = c.new-3.ensures.items in
    let bookings = c.new-4.ensures.each in
    let order = c.new-4.ensures.order in
    rw (none, seats, bookings, order) (
      record { bank = c.items.ensures.bank; plan = c.requires; legal = empty },
      record { kept = no_kept c.args.spec.now; sums = no_sums c.args.bank.now c.args.spec.now },
      no_bookings,
      no_counts c.args.bank.now c.args.spec.now c.in_ok-counters.counters (c.in_ok-counters.ensures.items ∙ c.items.ensures.items) c.in_ok-counters.ensures.none,
      no_totals,
      omega arith,
      omega arith,
      tt,
      (λ some below. absurd (omega arith)),
      (let long = c.new-3.ensures.len in omega arith),
      (let long = c.new-4.ensures.len in omega arith),
      no_counts_by_band c.args.bank.now c.args.spec.now c.in_ok-band_counters.band_counters.items c.in_ok-band_counters.ensures.number c.in_ok-band_counters.ensures.items c.in_ok-band_counters.ensures.none,
    )
