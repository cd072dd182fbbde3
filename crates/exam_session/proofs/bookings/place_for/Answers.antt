use Rattle.std.proofs.Common.{ltb, arith, rules}
use Rattle.std.proofs.lemmas.Bool.{ltb-true}
use Rattle.std.proofs.lemmas.List.Sorted.{IsPartitionPoint-from_clause, IsPartitionedBy-ltb}
use Rattle.exam_session.specs.Bookings.{booking_of}
use Rattle.exam_session.proofs.BookingLaws.{do_not_fall, not_below}
use Rattle.exam_session.proofs.bookings.place_for.Goals as goal

pub returns : goal.returns
returns c =
    let bookings = c.args.bookings.now in
    let parted = IsPartitionedBy-ltb (booking_of bookings) _ c.args.booking (do_not_fall bookings c.args.order.now c.requires) in
    let point = IsPartitionPoint-from_clause (λ session. ltb (booking_of bookings session) c.args.booking) _ _ c.partition_point.ensures.partitioned parted (λ a r q k. search rules) in
    record {
      within = c.partition_point.ensures.bound;
      lower = λ k below. ltb-true _ _ (point.0 k 0 (omega arith) below);
      not_lower = λ k past within. not_below _ _ (point.1 k 0 past within);
    }
