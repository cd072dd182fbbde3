use Rattle.std.proofs.Common.{rules, ◌≡◌, Option, Some, sym, subst}
use Rattle.std.specs.Prelude.{IfSome}
use Rattle.std.specs.Option.{option_copied}
use Rattle.exam_session.specs.declared.kept_seat.KeptSeat.{KeptSeat}
use Rattle.exam_session.specs.KeptSeats.{StartsSeat}
use Rattle.exam_session.proofs.seats.start_seat.Goals as goal

pub returns-clause-seats : goal.returns-clause-seats
returns-clause-seats c =
    let is : c.args.spare.now ≡ Some c.in-Some.kept = search rules in
    subst (λ (o : Option KeptSeat). IfSome o (StartsSeat c.args.seats.now.items c.args.eligible.now (option_copied c.args.without) c.push_reserved.new.self.items)) (sym is) (record {
      seat = c.start.new.self;
      is = c.push_reserved.ensures.items;
      starts = c.start.ensures.seat;
      room = c.start.ensures.room;
      sums = c.start.ensures.sums;
    })
