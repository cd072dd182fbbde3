use Rattle.std.proofs.Common.{◌+◌, ◌++◌, ◌∷◌, [], List, length, Bool, cond, Option, sym, ap, ◌∙◌, subst, arith}
use Rattle.std.specs.Vec.{vec_len}
use Rattle.std.specs.Prelude.{IfSome}
use Rattle.history_model.specs.declared.entry.Entry.{Entry}
use Rattle.history_model.specs.declared.entry.Without.{Without}
use Rattle.history_model.specs.Entries.{starts}
use Rattle.history_model.specs.Legality.{Legal}
use Rattle.exam_session.specs.declared.kept_seat.KeptSeat.{KeptSeat}
use Rattle.exam_session.specs.KeptSeats.{IsSeated, AreKept, HaveSums, StartsSeat}
use Rattle.exam_session.proofs.Applied.{no_start}
use Rattle.exam_session.proofs.KeptNotes.{kept_started, whole}
use Rattle.exam_session.proofs.SumNotes.{sums_started}
use Rattle.exam_session.proofs.seats.note_seat.Goals as goal

pub returns-in-Started-clause-seats : goal.returns-in-Started-clause-seats
returns-in-Started-clause-seats c = λ b plan H run legal ready are.
    let is = c.in-Started.is in
    subst (λ (e : Entry). AreKept plan (H ++ e ∷ []) c.start_seat.new.seats.items) (sym is)
    (kept_started b plan H c.args.seats.now.items c.start_seat.new.seats.items c.in-Started.session c.in-Started.booking c.in-Started.eligible c.in-Started.without c.args.spare.now run (subst (λ (e : Entry). Legal b plan H e) is legal) (c.requires.spare (ap starts is)) ready (subst (λ (list : Option Without). IfSome c.args.spare.now (StartsSeat c.args.seats.now.items c.in-Started.eligible list c.start_seat.new.seats.items)) c.as_ref.ensures.value c.start_seat.ensures.seats) are)

pub returns-in-Started-clause-sums : goal.returns-in-Started-clause-sums
returns-in-Started-clause-sums c = λ plan grid ready have.
    sums_started c.args.bank.now plan c.args.seats.now.items c.start_seat.new.seats.items c.in-Started.eligible c.in-Started.without c.args.spare.now grid (c.requires.spare (ap starts c.in-Started.is)) ready (subst (λ (list : Option Without). IfSome c.args.spare.now (StartsSeat c.args.seats.now.items c.in-Started.eligible list c.start_seat.new.seats.items)) c.as_ref.ensures.value c.start_seat.ensures.seats) have

pub change_seat-requires : goal.change_seat-requires
change_seat-requires c = subst (λ (xs : List KeptSeat). IsSeated c.args.bank.now xs c.args.entry.now) (sym c.as_mut_slice.ensures.value) (c.requires.seated (no_start c.args.entry.now c.in_default.not-Started))

pub returns-in_default : goal.returns-in_default
returns-in_default c =
    let other = no_start c.args.entry.now c.in_default.not-Started in
    let lent = c.as_mut_slice.ensures.value in
    let after = c.change_seat.new.seats in
    let is = whole c.args.seats.now.len c.args.seats.now.items after c.args.seats.now.ok.0 (c.change_seat.auto.seats ∙ ap (λ (xs : List KeptSeat). length xs) lent) in
    record {
      seats = λ b plan H run legal ready are.
          subst (λ (xs : List KeptSeat). AreKept plan (H ++ c.args.entry.now ∷ []) xs) (sym is)
          (c.change_seat.ensures.seats b plan H other run legal (subst (λ (xs : List KeptSeat). AreKept plan H xs) (sym lent) are));
      sums = λ plan grid ready have.
          subst (λ (xs : List KeptSeat). HaveSums c.args.bank.now plan xs) (sym is)
          (c.change_seat.ensures.sums plan (subst (λ (xs : List KeptSeat). HaveSums c.args.bank.now plan xs) (sym lent) have));
      spare = λ plan ready. ready;
      number = sym (ap (λ (t : Bool). vec_len c.args.seats.now + cond t 1 0) other ∙ omega arith);
      capacity = search;
    }
