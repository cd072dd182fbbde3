use Rattle.std.proofs.Common.{◌≡◌, ◌∙◌, sym, ap, subst, Some, None, Option, Bor}
use Rattle.std.specs.Option.{option_copied, option_map}
use Rattle.serving_model.specs.declared.seat.Seat.{Seat}
use Rattle.serving_model.specs.Seats.{answers}
use Rattle.history_model.specs.declared.place.Place.{Place}
use Rattle.history_model.specs.Places.{place}
use Rattle.ability_grid.specs.Running.{IsSumsOf}
use Rattle.exam_session.specs.declared.kept_seat.KeptSeat.{KeptSeat}
use Rattle.exam_session.specs.KeptSeats.{seat_kept}
use Rattle.exam_session.proofs.BookLaws.{seat_if_started, seated, problem_given, free_given, none_given, not_placed}
use Rattle.exam_session.proofs.KeptLaws.{found_kept, kept_there, is_short}
use Rattle.exam_session.proofs.book.Book.problem.Goals as goal

pub seat-seat-requires : goal.seat-seat-requires
seat-seat-requires c =
    let held = c.self.invariant in
    is_short c.self.inside.bank.now c.self.inside.spec.now c.self.inside.entries c.self.inside.seats.items c.args.session c.in-Some.kept.now held.0.bank held.0.plan held.0.legal held.1.kept
    (kept_there c.self.inside.seats.items c.deref.result.now c.args.session c.get.result c.in-Some.kept c.deref.ensures.value c.get.ensures.lookup c.in-Some.is)

pub next_problem_from-requires-clause-seat : goal.next_problem_from-requires-clause-seat
next_problem_from-requires-clause-seat c =
    let held = c.self.invariant in
    let found : Some c.seat-seat.result ≡ seat_if_started c.self.inside.entries c.args.session =
    ap (λ (seat : Seat). Some seat) c.seat-seat.ensures
    ∙ (sym (ap (λ (o : Option (Bor KeptSeat)). option_map seat_kept (option_copied o)) c.in-Some.is)
    ∙ found_kept c.self.inside.bank.now c.self.inside.spec.now c.self.inside.entries c.self.inside.seats.items c.deref.result.now c.args.session c.get.result held.0.legal held.1.kept c.deref.ensures.value c.get.ensures.lookup) in
    seated c.self.inside.bank.now c.self.inside.spec.now c.self.inside.entries c.args.session c.seat-seat.result held.0.legal found

pub next_problem_from-requires-clause-sums : goal.next_problem_from-requires-clause-sums
next_problem_from-requires-clause-sums c =
    let held = c.self.invariant in
    let b = c.self.inside.bank.now in
    let plan = c.self.inside.spec.now in
    let there = kept_there c.self.inside.seats.items c.deref.result.now c.args.session c.get.result c.in-Some.kept c.deref.ensures.value c.get.ensures.lookup c.in-Some.is in
    subst (λ (x : Seat). IsSumsOf b plan.prior (answers x) c.sums-sums.result) (sym c.seat-seat.ensures)
    (c.sums-sums.ensures b plan (held.1.sums c.args.session c.in-Some.kept.now there))

pub returns-in-Some-clause-problem : goal.returns-in-Some-clause-problem
returns-in-Some-clause-problem c =
    let held = c.self.invariant in
    let found : Some c.seat-seat.result ≡ seat_if_started c.self.inside.entries c.args.session =
    ap (λ (seat : Seat). Some seat) c.seat-seat.ensures
    ∙ (sym (ap (λ (o : Option (Bor KeptSeat)). option_map seat_kept (option_copied o)) c.in-Some.is)
    ∙ found_kept c.self.inside.bank.now c.self.inside.spec.now c.self.inside.entries c.self.inside.seats.items c.deref.result.now c.args.session c.get.result held.0.legal held.1.kept c.deref.ensures.value c.get.ensures.lookup) in
    rw (← c.self.view_is) (problem_given c.self.inside.bank.now c.self.inside.spec.now c.self.inside.entries c.args.session c.seat-seat.result c.next_problem_from.result held.0.legal found c.next_problem_from.ensures.pending c.next_problem_from.ensures.problem)

pub returns-in-Some-clause-free : goal.returns-in-Some-clause-free
returns-in-Some-clause-free c = free_given c.self.inside.bank.now c.self.inside.spec.now c.self.inside.entries c.args.session c.seat-seat.result c.next_problem_from.result c.next_problem_from.ensures.pending c.next_problem_from.ensures.problem

pub returns-in-Some-clause-none : goal.returns-in-Some-clause-none
returns-in-Some-clause-none c =
    let held = c.self.invariant in
    let found : Some c.seat-seat.result ≡ seat_if_started c.self.inside.entries c.args.session =
    ap (λ (seat : Seat). Some seat) c.seat-seat.ensures
    ∙ (sym (ap (λ (o : Option (Bor KeptSeat)). option_map seat_kept (option_copied o)) c.in-Some.is)
    ∙ found_kept c.self.inside.bank.now c.self.inside.spec.now c.self.inside.entries c.self.inside.seats.items c.deref.result.now c.args.session c.get.result held.0.legal held.1.kept c.deref.ensures.value c.get.ensures.lookup) in
    rw (← c.self.view_is) (none_given c.self.inside.bank.now c.self.inside.spec.now c.self.inside.entries c.args.session c.seat-seat.result c.next_problem_from.result held.0.legal found c.next_problem_from.ensures.pending)

pub returns-in-None-clause-none : goal.returns-in-None-clause-none
returns-in-None-clause-none c = λ step e.
    let held = c.self.invariant in
    let none : None ≡ seat_if_started c.self.inside.entries c.args.session =
    sym (ap (λ (o : Option (Bor KeptSeat)). option_map seat_kept (option_copied o)) c.in-None.is)
    ∙ found_kept c.self.inside.bank.now c.self.inside.spec.now c.self.inside.entries c.self.inside.seats.items c.deref.result.now c.args.session c.get.result held.0.legal held.1.kept c.deref.ensures.value c.get.ensures.lookup in
    let nowhere : None ≡ place c.args.self.now.plan c.args.self.now.entries c.args.session = rw (← c.self.view_is) (not_placed c.self.inside.spec.now c.self.inside.entries c.args.session none) in
    differ _ (nowhere ∙ e)
  where
    differ : (p : Place) → None ≡ Some p → ⊥
    differ p e = cc
