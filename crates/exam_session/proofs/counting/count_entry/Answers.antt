use Rattle.std.proofs.Common.{◌∙◌, sym, subst, arith}
use Rattle.bank_tables.specs.Items.{has}
use Rattle.serving_model.specs.declared.seat.Seat.{Seat}
use Rattle.serving_model.specs.Seats.{IsSeat}
use Rattle.history_model.proofs.Running.{seat_is_seat}
use Rattle.exam_session.proofs.CountNotes.{counts_kept, counts_more, by_band_kept, by_band_more, countable, few_finished, finishes_seat, seat_at, short_at, shown_of_bank}
use Rattle.exam_session.proofs.counting.count_entry.Goals as goal

pub returns-in_default-clause-total : goal.returns-in_default-clause-total
returns-in_default-clause-total c = λ H run legal seats kept.
    counts_kept c.args.bank.now c.args.spec.now H c.args.entry.now c.args.counters.now c.requires.plan.some_items run legal (sym c.finished_by.ensures ∙ c.in_default.is) kept

pub returns-in_default-clause-bands : goal.returns-in_default-clause-bands
returns-in_default-clause-bands c = λ H run legal seats kept.
    by_band_kept c.args.bank.now c.args.spec.now H c.args.entry.now c.args.band_counters.now c.requires.plan.some_items run legal (sym c.finished_by.ensures ∙ c.in_default.is) kept

pub bounds-seats-session : goal.bounds-seats-session
bounds-seats-session c =
    let exam = c.requires.examination in
    finishes_seat c.args.bank.now c.args.spec.now exam.0 c.args.seats.now c.args.entry.now c.in-Some.session exam.1 exam.2 exam.3 (sym c.finished_by.ensures ∙ c.in-Some.is)

pub seat-seat-requires : goal.seat-seat-requires
seat-seat-requires c =
    let exam = c.requires.examination in
    short_at c.args.bank.now c.args.spec.now exam.0 c.args.seats.now c.args.entry.now c.in-Some.session c.index-seats-session.result c.requires.bank c.requires.plan exam.1 exam.2 exam.3 (sym c.finished_by.ensures ∙ c.in-Some.is) c.index-seats-session.is

pub visits_of-visits-requires-clause-seat : goal.visits_of-visits-requires-clause-seat
visits_of-visits-requires-clause-seat c =
    let exam = c.requires.examination in
    let b = c.args.bank.now in
    let plan = c.args.spec.now in
    let is = seat_at b plan exam.0 c.args.seats.now c.args.entry.now c.in-Some.session c.index-seats-session.result c.seat-seat.result exam.1 exam.2 exam.3 (sym c.finished_by.ensures ∙ c.in-Some.is) c.index-seats-session.is c.seat-seat.ensures in
    subst (λ (x : Seat). IsSeat b plan x) (sym is) (seat_is_seat b plan exam.0 c.in-Some.session exam.1)

pub shown_items-shown-requires : goal.shown_items-shown-requires
shown_items-shown-requires c =
    let exam = c.requires.examination in
    shown_of_bank c.args.bank.now c.args.spec.now exam.0 c.in-Some.session c.seat-seat.result exam.1
    (seat_at c.args.bank.now c.args.spec.now exam.0 c.args.seats.now c.args.entry.now c.in-Some.session c.index-seats-session.result c.seat-seat.result exam.1 exam.2 exam.3 (sym c.finished_by.ensures ∙ c.in-Some.is) c.index-seats-session.is c.seat-seat.ensures)

pub open_in_all-open-requires-clause-items : goal.open_in_all-open-requires-clause-items
open_in_all-open-requires-clause-items c =
    let exam = c.requires.examination in
    let b = c.args.bank.now in
    let plan = c.args.spec.now in
    let finishes = sym c.finished_by.ensures ∙ c.in-Some.is in
    let is = seat_at b plan exam.0 c.args.seats.now c.args.entry.now c.in-Some.session c.index-seats-session.result c.seat-seat.result exam.1 exam.2 exam.3 finishes c.index-seats-session.is c.seat-seat.ensures in
    (countable b plan exam.0 c.args.entry.now c.in-Some.session c.seat-seat.result c.args.band_counters.now c.requires.plan exam.1 exam.2 finishes is exam.5).eligible

pub finish-requires-clause-shown : goal.finish-requires-clause-shown
finish-requires-clause-shown c = λ i held.
    let exam = c.requires.examination in
    let within = shown_of_bank c.args.bank.now c.args.spec.now exam.0 c.in-Some.session c.seat-seat.result exam.1
    (seat_at c.args.bank.now c.args.spec.now exam.0 c.args.seats.now c.args.entry.now c.in-Some.session c.index-seats-session.result c.seat-seat.result exam.1 exam.2 exam.3 (sym c.finished_by.ensures ∙ c.in-Some.is) c.index-seats-session.is c.seat-seat.ensures) i (sym (c.shown_items-shown.ensures i) ∙ held) in
    let number = exam.4.number in
    omega arith

pub finish-requires-clause-eligible : goal.finish-requires-clause-eligible
finish-requires-clause-eligible c = λ i held.
    let within = c.open_in_all-open.ensures.items i held in
    let number = c.requires.examination.4.number in
    omega arith

pub finish-requires-clause-few : goal.finish-requires-clause-few
finish-requires-clause-few c =
    let exam = c.requires.examination in
    few_finished c.args.bank.now c.args.spec.now exam.0 c.args.entry.now c.in-Some.session c.args.counters.now c.requires.plan exam.1 exam.2 (sym c.finished_by.ensures ∙ c.in-Some.is) exam.4

pub count_bands-requires-clause-countable : goal.count_bands-requires-clause-countable
count_bands-requires-clause-countable c =
    let exam = c.requires.examination in
    let b = c.args.bank.now in
    let plan = c.args.spec.now in
    let finishes = sym c.finished_by.ensures ∙ c.in-Some.is in
    let is = seat_at b plan exam.0 c.args.seats.now c.args.entry.now c.in-Some.session c.index-seats-session.result c.seat-seat.result exam.1 exam.2 exam.3 finishes c.index-seats-session.is c.seat-seat.ensures in
    countable b plan exam.0 c.args.entry.now c.in-Some.session c.seat-seat.result c.args.band_counters.now c.requires.plan exam.1 exam.2 finishes is exam.5

pub returns-clause-total : goal.returns-clause-total
returns-clause-total c = λ H run legal seats kept.
    let b = c.args.bank.now in
    let plan = c.args.spec.now in
    let seat = c.seat-seat.result in
    let finishes = sym c.finished_by.ensures ∙ c.in-Some.is in
    counts_more b plan H c.args.entry.now c.in-Some.session seat c.args.counters.now c.finish.new.self (has c.shown_items-shown.result) (has c.open_in_all-open.result)
    c.requires.plan.some_items run legal finishes (seat_at b plan H c.args.seats.now c.args.entry.now c.in-Some.session c.index-seats-session.result seat run legal seats finishes c.index-seats-session.is c.seat-seat.ensures) kept
    c.finish.ensures.items c.finish.ensures.counts c.finish.ensures.finished c.shown_items-shown.ensures c.open_in_all-open.ensures.open

pub returns-clause-bands : goal.returns-clause-bands
returns-clause-bands c = λ H run legal seats kept.
    let b = c.args.bank.now in
    let plan = c.args.spec.now in
    let seat = c.seat-seat.result in
    let finishes = sym c.finished_by.ensures ∙ c.in-Some.is in
    by_band_more b plan H c.args.entry.now c.in-Some.session seat c.args.band_counters.now c.count_bands.new.counters
    c.requires.plan.some_items run legal finishes (seat_at b plan H c.args.seats.now c.args.entry.now c.in-Some.session c.index-seats-session.result seat run legal seats finishes c.index-seats-session.is c.seat-seat.ensures)
    c.count_bands.ensures kept
