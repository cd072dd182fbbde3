use Rattle.std.proofs.Common.{◌≡◌, ◌∙◌, ◌<◌, length, get_or, slice_get, Some, sym, arith}
use Rattle.std.proofs.lemmas.Option.{slice_get-get_or}
use Rattle.exam_session.proofs.CountNotes.{counted_more, none_counted, all_counted}
use Rattle.exam_session.proofs.counting.count_bands.Goals as goal

pub loop-band-init : goal.loop-band-init
loop-band-init c = none_counted c.args.bank.now c.args.spec.now c.args.seat.now c.args.counters.now

pub count_band-requires : goal.count_band-requires
count_band-requires c =
    let b = c.args.bank.now in
    let can = c.requires.countable in
    let band = c.loop-band.band in
    let now = c.loop-band.counters in
    let tally = get_or now band c.index-counters-band.result in
    let below = c.loop-band-test.true in
    let same = c.loop-band.auto.counters in
    let within : band < length now = omega arith in
    let number = can.bands in
    let few = can.few in
    let first : slice_get c.args.counters.now band ≡ Some tally = sym (c.loop-band.invariant.kept band (omega arith)) ∙ slice_get-get_or now band c.index-counters-band.result within in (
      c.args.spec.now,
      record {
        low = omega arith;
        visits_are = c.requires.visits;
        shown = can.shown band;
        eligible = can.eligible band;
        number = can.number band tally first;
        room = can.room band tally first;
      },
    )

pub loop-band-preserved : goal.loop-band-preserved
loop-band-preserved c =
    let band = c.loop-band.band in
    let now = c.loop-band.counters in
    let below = c.loop-band-test.true in
    let same = c.loop-band.auto.counters in
    let within : band < length now = omega arith in
    counted_more c.args.bank.now c.args.spec.now c.args.seat.now band c.args.counters.now now (get_or now band c.index-counters-band.result) c.count_band.new.counters
    (slice_get-get_or now band c.index-counters-band.result within) (c.count_band.ensures c.args.spec.now c.requires.visits) c.loop-band.invariant

pub returns : goal.returns
returns c = all_counted c.args.bank.now c.args.spec.now c.args.seat.now c.loop-band.band c.args.counters.now c.loop-band.counters c.loop-band-test.false c.loop-band.invariant
