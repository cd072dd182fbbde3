use Rattle.std.proofs.Common.{length, refl, arith}
use Rattle.std.proofs.lemmas.Option.{slice_get_read}
use Rattle.history_model.proofs.Standing.{before_end}
use Rattle.exam_session.proofs.DrawNotes.{none_drawn, drawn_more}
use Rattle.exam_session.proofs.drawing.draw_bands.Goals as goal

pub loop-band-init : goal.loop-band-init
loop-band-init c = none_drawn c.args.key.now c.args.rate c.args.session c.args.counters.now c.empty-sets.result c.empty-sets.ensures

pub loop-band-preserved : goal.loop-band-preserved
loop-band-preserved c =
    let below = c.loop-band-test.true in
    let few = c.requires in
    let at = slice_get_read c.args.counters.now (length c.args.counters.now) c.loop-band.band c.index-counters-band.result refl below c.index-counters-band.is in
    drawn_more c.args.key.now c.args.rate c.args.session c.loop-band.band c.args.counters.now c.loop-band.sets c.draw_band.result c.index-counters-band.result (omega arith) at c.draw_band.ensures c.loop-band.invariant

pub returns-clause-eight : goal.returns-clause-eight
returns-clause-eight c = c.loop-band.invariant.number

pub returns-clause-drawn : goal.returns-clause-drawn
returns-clause-drawn c = λ band tally at.
    let within = before_end c.args.counters.now band tally at in
    let all = c.loop-band-test.false in
    c.loop-band.invariant.done band tally (omega arith) at

pub returns-clause-past : goal.returns-clause-past
returns-clause-past c = λ band past.
    let end = c.loop-band.auto.band-end in
    c.loop-band.invariant.past band (omega arith)
