use Rattle.std.proofs.Common.{sym, arith}
use Rattle.std.proofs.lemmas.Result.{err_from_is_err_and}
use Rattle.exam_records.proofs.BandFields.{none_read, one_more_read, bands_fail}
use Rattle.exam_records.proofs.reading.bands_of.Goals as goal

pub loop-band-init : goal.loop-band-init
loop-band-init c = rw c.no_items-sets.ensures (none_read c.args.bytes.now c.args.at c.in_ok-count.ensures.there)

pub loop-band-preserved : goal.loop-band-preserved
loop-band-preserved c = one_more_read c.args.bytes.now c.args.at c.loop-band.band c.loop-band.sets c.in_ok-sets.field-0 (omega (arith, c.loop-band-test.true, c.in_ok-count.ensures.few)) c.loop-band.invariant (sym c.in_ok-sets.ensures.set) c.in_ok-sets.ensures.there

pub returns-in_err-sets-clause-bands : goal.returns-in_err-sets-clause-bands
returns-in_err-sets-clause-bands c =
    let p = err_from_is_err_and c.from_residual-in_err-sets.result c.from_residual-in_err-sets.ensures.1 in
    rw (p.1, p.2) (sym (bands_fail c.args.bytes.now c.args.at c.in_ok-count.count c.loop-band.band c.loop-band.sets c.in_err-sets.field-0.0 (sym c.in_ok-count.ensures.count) c.loop-band-test.true c.loop-band.invariant (sym c.in_err-sets.ensures.set)))
