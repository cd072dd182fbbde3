use Rattle.std.proofs.Common.{sym, inr, arith}
use Rattle.std.proofs.lemmas.Result.{err_from_is_err_and}
use Rattle.series_tree.specs.Reading.{pairs_at}
use Rattle.series_tree.proofs.Loops.{pairs_go_on, pairs_end, pairs_done}
use Rattle.series_tree.proofs.reading.pairs_of.Goals as goal

pub returns-in_err-pair-clause-pairs : goal.returns-in_err-pair-clause-pairs
returns-in_err-pair-clause-pairs c =
    let p = err_from_is_err_and c.from_residual.result c.from_residual.ensures.1 in
    rw (p.1, p.2) (inr (pairs_end c.loop.pairs.items c.args.count c.loop.counter c.args.bytes.now c.loop.at c.loop.low c.in_err-pair.field-0.0 (pairs_at c.args.count c.args.bytes.now c.args.at 0) c.loop-test.true (sym c.in_err-pair.ensures.pair) c.loop.invariant.1))

pub loop-preserved : goal.loop-preserved
loop-preserved c =
    (omega (arith, c.in_ok-pair.ensures.there), rw c.in_ok-push.ensures.items (pairs_go_on c.loop.pairs.items c.args.count c.loop.counter c.args.bytes.now c.loop.at c.loop.low c.in_ok-pair.pair (pairs_at c.args.count c.args.bytes.now c.args.at 0) c.loop-test.true (sym c.in_ok-pair.ensures.pair) c.loop.invariant.1), omega (arith, c.loop.invariant.2))

pub returns-clause-pairs : goal.returns-clause-pairs
returns-clause-pairs c = pairs_done c.loop.pairs.items c.args.count c.loop.counter c.args.bytes.now c.loop.at c.loop.low (pairs_at c.args.count c.args.bytes.now c.args.at 0) c.loop-test.false c.loop.invariant.1

pub returns-clause-after : goal.returns-clause-after
returns-clause-after c = omega (arith, c.loop.invariant.2, c.loop-test.false, c.loop.auto.counter-end)
