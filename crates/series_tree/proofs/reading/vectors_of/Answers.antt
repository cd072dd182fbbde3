use Rattle.std.proofs.Common.{rules}
use Rattle.std.proofs.lemmas.Result.{err_from_is_err_and}
use Rattle.series_tree.specs.Reading.{vectors_at}
use Rattle.series_tree.proofs.Loops.{vectors_go_on, vectors_end, vectors_done}
use Rattle.series_tree.proofs.reading.vectors_of.Goals as goal

pub returns-in_err-vector-clause-vectors : goal.returns-in_err-vector-clause-vectors
returns-in_err-vector-clause-vectors c =
    let p = err_from_is_err_and c.from_residual.result c.from_residual.ensures.1 in
    rw (p.1, p.2) (vectors_end c.loop.vectors.items c.loop.room c.args.count c.loop.counter c.args.bytes.now c.loop.at c.in_err-vector.field-0.0 (vectors_at 12288 c.args.count c.args.bytes.now c.args.at) c.loop-test.true c.in_err-vector.ensures.vector c.loop.invariant.1)

pub loop-preserved : goal.loop-preserved
loop-preserved c =
    (c.in_ok-vector.ensures.there, rw (c.in_ok-push.ensures.items, c.pairs.ensures.pairs) (vectors_go_on c.loop.vectors.items c.loop.room c.args.count c.loop.counter c.args.bytes.now c.loop.at c.in_ok-vector.vector c.in_ok-vector.next (vectors_at 12288 c.args.count c.args.bytes.now c.args.at) c.loop-test.true c.in_ok-vector.ensures.vector c.loop.invariant.1))

pub returns-clause-vectors : goal.returns-clause-vectors
returns-clause-vectors c = vectors_done c.loop.vectors.items c.loop.room c.args.count c.loop.counter c.args.bytes.now c.loop.at (vectors_at 12288 c.args.count c.args.bytes.now c.args.at) c.loop-test.false c.loop.invariant.1

pub loop-init : goal.loop-init
loop-init c = search rules

pub returns-in_err-vector-clause-there : goal.returns-in_err-vector-clause-there
returns-in_err-vector-clause-there c = search rules

pub overflow_sub-room : goal.overflow_sub-room
overflow_sub-room c = search rules

pub returns-in_err-push-clause-vectors : goal.returns-in_err-push-clause-vectors
returns-in_err-push-clause-vectors c = search rules

pub returns-in_err-push-clause-there : goal.returns-in_err-push-clause-there
returns-in_err-push-clause-there c = search rules

pub returns-clause-there : goal.returns-clause-there
returns-clause-there c = search rules
