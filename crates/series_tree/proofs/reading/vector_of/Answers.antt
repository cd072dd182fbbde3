use Rattle.std.proofs.Common.{◌+◌, arith}
use Rattle.series_tree.proofs.VectorLaws.{pairs_stand}
use Rattle.series_tree.proofs.reading.vector_of.Goals as goal

pub new-requires : goal.new-requires
new-requires c =
    let pairs = pairs_stand c.in_ok-count.count c.args.bytes.now (c.args.at + 2) 0 (c.in_ok-pairs.pairs.items, c.in_ok-pairs.next) (λ i. omega (arith, c.type_inv.bytes i)) c.in_ok-pairs.ensures.pairs in
    rw c.of.ensures pairs.2

pub returns-clause-few : goal.returns-clause-few
returns-clause-few c =
    let pairs = pairs_stand c.in_ok-count.count c.args.bytes.now (c.args.at + 2) 0 (c.in_ok-pairs.pairs.items, c.in_ok-pairs.next) (λ i. omega (arith, c.type_inv.bytes i)) c.in_ok-pairs.ensures.pairs in
    rw (c.new.ensures, c.of.ensures) (omega (arith, pairs.1, c.if-room-count.false))
