use Rattle.std.proofs.Common.{arith, sym}
use Rattle.proof_tree.proofs.Fields.{IsBytes, byte_stands}
use Rattle.series_tree.proofs.VectorLaws.{vectors_stand}
use Rattle.series_tree.proofs.TreeLaws.{nodes_stand, is_tree}
use Rattle.series_tree.proofs.reading.tree_of.Goals as goal

pub new-requires : goal.new-requires
new-requires c =
    let fits : IsBytes c.args.bytes.now = λ i. omega (arith, c.type_inv.bytes i) in
    let count = byte_stands c.args.bytes.now 0 c.in_ok-count.count fits (sym c.in_ok-count.ensures.byte) in
    let vectors = vectors_stand 12288 c.in_ok-count.count c.args.bytes.now 1 (c.in_ok-vectors.vectors.items, c.in_ok-vectors.next) fits c.in_ok-vectors.ensures.vectors in
    let nodes = nodes_stand 4095 1 c.args.bytes.now c.in_ok-vectors.next (c.in_ok-nodes.nodes.items, c.in_ok-nodes.next) fits c.in_ok-nodes.ensures in
    rw (c.of.ensures, c.of-2.ensures) (is_tree c.in_ok-vectors.vectors.items c.in_ok-nodes.nodes.items (omega (arith, vectors.1, count.1)) vectors.2 vectors.3 nodes.few nodes.trees nodes.numbers)
