use Rattle.std.proofs.Common.{rules, sym, inr, arith}
use Rattle.std.proofs.lemmas.Result.{err_from_is_err_and}
use Rattle.series_tree.specs.Reading.{nodes_at}
use Rattle.series_tree.proofs.Shapes.{few_children}
use Rattle.series_tree.proofs.Loops.{nodes_go_on, nodes_end, nodes_unfinished, nodes_too_long, nodes_done}
use Rattle.series_tree.proofs.reading.nodes_of.Goals as goal

pub returns-then-at-bytes : goal.returns-then-at-bytes
returns-then-at-bytes c =
    let l = c.loop-waiting in
    inr (nodes_unfinished l.nodes.items l.room l.waiting c.args.bytes.now l.at (nodes_at 4095 1 c.args.bytes.now c.args.at) (omega (arith, c.loop-waiting-test.true)) c.if-at-bytes.true l.invariant.read)

pub returns-then-room-eq0 : goal.returns-then-room-eq0
returns-then-room-eq0 c =
    let l = c.loop-waiting in
    inr (nodes_too_long l.nodes.items l.room l.waiting c.args.bytes.now l.at (nodes_at 4095 1 c.args.bytes.now c.args.at) c.if-room-eq0.true (omega (arith, c.loop-waiting-test.true)) (omega (arith, l.invariant.there, c.if-at-bytes.false)) l.invariant.read)

pub returns-in_err-node : goal.returns-in_err-node
returns-in_err-node c =
    let l = c.loop-waiting in
    let p = err_from_is_err_and c.from_residual.result c.from_residual.ensures.1 in
    rw (p.1, p.2) (inr (nodes_end l.nodes.items l.room l.waiting c.args.bytes.now l.at c.in_err-node.field-0.0 (nodes_at 4095 1 c.args.bytes.now c.args.at) (omega (arith, c.if-room-eq0.false)) (omega (arith, c.loop-waiting-test.true)) (omega (arith, l.invariant.there, c.if-at-bytes.false)) (sym c.in_err-node.ensures.node) l.invariant.read))

pub loop-waiting-preserved : goal.loop-waiting-preserved
loop-waiting-preserved c =
    let l = c.loop-waiting in
    let few = few_children c.in_ok-node.node in
    record {
      there = c.in_ok-node.ensures.there;
      few = omega (arith, l.invariant.few, c.children.ensures, c.if-room-eq0.false, c.loop-waiting-test.true);
      read = rw (c.in_ok-push.ensures.items, c.children.ensures) (nodes_go_on l.nodes.items l.room l.waiting c.args.bytes.now l.at c.in_ok-node.node c.in_ok-node.next (nodes_at 4095 1 c.args.bytes.now c.args.at) (omega (arith, c.if-room-eq0.false)) (omega (arith, c.loop-waiting-test.true)) (omega (arith, l.invariant.there, c.if-at-bytes.false)) (sym c.in_ok-node.ensures.node) l.invariant.read);
    }

pub returns : goal.returns
returns c =
    let l = c.loop-waiting in
    nodes_done l.nodes.items l.room l.waiting c.args.bytes.now l.at (nodes_at 4095 1 c.args.bytes.now c.args.at) (omega (arith, c.loop-waiting-test.false)) l.invariant.read

pub loop-waiting-init : goal.loop-waiting-init
loop-waiting-init c = search rules
