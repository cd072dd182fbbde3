use Rattle.std.proofs.Common.{get_or, arith}
use Rattle.certificate_model.specs.declared.node.Node.TheVariants.{BranchItem}
use Rattle.proof_tree.proofs.Shapes.{tree_step_at, none_waits, few_children}
use Rattle.proof_tree.proofs.tree.are_one_tree.Goals as goal

pub returns-then-waiting-eq0 : goal.returns-then-waiting-eq0
returns-then-waiting-eq0 c =
    let stuck = none_waits c.loop-node.waiting c.loop-node.node-index c.args.nodes.now c.loop-node-test.true c.if-waiting-eq0.true in
    (λ e. absurd cc, λ t. absurd (stuck (c.loop-node.invariant.1.0 t)))

pub loop-node-preserved : goal.loop-node-preserved
loop-node-preserved c =
    let step = tree_step_at c.loop-node.waiting c.loop-node.node-index c.args.nodes.now (BranchItem 0) c.loop-node-test.true c.if-waiting-eq0.false in
    let few = few_children (get_or c.args.nodes.now c.loop-node.node-index (BranchItem 0)) in
    (omega arith, rw c.children.ensures (λ t. step.0 (c.loop-node.invariant.1.0 t), λ t. c.loop-node.invariant.1.1 (step.1 t)))
