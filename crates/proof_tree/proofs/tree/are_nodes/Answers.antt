use Rattle.std.proofs.Common.{List, All, subst, refl}
use Rattle.std.proofs.lemmas.List.{take_all}
use Rattle.std.proofs.lemmas.List.Elements.{All-more}
use Rattle.certificate_model.specs.declared.node.Node.{Node}
use Rattle.certificate_model.specs.declared.node.Node.TheVariants.{BranchItem}
use Rattle.proof_tree.specs.Shape.{IsNode}
use Rattle.proof_tree.proofs.tree.are_nodes.Goals as goal

pub loop-node-preserved : goal.loop-node-preserved
loop-node-preserved c =
    All-more IsNode c.args.nodes.now c.loop-node.node-index (BranchItem 0) c.loop-node-test.true c.loop-node.invariant (c.is_node.ensures.0 c.if-not-is_node.false)

pub returns : goal.returns
returns c =
    (λ e. subst (λ (xs : List Node). All IsNode xs) (take_all c.loop-node.node-index c.args.nodes.now c.loop-node-test.false) c.loop-node.invariant, λ h. refl)
