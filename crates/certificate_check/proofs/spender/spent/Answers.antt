use Rattle.std.proofs.Common.{◌≡◌, ◌<◌, List, length, ap, subst, arith}
use Rattle.certificate_model.specs.declared.node.Node.{Node}
use Rattle.certificate_model.specs.Spending.{open_leaves, IsDepthFirst}
use Rattle.constraint_model.specs.Views.{problem_of}
use Rattle.certificate_check.specs.Cuts.{path_of}
use Rattle.certificate_check.proofs.SpendSteps.{spent_where}
use Rattle.certificate_check.proofs.spender.spent.Goals as goal

pub returns : goal.returns
returns c =
    let P = problem_of c.args.problem.now in
    let T = c.args.tree.now in
    let spends = spent_where P T (path_of c.root_cut.result) c.spent_to.result c.is_some.result c.is_some.ensures c.root_cut.ensures c.nodes-nodes.ensures.tree.shape.one_tree c.spent_to.ensures in
    let number : length T.nodes ≡ c.args.budget = omega (arith, ap (λ (xs : List Node). length xs) c.nodes-nodes.ensures.nodes, c.if-nodes-budget.false) in
    let some : 0 < open_leaves T.nodes = subst (λ (xs : List Node). 0 < open_leaves xs) c.nodes-nodes.ensures.nodes (c.has_open_leaf.ensures.0 c.if-not-has_open_leaf.false) in
    let first : IsDepthFirst T.nodes = subst (λ (xs : List Node). IsDepthFirst xs) c.nodes-nodes.ensures.nodes (c.is_depth_first.ensures.0 c.if-not-is_depth_first.false) in (
      λ h. record { nodes = number; some_open = some; depth_first = first; unresolved = spends.0 h },
      λ spent. spends.1 spent.unresolved,
    )
