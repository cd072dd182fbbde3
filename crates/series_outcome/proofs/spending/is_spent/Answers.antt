use Rattle.std.proofs.Common.{◌<◌, List, length, ap, subst, arith}
use Rattle.series_model.specs.declared.node.SeriesNode.{SeriesNode}
use Rattle.series_tree.specs.Shape.{open_leaves}
use Rattle.series_check.specs.Cuts.{problem_of, path_of}
use Rattle.series_outcome.specs.Spending.{IsDepthFirst}
use Rattle.series_outcome.proofs.SpendSteps.{all_spent}
use Rattle.series_outcome.proofs.spending.is_spent.Goals as goal

pub returns : goal.returns
returns c h =
    let Q = problem_of c.args.setting.now in
    let T = c.args.tree.now in
    record {
      nodes = omega (arith, ap (λ (xs : List SeriesNode). length xs) c.nodes-nodes.ensures.nodes, c.if-nodes-budget.false);
      some_open = subst (λ (xs : List SeriesNode). 0 < open_leaves xs) c.nodes-nodes.ensures.nodes (c.has_open_leaf.ensures.0 c.if-not-has_open_leaf.false);
      depth_first = subst (λ (xs : List SeriesNode). IsDepthFirst xs) c.nodes-nodes.ensures.nodes (c.is_depth_first.ensures.0 c.if-not-is_depth_first.false);
      possible = all_spent Q T (path_of c.root_cut.result) c.spent_to.result c.is_some.result c.is_some.ensures h c.root_cut.ensures c.nodes-nodes.ensures.tree.shape.one_tree c.spent_to.ensures;
    }
