use Rattle.std.proofs.Common.{sym, ◌∙◌}
use Rattle.certificate_model.specs.Paths.{root}
use Rattle.constraint_model.specs.Views.{problem_of}
use Rattle.branch_bound.proofs.PruneLaws.{all_pruned_where}
use Rattle.branch_bound.proofs.pruning.is_pruned.Goals as goal

pub returns : goal.returns
returns c = λ found. all_pruned_where (problem_of c.args.problem.now) c.args.tree.now c.pruned_to.result (sym c.is_some.ensures ∙ found) c.nodes.ensures.tree.shape.one_tree (c.pruned_to.ensures (root (problem_of c.args.problem.now)) c.root.ensures)
