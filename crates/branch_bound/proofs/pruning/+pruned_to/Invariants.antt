use Rattle.std.proofs.Common.{◌-◌, length}
use Rattle.branch_bound.proofs.pruning.+pruned_to.Given as goal

-- the nodes that are left
abbrev pub decreases-pruned_to : goal.decreases-pruned_to
decreases-pruned_to l = length l.tree.now.nodes - l.at
