use Rattle.std.proofs.Common.{rules}
use Rattle.branch_bound.proofs.pruning.is_count_of.Goals as goal

pub returns-in_default : goal.returns-in_default
returns-in_default c = search rules steps 1000000
