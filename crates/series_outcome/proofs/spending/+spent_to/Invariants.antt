use Rattle.std.proofs.Common.{◌-◌, length}
use Rattle.series_outcome.proofs.spending.+spent_to.Given as goal

abbrev pub decreases-spent_to : goal.decreases-spent_to
decreases-spent_to l = length l.tree.now.nodes - l.at
