use Rattle.std.proofs.Common.{◌-◌, length}
use Rattle.series_check.proofs.walk.+walk.Given as goal

abbrev pub decreases-walk : goal.decreases-walk
decreases-walk l = length l.tree.now.nodes - l.at
