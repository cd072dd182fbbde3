use Rattle.std.proofs.Common.{rules}
use Rattle.ability_grid.proofs.sums.Sums.mode.Goals as goal

pub loop-g-preserved : goal.loop-g-preserved
loop-g-preserved c = search rules
