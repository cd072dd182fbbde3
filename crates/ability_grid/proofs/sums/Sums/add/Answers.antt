use Rattle.std.proofs.Common.{rules}
use Rattle.ability_grid.proofs.sums.Sums.add.Goals as goal

pub invariant_of-self : goal.invariant_of-self
invariant_of-self c = search rules
