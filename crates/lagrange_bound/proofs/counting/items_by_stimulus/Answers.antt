use Rattle.std.proofs.Common.{refl, arith}
use Rattle.lagrange_bound.proofs.CountingSteps.{zero_at}
use Rattle.lagrange_bound.proofs.counting.items_by_stimulus.Goals as goal

pub loop-i-init : goal.loop-i-init
loop-i-init c = (refl, λ s w. zero_at 65 s, λ s. omega (arith, zero_at 65 s))
