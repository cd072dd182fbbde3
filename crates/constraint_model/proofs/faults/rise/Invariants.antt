use Rattle.std.proofs.Common.{◌≡◌, drop}
use Rattle.constraint_model.specs.Faults.{rise}
use Rattle.constraint_model.proofs.faults.rise.Given as goal

abbrev pub invariant-loop-point : goal.invariant-loop-point
invariant-loop-point l = rise 0 l.grid l.points ≡ rise l.last l.grid (drop l.point-index l.points)
