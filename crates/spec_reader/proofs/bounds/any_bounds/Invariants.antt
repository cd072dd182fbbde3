use Rattle.std.proofs.Common.{◌≡◌, replicate}
use Rattle.spec_reader.specs.Bounds.{any_bound}
use Rattle.spec_reader.proofs.bounds.any_bounds.Given as goal

abbrev pub invariant-loop : goal.invariant-loop
invariant-loop l = l.bounds.items ≡ replicate l.counter any_bound
