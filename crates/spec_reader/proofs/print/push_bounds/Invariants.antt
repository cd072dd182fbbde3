use Rattle.std.proofs.Common.{◌≡◌, ◌++◌}
use Rattle.std.specs.List.{flat_map}
use Rattle.spec_reader.specs.Canonical.{line_text, bounds_below}
use Rattle.spec_reader.proofs.print.push_bounds.Given as goal

abbrev pub invariant-loop-i : goal.invariant-loop-i
invariant-loop-i l = l.out.items ≡ l.fn.out.items ++ flat_map line_text (bounds_below l.i l.bounds)
