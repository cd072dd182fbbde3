use Rattle.std.proofs.Common.{◌≡◌, ◌++◌, take}
use Rattle.std.specs.List.{flat_map}
use Rattle.spec_reader.specs.Plans.{row_said}
use Rattle.spec_reader.specs.Canonical.{line_text}
use Rattle.spec_reader.proofs.print.push_rows.Given as goal

abbrev pub invariant-loop-row : goal.invariant-loop-row
invariant-loop-row l = l.out.items ≡ l.fn.out.items ++ flat_map (λ row. line_text (row_said row)) (take l.row-index l.rows)
