use Rattle.std.proofs.Common.{◌≡◌, ◌++◌}
use Rattle.std.specs.Prelude.{string_bytes}
use Rattle.exam_lines.specs.Texts.{band_item_lines}
use Rattle.exam_lines.proofs.bands.push_items.Given as goal

abbrev pub invariant-loop-item : goal.invariant-loop-item
invariant-loop-item l = string_bytes l.out ≡ string_bytes l.fn.out ++ band_item_lines l.band l.item l.rows
