use Rattle.std.proofs.Common.{◌≡◌}
use Rattle.std.specs.Prelude.{string_bytes}
use Rattle.exam_lines.specs.Texts.{lines_below}
use Rattle.exam_lines.proofs.bands.bands_text.Given as goal

abbrev pub invariant-loop-band : goal.invariant-loop-band
invariant-loop-band l = string_bytes l.out ≡ lines_below l.band l.bands
