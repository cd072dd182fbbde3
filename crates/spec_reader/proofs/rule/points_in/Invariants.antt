use Rattle.std.proofs.Common.{◌≡◌, ◌+◌, Ok, map}
use Rattle.exam_text.specs.Numbers.{number_of}
use Rattle.exam_text.specs.First.{each_below, or_fault}
use Rattle.spec_reader.specs.declared.line_fault.Kind.TheVariants as kind
use Rattle.spec_reader.specs.declared.line_fault.LineFault.TheVariants.{Line}
use Rattle.exam_text.specs.Words.{word}
use Rattle.spec_reader.proofs.rule.points_in.Given as goal

abbrev pub invariant-loop-i : goal.invariant-loop-i
invariant-loop-i l = each_below l.i (λ i. or_fault (number_of 255 (word (map (λ w. w.now) l.words) (i + 1))) (Line l.at kind.Number)) ≡ Ok l.values.items
