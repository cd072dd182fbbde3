use Rattle.std.proofs.Common.{◌≡◌, None, map}
use Rattle.exam_text.specs.First.{first_below}
use Rattle.spec_reader.specs.Rules.{said}
use Rattle.spec_reader.specs.Reading.{rule_at, number_fault}
use Rattle.spec_reader.proofs.read.numbers_fault.Given as goal

abbrev pub invariant-loop-i : goal.invariant-loop-i
invariant-loop-i l = first_below l.i (λ i. number_fault l.stimuli (rule_at (map said l.rules) i)) ≡ None
