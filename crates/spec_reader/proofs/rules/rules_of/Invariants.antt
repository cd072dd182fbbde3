use Rattle.std.proofs.Common.{◌≡◌, ◌+◌, Ok, [], map, get_or}
use Rattle.exam_text.specs.First.{steps_below}
use Rattle.spec_reader.specs.Rules.{said}
use Rattle.spec_reader.specs.Lines.{next_rule}
use Rattle.spec_reader.proofs.rules.rules_of.Given as goal

abbrev pub invariant-loop-i : goal.invariant-loop-i
invariant-loop-i l = steps_below l.i (λ i rules. next_rule (i + 1) (get_or (map (λ w. w.now) l.lines) i []) rules) [] ≡ Ok (map said l.rules.items)
