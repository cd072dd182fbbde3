use Rattle.std.proofs.Common.{◌≡◌, take}
use Rattle.std.specs.List.{fold}
use Rattle.spec_reader.specs.Rules.{said}
use Rattle.spec_reader.specs.Plans.{plan_said, with_rule, blank}
use Rattle.spec_reader.proofs.drafting.draft_of.Given as goal

abbrev pub invariant-loop-rule : goal.invariant-loop-rule
invariant-loop-rule l = plan_said l.draft ≡ fold (λ p r. with_rule p (said r)) (blank l.stimuli) (take l.rule-index l.rules)
