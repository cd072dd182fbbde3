use Rattle.std.proofs.Common.{◌≡◌, ◌++◌, map}
use Rattle.std.specs.List.{flat_map, range_with_len}
use Rattle.bank_maker.specs.declared.act.Act.TheVariants.{Begins}
use Rattle.bank_maker.specs.Scripts.{group, step_acts}
use Rattle.bank_maker.proofs.act.push_group.Given as goal

abbrev pub invariant-loop-step : goal.invariant-loop-step
invariant-loop-step l = l.acts.items ≡ (l.fn.acts.items ++ map (λ s. Begins s) (group l.sessions l.first)) ++ flat_map (step_acts l.sessions l.first) (range_with_len 0 l.step)
