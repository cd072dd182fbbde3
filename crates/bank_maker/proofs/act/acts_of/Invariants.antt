use Rattle.std.proofs.Common.{◌≡◌, ◌*◌}
use Rattle.std.specs.List.{flat_map, range_with_len}
use Rattle.bank_maker.specs.Scripts.{group_acts}
use Rattle.bank_maker.proofs.act.acts_of.Given as goal

abbrev pub invariant-loop-group : goal.invariant-loop-group
invariant-loop-group l = l.acts.items ≡ flat_map (λ g. group_acts l.sessions (10 * g)) (range_with_len 0 l.group)
