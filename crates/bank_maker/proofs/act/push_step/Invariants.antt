use Rattle.std.proofs.Common.{◌≡◌, ◌++◌, ◌-◌}
use Rattle.std.specs.Option.{option_to_list}
use Rattle.std.specs.List.{flat_map, range_with_len}
use Rattle.bank_maker.specs.Scripts.{act_of}
use Rattle.bank_maker.proofs.act.push_step.Given as goal

abbrev pub invariant-loop-session : goal.invariant-loop-session
invariant-loop-session l = l.acts.items ≡ l.fn.acts.items ++ flat_map (λ s. option_to_list (act_of l.sessions s l.step)) (range_with_len l.first (l.session - l.first))
