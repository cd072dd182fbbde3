use Rattle.std.proofs.Common.{◌≡◌, ◌++◌, ◌-◌, map}
use Rattle.std.specs.List.{range_with_len}
use Rattle.bank_maker.specs.declared.act.Act.TheVariants.{Begins}
use Rattle.bank_maker.proofs.act.push_beginnings.Given as goal

abbrev pub invariant-loop-session : goal.invariant-loop-session
invariant-loop-session l = l.acts.items ≡ l.fn.acts.items ++ map (λ s. Begins s) (range_with_len l.first (l.session - l.first))
