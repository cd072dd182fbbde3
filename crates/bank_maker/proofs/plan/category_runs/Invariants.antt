use Rattle.std.proofs.Common.{◌≡◌, map}
use Rattle.std.specs.List.{range_with_len}
use Rattle.bank_maker.proofs.PlanLaws.{single}
use Rattle.bank_maker.proofs.plan.category_runs.Given as goal

abbrev pub invariant-loop-k : goal.invariant-loop-k
invariant-loop-k l = l.runs.items ≡ map (single l.category) (range_with_len 0 l.k)
