use Rattle.std.proofs.Common.{◌≡◌, ◌++◌}
use Rattle.std.specs.List.{flat_map, range_with_len}
use Rattle.spec_reader.specs.Canonical.{line_text}
use Rattle.bank_maker.specs.Plans.{pair}
use Rattle.bank_maker.proofs.plan.push_pairs.Given as goal

abbrev pub invariant-loop-k : goal.invariant-loop-k
invariant-loop-k l = l.out.items ≡ l.fn.out.items ++ flat_map (λ k. line_text (pair k)) (range_with_len 0 l.k)
