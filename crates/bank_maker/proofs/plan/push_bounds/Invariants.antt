use Rattle.std.proofs.Common.{◌≡◌, ◌++◌, ◌+◌}
use Rattle.std.specs.List.{flat_map, range_with_len}
use Rattle.spec_reader.specs.Canonical.{line_text}
use Rattle.spec_reader.specs.Rules.{Stimulus}
use Rattle.bank_maker.proofs.plan.push_bounds.Given as goal

abbrev pub invariant-loop-k : goal.invariant-loop-k
invariant-loop-k l = l.out.items ≡ l.fn.out.items ++ flat_map (λ k. line_text (Stimulus (k + 1) 2 4)) (range_with_len 0 l.k)
