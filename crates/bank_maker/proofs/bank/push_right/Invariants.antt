use Rattle.std.proofs.Common.{◌≡◌, ◌++◌, ◌∷◌}
use Rattle.std.specs.List.{flat_map, range_with_len}
use Rattle.std.specs.Fmt.{signed_decimal}
use Rattle.bank_maker.specs.Items.{right}
use Rattle.bank_maker.proofs.bank.push_right.Given as goal

abbrev pub invariant-loop-point : goal.invariant-loop-point
invariant-loop-point l = l.out.items ≡ l.fn.out.items ++ flat_map (λ g. 44 ∷ signed_decimal (right l.item g)) (range_with_len 0 l.point)
