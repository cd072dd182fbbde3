use Rattle.std.proofs.Common.{◌≡◌, ◌≤◌, ◌*◌, take}
use Rattle.std.specs.List.{sum_by, slice_range}
use Rattle.bank_maker.proofs.plan.base_quantity.Given as goal

abbrev pub invariant-loop-item : goal.invariant-loop-item
invariant-loop-item l = record {
  sum : l.sum ≡ sum_by (λ x. x.quantity) (take l.item-index (slice_range l.items 30 50));
  small : l.sum ≤ 255 * l.item-index;
}
