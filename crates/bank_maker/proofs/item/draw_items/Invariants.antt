use Rattle.std.proofs.Common.{◌≡◌, ◌*◌, map}
use Rattle.std.specs.List.{range_with_len}
use Rattle.bank_maker.specs.Draws.{state_after}
use Rattle.bank_maker.specs.Items.{drawn}
use Rattle.bank_maker.proofs.item.draw_items.Given as goal

abbrev pub invariant-loop : goal.invariant-loop
invariant-loop l = record {
  items : l.items.items ≡ map (drawn l.fn.draws.state) (range_with_len 0 l.counter);
  state : l.draws.state ≡ state_after l.fn.draws.state (3 * l.counter);
}
