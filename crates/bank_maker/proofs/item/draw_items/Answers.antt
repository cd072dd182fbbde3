use Rattle.std.proofs.Common.{◌∙◌, ◌≡◌, length, arith, refl, ap, List}
use Rattle.std.proofs.lemmas.List.FromFn.{length-map-range_with_len}
use Rattle.bank_maker.specs.declared.item.DrawnItem.{DrawnItem}
use Rattle.bank_maker.specs.Draws.{state_after}
use Rattle.bank_maker.specs.Items.{items, drawn}
use Rattle.bank_maker.proofs.DrawLaws.{after_item, one_item, more_items}
use Rattle.bank_maker.proofs.item.draw_items.Goals as goal

pub loop-init : goal.loop-init
unfolding state_after
loop-init c = record { items = c.new-items.ensures.items; state = refl }

pub loop-preserved : goal.loop-preserved
loop-preserved c = record {
  items = c.in_ok-push.ensures.items ∙ more_items c.args.draws.now.state c.loop.counter c.loop.items.items c.draw_item.result c.loop.invariant.items
      (one_item c.args.draws.now.state c.loop.counter c.loop.draws.state c.draw_item.result c.loop.invariant.state c.draw_item.ensures.peak c.draw_item.ensures.height c.draw_item.ensures.quantity);
  state = after_item c.args.draws.now.state c.loop.counter c.loop.draws.state c.draw_item.new.draws.state c.loop.invariant.state c.draw_item.ensures.state;
}

pub returns-clause-items : goal.returns-clause-items
unfolding items
returns-clause-items c = let e : c.loop.counter ≡ 120 = omega arith in rw e at c.loop.invariant.items

pub returns-clause-count : goal.returns-clause-count
returns-clause-count c =
    let e : c.loop.counter ≡ 120 = omega arith in
    ap (λ (xs : List DrawnItem). length xs) c.loop.invariant.items ∙ (length-map-range_with_len (drawn c.args.draws.now.state) 0 c.loop.counter ∙ e)

pub returns-clause-state : goal.returns-clause-state
returns-clause-state c = let e : c.loop.counter ≡ 120 = omega arith in rw e at c.loop.invariant.state
