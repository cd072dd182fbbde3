use Rattle.std.proofs.Common.{◌≡◌, ◌+◌, ◌++◌, ◌∙◌, length, ap, arith, refl, get_or}
use Rattle.std.proofs.lemmas.List.{get_or_default}
use Rattle.bank_maker.specs.declared.item.DrawnItem.{DrawnItem}
use Rattle.bank_maker.specs.Banks.{header, item_text, no_item, bank_text}
use Rattle.bank_maker.proofs.TextLaws.{step}
use Rattle.bank_maker.proofs.bank.bank_text.Goals as goal

pub loop-i-preserved : goal.loop-i-preserved
loop-i-preserved c = step (λ i. item_text i (get_or c.args.items.now i no_item)) 0 c.loop-i.i c.loop-i.i (c.loop-i.i + 1) header c.loop-i.out.items c.push_item.new.out.items (omega arith) refl c.loop-i.invariant
    (c.in_ok-push_item.ensures ∙ ap (λ (x : DrawnItem). c.loop-i.out.items ++ item_text c.loop-i.i x) (get_or_default c.args.items.now c.loop-i.i _ no_item c.loop-i-test.true))

pub returns : goal.returns
unfolding bank_text
returns c = let e : c.loop-i.i ≡ length c.args.items.now = omega arith in rw e at c.loop-i.invariant
