use Rattle.bank_maker.proofs.TextLaws.{item_from}
use Rattle.bank_maker.proofs.bank.push_item.Goals as goal

pub returns : goal.returns
returns c = item_from c.args.out.now.items c.args.number c.args.item.now c.stimulus_of.result c.from.result
    c.push_number.new.out.items c.push_field.new.out.items c.push_field-2.new.out.items c.push_field-3.new.out.items c.push_information.new.out.items c.push_wrong.new.out.items c.push_right.new.out.items c.push.new.self.items
    c.stimulus_of.ensures c.from.ensures
    c.in_ok-push_number.ensures c.in_ok-push_field.ensures c.in_ok-push_field-2.ensures c.in_ok-push_field-3.ensures c.in_ok-push_information.ensures c.in_ok-push_wrong.ensures c.in_ok-push_right.ensures c.in_ok-push.ensures.items
