use Rattle.bank_maker.proofs.TextLaws.{header_from}
use Rattle.bank_maker.proofs.bank.push_header.Goals as goal

pub returns : goal.returns
returns c = header_from c.args.out.now.items c.push_name.new.out.items c.push_names.new.out.items c.push_names-2.new.out.items c.push_names-3.new.out.items c.push.new.self.items
    c.in_ok-push_name.ensures c.in_ok-push_names.ensures c.in_ok-push_names-2.ensures c.in_ok-push_names-3.ensures c.in_ok-push.ensures.items
