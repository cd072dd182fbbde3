use Rattle.spec_reader.proofs.PrintLaws.{canonical_from}
use Rattle.spec_reader.proofs.print.print_plan.Goals as goal

pub returns-clause-text : goal.returns-clause-text
returns-clause-text c =
    canonical_from c.args.spec.now c.new-out.result.items c.push_settings.new.out.items c.push_rows.new.out.items c.push_bounds.new.out.items c.push_base.new.out.items c.rows.result.now c.bounds.result.now c.base.result
    c.new-out.ensures.items c.rows.ensures c.bounds.ensures c.base.ensures
    c.in_ok-push_settings.ensures.lines c.in_ok-push_rows.ensures c.in_ok-push_bounds.ensures c.in_ok-push_base.ensures
