use Rattle.std.proofs.Common.{◌+◌, ◌∙◌, ℕ, ap}
use Rattle.bank_maker.proofs.PlanLaws.{plan_from}
use Rattle.bank_maker.proofs.plan.plan_text.Goals as goal

pub returns : goal.returns
returns c = plan_from c.args.number c.args.sessions c.args.items.now (c.from-high.result + 50) c.new-out.result.items c.push_settings.new.out.items c.push_rows.new.out.items c.push_bounds.new.out.items c.push_base.new.out.items
    c.new-out.ensures.items (ap (λ (n : ℕ). n + 50) (c.from-high.ensures ∙ c.base_quantity.ensures.sum))
    c.in_ok-push_settings.ensures c.in_ok-push_rows.ensures c.in_ok-push_bounds.ensures c.in_ok-push_base.ensures
