use Rattle.std.proofs.Common.{◌≡◌, ◌++◌, ◌∙◌, []}
use Rattle.std.specs.List.{flat_map}
use Rattle.spec_reader.specs.Canonical.{line_text, limit_rules, setting_rules}
use Rattle.bank_maker.specs.Plans.{plan}
use Rattle.bank_maker.proofs.PlanLaws.{settings_from, on_ok}
use Rattle.bank_maker.proofs.plan.push_settings.Goals as goal

pub returns : goal.returns
returns c =
    on_ok (c.push_limits.new.out.items ≡ c.push_key.new.out.items ++ flat_map line_text (limit_rules (plan 0 c.args.sessions [])))
    (c.push_limits.new.out.items ≡ c.args.out.now.items ++ flat_map line_text (setting_rules (plan c.args.number c.args.sessions [])))
    c.push_limits.result
    (λ last. settings_from c.args.number c.args.sessions c.args.out.now.items c.push_line.new.out.items c.push_prior.new.out.items c.push_line-2.new.out.items c.push_key.new.out.items c.push_limits.new.out.items c.deref.result.now
    (c.deref.ensures.value ∙ c.in_ok-key.ensures) c.in_ok-push_line.ensures c.in_ok-push_prior.ensures c.in_ok-push_line-2.ensures c.in_ok-push_key.ensures last)
    c.push_limits.ensures
