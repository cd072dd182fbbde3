use Rattle.std.proofs.Common.{◌+◌, ◌-◌, arith}
use Rattle.bank_maker.specs.declared.act.Act.TheVariants.{Begins}
use Rattle.bank_maker.proofs.TextLaws.{step_map}
use Rattle.bank_maker.proofs.act.push_beginnings.Goals as goal

pub loop-session-preserved : goal.loop-session-preserved
loop-session-preserved c = step_map (λ s. Begins s) c.args.first (c.loop-session.session - c.args.first) c.loop-session.session (c.loop-session.session + 1 - c.args.first)
    c.args.acts.now.items c.loop-session.acts.items c.push.new.self.items (omega arith) (omega arith) c.loop-session.invariant c.in_ok-push.ensures.items
