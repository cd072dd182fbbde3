use Rattle.std.proofs.Common.{◌+◌, ◌-◌, ◌++◌, ◌∙◌, Option, ap, arith}
use Rattle.std.specs.Option.{option_to_list}
use Rattle.bank_maker.specs.declared.act.Act.{Act}
use Rattle.bank_maker.specs.Scripts.{act_of}
use Rattle.bank_maker.proofs.TextLaws.{step}
use Rattle.bank_maker.proofs.act.push_step.Goals as goal

pub loop-session-preserved : goal.loop-session-preserved
loop-session-preserved c = step (λ s. option_to_list (act_of c.args.sessions s c.args.step)) c.args.first (c.loop-session.session - c.args.first) c.loop-session.session (c.loop-session.session + 1 - c.args.first)
    c.args.acts.now.items c.loop-session.acts.items c.push_act.new.acts.items (omega arith) (omega arith) c.loop-session.invariant
    (c.in_ok-push_act.ensures ∙ ap (λ (t : Option Act). c.loop-session.acts.items ++ option_to_list t) c.act_of.ensures)
