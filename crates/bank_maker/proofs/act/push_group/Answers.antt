use Rattle.std.proofs.Common.{◌≡◌, ◌+◌, ◌++◌, ◌∙◌, map, append_assoc, arith, refl}
use Rattle.std.specs.List.{flat_map, range_with_len}
use Rattle.bank_maker.specs.declared.act.Act.TheVariants.{Begins}
use Rattle.bank_maker.specs.Scripts.{group, step_acts, group_acts}
use Rattle.bank_maker.proofs.TextLaws.{step}
use Rattle.bank_maker.proofs.act.push_group.Goals as goal

pub loop-step-preserved : goal.loop-step-preserved
loop-step-preserved c = step (step_acts c.args.sessions c.args.first) 0 c.loop-step.step c.loop-step.step (c.loop-step.step + 1)
    (c.args.acts.now.items ++ map (λ s. Begins s) (group c.args.sessions c.args.first)) c.loop-step.acts.items c.push_step.new.acts.items (omega arith) refl c.loop-step.invariant c.in_ok-push_step.ensures

pub returns : goal.returns
unfolding group_acts
returns c =
    let e : c.loop-step.step ≡ 20 = omega arith in
    (rw e at c.loop-step.invariant) ∙ append_assoc c.args.acts.now.items (map (λ s. Begins s) (group c.args.sessions c.args.first)) (flat_map (step_acts c.args.sessions c.args.first) (range_with_len 0 20))
