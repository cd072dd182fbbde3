use Rattle.std.proofs.Common.{◌≡◌, ◌+◌, ◌*◌, ◌/◌, [], arith, refl}
use Rattle.bank_maker.specs.Scripts.{group_acts, acts}
use Rattle.bank_maker.proofs.TextLaws.{step}
use Rattle.bank_maker.proofs.act.acts_of.Goals as goal

pub loop-group-preserved : goal.loop-group-preserved
loop-group-preserved c = step (λ g. group_acts c.args.sessions (10 * g)) 0 c.loop-group.group c.loop-group.group (c.loop-group.group + 1)
    [] c.loop-group.acts.items c.push_group.new.acts.items (omega arith) refl c.loop-group.invariant c.in_ok-push_group.ensures

pub returns : goal.returns
unfolding acts
returns c = let e : c.loop-group.group ≡ (c.args.sessions + 9) / 10 = omega arith in rw e at c.loop-group.invariant
