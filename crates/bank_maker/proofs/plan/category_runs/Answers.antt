use Rattle.std.proofs.Common.{◌≡◌, ◌∙◌, arith}
use Rattle.bank_maker.proofs.PlanLaws.{more_runs, category_runs}
use Rattle.bank_maker.proofs.plan.category_runs.Goals as goal

pub loop-k-preserved : goal.loop-k-preserved
loop-k-preserved c = c.in_ok-push.ensures.items ∙ more_runs c.args.category c.loop-k.k c.loop-k.runs.items c.loop-k.invariant

pub returns : goal.returns
returns c = let e : c.loop-k.k ≡ 24 = omega arith in (rw e at c.loop-k.invariant) ∙ category_runs c.args.category c.requires
