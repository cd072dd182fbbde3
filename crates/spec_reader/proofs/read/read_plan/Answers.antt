use Rattle.std.proofs.Common.{◌∙◌}
use Rattle.spec_reader.proofs.SameLaws.{only_of}
use Rattle.spec_reader.proofs.read.read_plan.Goals as goal

pub returns-in-Ok-clause-only : goal.returns-in-Ok-clause-only
returns-in-Ok-clause-only g c =
    only_of c.args.bank.now c.deref.result.now (g.S.Source.left c.args.source.now) c.plan_in.result (λ told. c.deref.ensures.value ∙ c.in-Ok.ensures.text told) c.plan_in.ensures.fault
