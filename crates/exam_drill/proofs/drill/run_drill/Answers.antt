use Rattle.std.proofs.Common.{rules, ◌∙◌, sym}
use Rattle.exam_drill.proofs.DrillLaws.{script_there, plan_there, has_base, said_so, has_room, if_err}
use Rattle.exam_drill.specs.Drills.{IsDrillFault}
use Rattle.exam_drill.specs.Leading.{IsExamFault}
use Rattle.exam_drill.proofs.drill.run_drill.Goals as goal

pub plan_of-requires-clause-plan : goal.plan_of-requires-clause-plan
plan_of-requires-clause-plan c =
    plan_there c.args.number c.args.sessions c.in_ok-made.made c.in_ok-made.ensures c.in_ok-bank.bank (c.a_bank_is_read.ensures c.args.number)
    c.in_ok-bank.ensures.ok (c.a_plan_is_read.ensures.plan c.args.number c.args.sessions c.requires.some c.requires.few)

pub script_of-requires-clause-script : goal.script_of-requires-clause-script
script_of-requires-clause-script c =
    script_there c.args.number c.args.sessions c.in_ok-made.made c.in_ok-made.ensures (c.a_script_is_read.ensures.script c.args.number c.args.sessions c.requires.few)

pub unreachable-requires : goal.unreachable-requires
unreachable-requires c =
    has_base c.args.number c.args.sessions c.in_ok-made.made c.in_ok-made.ensures c.in_ok-bank.bank (c.a_bank_is_read.ensures c.args.number)
    c.in_ok-bank.ensures.ok c.in_ok-spec.spec c.in_ok-spec.ensures.ok
    (c.a_plan_is_read.ensures.one c.args.number c.args.sessions c.in_ok-spec.spec c.requires.some c.requires.few) (sym c.base.ensures ∙ c.in_default.is)

pub returns-clause-ok : goal.returns-clause-ok
returns-clause-ok c = search rules

pub returns-clause-err : goal.returns-clause-err
returns-clause-err c =
    if_err (IsExamFault c.in_ok-bank.bank c.in_ok-spec.spec c.deref.result.now) IsDrillFault c.examine.result
    (λ f stopped. has_room c.args.number c.args.sessions c.in_ok-spec.spec c.in_ok-bank.bank c.deref.result.now f c.requires.few
    (said_so c.args.number c.args.sessions c.in_ok-made.made c.in_ok-made.ensures c.in_ok-bank.bank (c.a_bank_is_read.ensures c.args.number)
    c.in_ok-bank.ensures.ok c.in_ok-spec.spec c.in_ok-spec.ensures.ok
    (c.a_plan_is_read.ensures.one c.args.number c.args.sessions c.in_ok-spec.spec c.requires.some c.requires.few)) stopped) c.examine.ensures.err
