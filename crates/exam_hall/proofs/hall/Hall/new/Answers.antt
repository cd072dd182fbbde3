use Rattle.exam_office.specs.Noting.{opened_with}
use Rattle.exam_hall.proofs.Passes.{first_of}
use Rattle.exam_hall.proofs.hall.Hall.new.Goals as goal

pub returns-in-Ok-clause-of : goal.returns-in-Ok-clause-of
returns-in-Ok-clause-of g c =
    let office = c.args.office in
    first_of c.in-Ok.turn c.bank-bank.result.now c.spec-spec.result.now c.base-base.result (opened_with office) office.marks c.in-Ok.pass
    c.keeps.ensures.marks c.in-Ok.ensures.made c.bank-bank.ensures c.spec-spec.ensures c.base-base.ensures
