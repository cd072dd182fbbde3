use Rattle.std.proofs.lemmas.Result.{err_from_is_err_and}
use Rattle.spec_reader.proofs.ReadLaws.{line_fault_is}
use Rattle.spec_reader.proofs.read.plan_in.Goals as goal

pub returns-in_err-rules-clause-fault : goal.returns-in_err-rules-clause-fault
returns-in_err-rules-clause-fault c =
    let p = err_from_is_err_and c.from_residual.result c.from_residual.ensures.1 in
    rw (p.1, p.2) (line_fault_is c.args.bank.now c.args.text.now c.in_err-rules.field-0.0 c.in_err-rules.ensures)
