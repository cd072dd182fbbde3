use Rattle.std.proofs.Common.{◌+◌}
use Rattle.std.proofs.lemmas.Result.{err_from_is_err_and}
use Rattle.csv.specs.Records.{fields_of}
use Rattle.exam_text.proofs.Firsts.{each_fails_or}
use Rattle.bank_reader.specs.Reading.{signed_at}
use Rattle.bank_reader.specs.declared.fault.ReadFault.TheVariants.{Memory}
use Rattle.bank_reader.proofs.fields.signeds_in.Goals as goal

pub returns-in_err-signed_in : goal.returns-in_err-signed_in
returns-in_err-signed_in c =
    let p = err_from_is_err_and c.from_residual.result c.from_residual.ensures.1 in
    rw (p.1, p.2) (each_fails_or Memory c.args.count c.loop-i.i (λ i. signed_at c.args.rec (c.args.from + i) (fields_of c.args.row.now)) c.loop-i.numbers.items c.in_err-signed_in.field-0.0 c.loop-i.invariant c.loop-i-test.true c.in_err-signed_in.ensures)
