use Rattle.std.proofs.Common.{subst, arith}
use Rattle.exam_text.specs.First.{Gives}
use Rattle.exam_records.specs.declared.fault.RecordFault.TheVariants.{Memory}
use Rattle.exam_records.proofs.SecondLaws.{is_found, is_read}
use Rattle.exam_records.proofs.reading.decode.Goals as goal

pub returns-clause-found : goal.returns-clause-found
returns-clause-found c = is_found c.args.payload.now c.record_of.result (λ i. omega (arith, c.type_inv.payload i)) c.record_of.ensures

pub returns-clause-only : goal.returns-clause-only
returns-clause-only c = λ r is spelled. subst (λ read. Gives Memory (λ x. x) c.record_of.result read) (is_read r c.args.payload.now is spelled) c.record_of.ensures
