use Rattle.std.proofs.lemmas.Result.{err_from_is_err_and}
use Rattle.exam_edge.specs.Faults.{Rose}
use Rattle.bank_reader.proofs.BankLaws.{no_source, no_text}
use Rattle.bank_reader.proofs.read.read_whole.Goals as goal

pub returns-in_err-text-clause-reads : goal.returns-in_err-text-clause-reads
returns-in_err-text-clause-reads g c = λ told.
    let p = err_from_is_err_and c.from_residual.result c.from_residual.ensures.1 in
    rw (p.1) (no_text (g.S.Source.left c.args.source.now) c.in_err-text.field-0.0 p.0 p.2 (λ long. c.in_err-text.ensures.too_long long told))

pub returns-clause-failed : goal.returns-clause-failed
returns-clause-failed g c = no_source c.deref.result.now c.bank_in.result c.bank_in.ensures (Rose (g.S.Source.faults c.args.source.now) (g.S.Source.faults c.text_of.new.source))
