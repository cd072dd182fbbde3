use Rattle.std.proofs.Common.{sym}
use Rattle.csv.specs.Records.{fields_of}
use Rattle.csv.proofs.RecordFacts.{field-get}
use Rattle.bank_reader.proofs.Columns.{past_last}
use Rattle.bank_reader.proofs.fields.text_at.Goals as goal

pub returns-in-Some : goal.returns-in-Some
returns-in-Some c = sym (field-get (fields_of c.args.row.now) c.args.column c.in-Some.text.now (sym c.in-Some.ensures.value))

pub returns-in-None : goal.returns-in-None
returns-in-None c = sym (past_last (fields_of c.args.row.now) c.args.column (sym c.in-None.ensures.value))
