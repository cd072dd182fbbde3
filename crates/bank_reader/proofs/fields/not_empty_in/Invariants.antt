use Rattle.std.proofs.Common.{◌≡◌, None}
use Rattle.csv.specs.Records.{fields_of}
use Rattle.bank_reader.specs.Reading.{not_empty_at}
use Rattle.bank_reader.proofs.fields.not_empty_in.Given as goal

abbrev pub invariant-loop-i : goal.invariant-loop-i
invariant-loop-i l = not_empty_at l.rec l.from l.i (fields_of l.row) ≡ None
