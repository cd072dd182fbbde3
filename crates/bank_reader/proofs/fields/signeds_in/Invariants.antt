use Rattle.std.proofs.Common.{◌≡◌, Ok}
use Rattle.csv.specs.Records.{fields_of}
use Rattle.bank_reader.specs.Reading.{signeds_at}
use Rattle.bank_reader.proofs.fields.signeds_in.Given as goal

abbrev pub invariant-loop-i : goal.invariant-loop-i
invariant-loop-i l = signeds_at l.rec l.from l.i (fields_of l.row) ≡ Ok l.numbers.items
