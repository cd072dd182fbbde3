use Rattle.std.proofs.Common.{◌≡◌, ◌+◌, ◌/◌, ◌%◌}
use Rattle.csv.specs.Records.{fields_of}
use Rattle.bank_reader.specs.Columns.{loglik_name}
use Rattle.bank_reader.specs.Reading.{lead, is_named}
use Rattle.bank_reader.proofs.header.leading_loglik.Given as goal

abbrev pub invariant-loop-k : goal.invariant-loop-k
invariant-loop-k l = lead l.k (λ k. is_named (fields_of l.row) (l.from + k) (loglik_name (k / l.grid) (k % l.grid))) ≡ l.k
