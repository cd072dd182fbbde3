use Rattle.std.proofs.Common.{◌≡◌, ◌+◌}
use Rattle.csv.specs.Records.{fields_of}
use Rattle.bank_reader.specs.Columns.{point_name}
use Rattle.bank_reader.specs.Reading.{lead, is_named}
use Rattle.bank_reader.proofs.header.leading_points.Given as goal

abbrev pub invariant-loop-k : goal.invariant-loop-k
invariant-loop-k l = lead l.k (λ k. is_named (fields_of l.row) (l.from + k) (point_name k)) ≡ l.k
