use Rattle.std.proofs.Common.{◌≡◌}
use Rattle.bank_tables.specs.Items.{has}
use Rattle.spec_reader.specs.Sets.{start_of, runs_below}
use Rattle.spec_reader.proofs.runs.runs_below.Given as goal

abbrev pub invariant-loop-item : goal.invariant-loop-item
invariant-loop-item l = (l.low ≡ start_of (has l.set) l.item) × (l.runs.items ≡ runs_below l.item (has l.set))
