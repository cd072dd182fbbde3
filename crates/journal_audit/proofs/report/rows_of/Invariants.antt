use Rattle.std.proofs.Common.{◌≡◌, take}
use Rattle.journal_audit.proofs.report.rows_of.Given as goal

abbrev pub invariant-loop-item : goal.invariant-loop-item
invariant-loop-item l = record {
  rows : l.rows.items ≡ take l.item l.counters.counts;
}
