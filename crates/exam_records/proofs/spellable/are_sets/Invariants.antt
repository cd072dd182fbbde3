use Rattle.std.proofs.Common.{ℕ, ◌<◌, [], get_or}
use Rattle.bank_tables.specs.Items.{AreWords}
use Rattle.exam_records.proofs.spellable.are_sets.Given as goal

abbrev pub invariant-loop-set : goal.invariant-loop-set
invariant-loop-set l = (k : ℕ) → k < l.set-index → AreWords (get_or l.sets k [])
