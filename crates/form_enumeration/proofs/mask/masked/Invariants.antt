use Rattle.std.proofs.Common.{◌≡◌, ℕ}
use Rattle.bank_tables.specs.Items.{has}
use Rattle.form_enumeration.specs.Enumeration.{masked}
use Rattle.form_enumeration.proofs.mask.masked.Given as goal

abbrev pub invariant-loop-i : goal.invariant-loop-i
invariant-loop-i l = (j : ℕ) → has l.set j ≡ masked l.mask l.i j
