use Rattle.std.proofs.Common.{◌≡◌, ℕ, ◌<◌, length, get_or}
use Rattle.bank_tables.specs.Tables.{quantity}
use Rattle.certificate_check.proofs.column.values_of.Given as goal

abbrev pub invariant-loop-i : goal.invariant-loop-i
invariant-loop-i l = record { number : length l.values ≡ 512; read : (k : ℕ) → k < l.i → get_or l.values k 0 ≡ quantity l.bank k l.which }
