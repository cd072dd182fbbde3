use Rattle.std.proofs.Common.{◌≡◌, ℕ, ◌<◌, ◌==◌, length, get_or}
use Rattle.bank_tables.specs.Items.{has}
use Rattle.bank_tables.specs.Sums.{count_in}
use Rattle.bank_tables.specs.Tables.{stimulus}
use Rattle.certificate_check.proofs.counting.items_of_each.Given as goal

abbrev pub invariant-loop-i : goal.invariant-loop-i
invariant-loop-i l =
    record {
      number : length l.counts ≡ 65;
      counted : (s : ℕ) → s < 65 → get_or l.counts s 0 ≡ count_in l.i (has l.items) (λ j. stimulus l.bank j == s);
    }
