use Rattle.std.proofs.Common.{◌≡◌, ℕ}
use Rattle.bank_tables.specs.Items.{has}
use Rattle.bank_tables.specs.Sums.{any_below}
use Rattle.series_model.specs.Series.{forms_of}
use Rattle.series_check.specs.Values.{AreApart}
use Rattle.series_check.proofs.value.are_apart.Given as goal

abbrev pub invariant-loop-f : goal.invariant-loop-f
invariant-loop-f l =
    record {
      seen : (i : ℕ) → has l.seen i ≡ any_below l.f (λ g. forms_of l.sets g i);
      apart : AreApart l.f (forms_of l.sets);
    }
