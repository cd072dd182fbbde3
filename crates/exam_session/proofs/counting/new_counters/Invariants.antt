use Rattle.std.proofs.Common.{◌≡◌, ℕ, [], length, slice_get, Some}
use Rattle.bank_tables.specs.Tables.{size}
use Rattle.exposure_counters.specs.Tallies.{Tally, IsTallyOf}
use Rattle.exam_session.proofs.counting.new_counters.Given as goal

abbrev pub invariant-loop-band : goal.invariant-loop-band
invariant-loop-band l =
    record {
      number : length l.list.items ≡ l.band;
      items : (k : ℕ) (tally : Tally) → slice_get l.list.items k ≡ Some tally → length tally.counts ≡ size l.bank;
      none : (k : ℕ) (tally : Tally) → slice_get l.list.items k ≡ Some tally → IsTallyOf [] tally;
    }
