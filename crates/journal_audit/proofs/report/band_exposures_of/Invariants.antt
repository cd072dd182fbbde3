use Rattle.std.proofs.Common.{◌≡◌, ℕ, length, slice_get, Some}
use Rattle.history_model.specs.declared.request.Exposure.{Exposure}
use Rattle.journal_audit.specs.Audit.{IsBandExposureOf}
use Rattle.journal_audit.proofs.report.band_exposures_of.Given as goal

abbrev pub invariant-loop-band : goal.invariant-loop-band
invariant-loop-band l =
    record {
      number : length l.bands.items ≡ l.band;
      each : (k : ℕ) (exposure : Exposure) → slice_get l.bands.items k ≡ Some exposure → IsBandExposureOf l.book.bank l.book.plan l.book.entries k exposure;
    }
