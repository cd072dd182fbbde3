-- What an audit finds.
use Rattle.std.specs.Prelude.{◌≡◌, ◌⊎◌, ℕ, ◌<◌, List, ◌++◌, length, slice_get, Some}
use Rattle.bank_tables.specs.Tables.{Tables, size}
use Rattle.form_model.specs.Plan.{Plan, bands_of}
use Rattle.history_model.specs.declared.entry.Entry.{Entry}
use Rattle.history_model.specs.declared.request.Exposure.{Exposure}
use Rattle.history_model.specs.declared.summary.Summary.{Summary}
use Rattle.history_model.specs.Counts.{band_counts, visited}
use Rattle.history_model.specs.Requests.{IsExposureOf}
use Rattle.history_model.specs.Summaries.{summary}
use Rattle.answer_journal.specs.Opening.{tail_gates}
use Rattle.exam_office.specs.Files.{Stands}

-- the number of finished sessions that visited a band, and the counts there of each item of the
-- bank
pub record IsBandExposureOf (b : Tables) (plan : Plan) (H : List Entry) (band : ℕ)
    (exposure : Exposure) : Type 0 where
  pub visited_is : exposure.finished ≡ visited b plan H band
  pub number : length exposure.rows ≡ size b
  pub each : (i : ℕ) → i < size b → slice_get exposure.rows i ≡ Some (band_counts b plan H band i)

-- those of each band of the plan, in ascending order
pub record AreBandExposuresOf (b : Tables) (plan : Plan) (H : List Entry)
    (bands : List Exposure) : Type 0 where
  pub number : length bands ≡ bands_of plan
  pub each : (band : ℕ) (exposure : Exposure) → slice_get bands band ≡ Some exposure
      → IsBandExposureOf b plan H band exposure

-- the file represents a history, and these are its numbers and its exposure counts, in all and in
-- each band
pub record IsAudit (b : Tables) (plan : Plan) (file : List ℕ) (total : Summary)
    (exposure : Exposure) (bands : List Exposure) : Type 0 where
  pub history : List Entry
  pub stands : Stands b plan history file
  pub total_is : total ≡ summary plan history
  pub exposed : IsExposureOf b plan history exposure
  pub exposed_by_band : AreBandExposuresOf b plan history bands

-- of a file nothing was put aside, or what opening it would cut was, once
abbrev pub PutsAsideOrNot : List ℕ → (aside aside_now : List ℕ) → Type 0
PutsAsideOrNot file aside aside_now =
    (aside_now ≡ aside) ⊎ (aside_now ≡ aside ++ tail_gates file)
