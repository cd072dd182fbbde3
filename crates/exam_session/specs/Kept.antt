-- What a book keeps beside its entries, so that nothing is counted anew.
use Rattle.std.specs.Prelude.{◌≡◌, ℕ, ◌<◌, List, length, slice_get, Some}
use Rattle.bank_tables.specs.Tables.{Tables, size}
use Rattle.history_model.specs.declared.entry.Entry.{Entry}
use Rattle.serving_model.specs.declared.seat.Seat.{Seat}
use Rattle.form_model.specs.Plan.{Plan, bands_of}
use Rattle.history_model.specs.Entries.{sessions, seat_of}
use Rattle.history_model.specs.Counts.{counts, finished, band_counts, visited}
use Rattle.form_model.specs.declared.draft.Rate.{Rate}
use Rattle.bank_tables.specs.Items.{Set}
use Rattle.history_model.specs.Draws.{drawn}
use Rattle.exposure_counters.specs.Tallies.{Tally, counts_at}

-- the seat of each session, by its number
pub record AreSeats (H : List Entry) (seats : List Seat) : Type 0 where
  pub number : length seats ≡ sessions H
  pub each : (s : ℕ) (seat : Seat) → slice_get seats s ≡ Some seat → seat ≡ seat_of H s

-- the exposure counts of the bank's items, and the number of finished sessions
pub record AreCounts (b : Tables) (plan : Plan) (H : List Entry) (tally : Tally) : Type 0 where
  pub number : length tally.counts ≡ size b
  pub each : (i : ℕ) → i < size b → counts_at tally i ≡ counts b plan H i
  pub finished : tally.finished ≡ finished plan H

-- the exposure counts of the bank's items in a band, and the number of finished sessions that
-- visited it
pub record AreBandCounts (b : Tables) (plan : Plan) (H : List Entry) (band : ℕ)
    (tally : Tally) : Type 0 where
  pub number : length tally.counts ≡ size b
  pub each : (i : ℕ) → i < size b → counts_at tally i ≡ band_counts b plan H band i
  pub finished : tally.finished ≡ visited b plan H band

-- those of each band of the plan
pub record AreCountsByBand (b : Tables) (plan : Plan) (H : List Entry)
    (tallies : List Tally) : Type 0 where
  pub number : length tallies ≡ bands_of plan
  pub each : (band : ℕ) (tally : Tally) → slice_get tallies band ≡ Some tally
      → AreBandCounts b plan H band tally

-- the items that the words of a session in a band admit at the counts of a tally
abbrev pub drawn_at : List ℕ → Rate → ℕ → ℕ → Tally → Set
drawn_at key rate session band tally =
    drawn key rate session band (length tally.counts) (counts_at tally)
