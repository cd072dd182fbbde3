-- The exposure counts of a history, in all and for each band of abilities (item-ineligibility
-- control, conditional on ability; van der Linden and Veldkamp, Journal of Educational and
-- Behavioral Statistics, 2004, and 2007). A band goes by the estimate at a step, and a session
-- counts in each band that it visited: this profile of the method is the project's own.
use Rattle.std.specs.Prelude.{ℕ, Bool, true, not, ◌&&◌, List}
use Rattle.bank_tables.specs.Sums.{count_in, any_below}
use Rattle.bank_tables.specs.Tables.{Tables}
use Rattle.history_model.specs.declared.entry.Entry.{Entry}
use Rattle.history_model.specs.declared.counts.Counts.{Counts}
use Rattle.serving_model.specs.declared.seat.Seat.{Seat}
use Rattle.form_model.specs.Plan.{Plan, bands_of}
use Rattle.serving_model.specs.Seats.{is_shown, is_shown_in, is_withheld, is_available_in, visits}
use Rattle.history_model.specs.Entries.{sessions, seat_of}
use Rattle.history_model.specs.Places.{is_finished}

-- how many finished sessions have a seat that passes a test
abbrev pub finished_with : Plan → List Entry → (Seat → Bool) → ℕ
finished_with plan H test = count_in (sessions H) (is_finished plan H) (λ s. test (seat_of H s))

abbrev pub finished : Plan → List Entry → ℕ
finished plan H = finished_with plan H (λ seat. true)

-- ---- in a band
-- the item was shown at a step whose estimate is in the band
abbrev pub shows_in : Tables → Plan → ℕ → ℕ → Seat → Bool
shows_in b plan band i seat = is_shown_in b plan seat band i

-- the session visited the band, and the item could be served there: it was available there and not
-- withheld
abbrev pub opens_in : Tables → Plan → ℕ → ℕ → Seat → Bool
opens_in b plan band i seat =
    visits b plan seat band && (is_available_in seat band i && not (is_withheld seat i))

abbrev pub band_counts : Tables → Plan → List Entry → ℕ → ℕ → Counts
band_counts b plan H band i = record {
  alpha = finished_with plan H (shows_in b plan band i);
  eps = finished_with plan H (opens_in b plan band i);
}

-- how many finished sessions visited the band
abbrev pub visited : Tables → Plan → List Entry → ℕ → ℕ
visited b plan H band = finished_with plan H (λ seat. visits b plan seat band)

-- ---- in all
abbrev pub shows : ℕ → Seat → Bool
shows i seat = is_shown seat i

-- so it is in some band that the session visited
abbrev pub opens : Tables → Plan → ℕ → Seat → Bool
opens b plan i seat = any_below (bands_of plan) (λ band. opens_in b plan band i seat)

abbrev pub counts : Tables → Plan → List Entry → ℕ → Counts
counts b plan H i =
    record { alpha = finished_with plan H (shows i); eps = finished_with plan H (opens b plan i) }
