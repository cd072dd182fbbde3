-- Where a finished session was, and what is counted of it in each band.
use Rattle.std.specs.Prelude.{◌≡◌, ℕ, ◌+◌, ◌<◌, ◌≤◌, ◌&&◌, ◌||◌, ◌==◌, not, false, Bool, List, [], length, get_or, slice_get, Some, IsTrue, IsFalse}
use Rattle.bank_tables.specs.Items.{has}
use Rattle.bank_tables.specs.Tables.{Tables, size}
use Rattle.bank_tables.specs.Validity.{HoldsItems}
use Rattle.serving_model.specs.declared.seat.Seat.{Seat}
use Rattle.form_model.specs.Plan.{Plan, bands_of}
use Rattle.serving_model.specs.Seats.{eligible_in, is_shown_in, is_available_in, is_withheld, visits}
use Rattle.exposure_counters.specs.Tallies.{Tally, counts_at, counted}
use Rattle.exam_session.specs.declared.bands.BandVisits.{BandVisits}

-- the session begins in a band, and no item was shown
pub record BeginsIn (found : BandVisits) (band : ℕ) : Type 0 where
  pub shown : (k i : ℕ) → k < 8 → has (get_or found.shown k []) i ≡ false
  pub there : (k : ℕ) → k < 8 → get_or found.there k false ≡ (band == k)

-- an item more is shown in a band, which is visited
pub record NotesVisit (old new : BandVisits) (band item : ℕ) : Type 0 where
  pub shown : (k i : ℕ) → k < 8 → has (get_or new.shown k []) i
      ≡ (((k == band) && (i == item)) || has (get_or old.shown k []) i)
  pub there : (k : ℕ) → k < 8 → get_or new.there k false ≡ ((k == band) || get_or old.there k false)

-- the items shown in each band, and whether the session visited it
pub record AreVisits (b : Tables) (plan : Plan) (seat : Seat) (found : BandVisits) : Type 0 where
  pub shown : (band i : ℕ) → band < 8
      → has (get_or found.shown band []) i ≡ is_shown_in b plan seat band i
  pub there : (band : ℕ) → band < 8 → get_or found.there band false ≡ visits b plan seat band

-- the tally after one session more, with the items shown in the band, and those open there
pub record IsCountedIn (b : Tables) (plan : Plan) (band : ℕ) (seat : Seat)
    (old new : Tally) : Type 0 where
  pub shown : ℕ → Bool
  pub eligible : ℕ → Bool
  pub items : length new.counts ≡ length old.counts
  pub counts : (i : ℕ) → counts_at new i ≡ counted (counts_at old i) (shown i) (eligible i)
  pub finished : new.finished ≡ old.finished + 1
  pub shown_is : (i : ℕ) → i < size b → shown i ≡ is_shown_in b plan seat band i
  pub eligible_is : (i : ℕ) → i < size b
      → eligible i ≡ (is_available_in seat band i && not (is_withheld seat i))

-- a session is counted in a band that it visited, and in no other
pub record IsCountedOrNot (b : Tables) (plan : Plan) (band : ℕ) (seat : Seat)
    (old new : Tally) : Type 0 where
  pub there : IsTrue (visits b plan seat band) → IsCountedIn b plan band seat old new
  pub away : IsFalse (visits b plan seat band) → new ≡ old

pub record IsCountedByBand (b : Tables) (plan : Plan) (seat : Seat)
    (old new : List Tally) : Type 0 where
  pub number : length new ≡ length old
  pub each : (band : ℕ) (was is : Tally) → slice_get old band ≡ Some was
      → slice_get new band ≡ Some is → IsCountedOrNot b plan band seat was is

-- the session can be counted: its items are of the bank, and each tally has room for a session more
pub record IsCountable (b : Tables) (plan : Plan) (seat : Seat)
    (tallies : List Tally) : Type 0 where
  pub bands : length tallies ≡ bands_of plan
  pub few : bands_of plan ≤ 8
  pub shown : (band i : ℕ) → IsTrue (is_shown_in b plan seat band i) → i < size b
  pub eligible : (band : ℕ) → HoldsItems b (eligible_in seat band)
  pub number : (band : ℕ) (tally : Tally) → slice_get tallies band ≡ Some tally
      → length tally.counts ≡ size b
  pub room : (band : ℕ) (tally : Tally) → slice_get tallies band ≡ Some tally
      → IsTrue (visits b plan seat band) → tally.finished < 65536

-- so in one band
pub record IsCountableIn (b : Tables) (plan : Plan) (band : ℕ) (seat : Seat) (found : BandVisits)
    (tally : Tally) : Type 0 where
  pub low : band < 8
  pub visits_are : AreVisits b plan seat found
  pub shown : (i : ℕ) → IsTrue (is_shown_in b plan seat band i) → i < size b
  pub eligible : HoldsItems b (eligible_in seat band)
  pub number : length tally.counts ≡ size b
  pub room : IsTrue (visits b plan seat band) → tally.finished < 65536
