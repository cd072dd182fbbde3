-- A book of no entries.
use Rattle.std.proofs.Common.{◌≡◌, ℕ, List, [], length, slice_get, Some, refl, arith}
use Rattle.bank_tables.specs.Tables.{Tables, size}
use Rattle.form_model.specs.Plan.{Plan, bands_of}
use Rattle.history_model.specs.declared.counts.Counts.{Counts}
use Rattle.exposure_counters.specs.Tallies.{Tally, counts_at, IsTallyOf}
use Rattle.exam_session.specs.Kept.{AreSeats, AreCounts, AreCountsByBand}
use Rattle.exam_session.specs.KeptSeats.{AreKept, HaveSums}
use Rattle.exam_session.specs.Bookings.{AreBookings}

no_seats : AreSeats [] []
no_seats = record { number = refl; each = λ s seat e. absurd (cc) }

pub no_kept : (plan : Plan) → AreKept plan [] []
no_kept plan = record { are = no_seats; room = λ s kept e. absurd (cc) }

pub no_sums : (b : Tables) (plan : Plan) → HaveSums b plan []
no_sums b plan = λ s kept e. absurd (cc)

pub no_bookings : AreBookings [] [] []
no_bookings = record { number = refl; ordered = refl; known = λ k within. absurd (omega arith); rising = λ i j below within. absurd (omega arith); each = λ booking. refl }

both_zero : (a e : ℕ) → a ≡ 0 → e ≡ 0 → (let x : Counts = record { alpha = a; eps = e } in let z : Counts = record { alpha = 0; eps = 0 } in x ≡ z)
both_zero a e f g = cc

pub no_counts : (b : Tables) (plan : Plan) (tally : Tally) → length tally.counts ≡ size b → IsTallyOf [] tally → AreCounts b plan [] tally
no_counts b plan tally number none = record { number = number; each = λ i below. both_zero (counts_at tally i).alpha (counts_at tally i).eps (none.alpha i) (none.eps i); finished = none.number }

-- in each band too
pub no_counts_by_band : (b : Tables) (plan : Plan) (tallies : List Tally) → length tallies ≡ bands_of plan → ((band : ℕ) (tally : Tally) → slice_get tallies band ≡ Some tally → length tally.counts ≡ size b) → ((band : ℕ) (tally : Tally) → slice_get tallies band ≡ Some tally → IsTallyOf [] tally) → AreCountsByBand b plan [] tallies
no_counts_by_band b plan tallies bands number none = record { number = bands; each = λ band tally at. record { number = number band tally at; each = λ i below. both_zero (counts_at tally i).alpha (counts_at tally i).eps ((none band tally at).alpha i) ((none band tally at).eps i); finished = (none band tally at).number } }
