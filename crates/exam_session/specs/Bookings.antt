-- The bookings of a book: that of each session, and the sessions in ascending order of them.
use Rattle.std.specs.Prelude.{◌≡◌, ℕ, ◌<◌, ◌≤◌, min, ◌==◌, List, [], ◌∷◌, length, slice_index_or, if◌then◌else◌, Option, Some, None}
use Rattle.history_model.specs.declared.entry.Entry.{Entry}
use Rattle.history_model.specs.Entries.{sessions, holder}
use Rattle.std.specs.Vec.{vec_capacity}
use Rattle.exam_session.specs.declared.bookings.Bookings.{Bookings}

-- the booking of a session
abbrev pub booking_of : List ℕ → ℕ → ℕ
booking_of bookings session = slice_index_or bookings session 0

-- the session of a booking, if one of the order has it
abbrev pub session_with : List ℕ → List ℕ → ℕ → Option ℕ
session_with bookings [] booking = None
session_with bookings (session ∷ rest) booking = if booking_of bookings session
    == booking then Some session else session_with bookings rest booking

-- the booking at a place of the order
abbrev pub booking_at : List ℕ → List ℕ → ℕ → ℕ
booking_at bookings order place = booking_of bookings (slice_index_or order place 0)

-- the bookings rise along the order, so none is there twice
abbrev pub IsRising : List ℕ → List ℕ → Type 0
IsRising bookings order =
    (i j : ℕ) → i < j → j < length order → booking_at bookings order i < booking_at bookings order j

-- the bookings before the place are lower, and those from it on are not
pub record IsPlaceFor (bookings order : List ℕ) (booking place : ℕ) : Type 0 where
  pub within : place ≤ length order
  pub lower : (k : ℕ) → k < place → booking_at bookings order k < booking
  pub not_lower : (k : ℕ) → place ≤ k → k < length order → booking ≤ booking_at bookings order k

-- the booking of each session of the entries, and the sessions in ascending order of them
pub record AreBookings (H : List Entry) (bookings order : List ℕ) : Type 0 where
  pub number : length bookings ≡ sessions H
  pub ordered : length order ≡ sessions H
  pub known : (k : ℕ) → k < length order → slice_index_or order k 0 < length bookings
  pub rising : IsRising bookings order
  pub each : (booking : ℕ) → session_with bookings order booking ≡ holder H booking

-- for how many sessions there is room
abbrev pub places : Bookings → ℕ
places bookings = min (vec_capacity bookings.each) (vec_capacity bookings.order)
