-- The forms that a session may be served from, and the item served from one. `seat` is the seat of
-- the session, `theta` the grid point of its estimate.
use Rattle.std.specs.Prelude.{◌≡◌, ℕ, ◌≤◌, ◌<◌, IsTrue, IsFalse}
use Rattle.bank_tables.specs.Items.{Set}
use Rattle.bank_tables.specs.Sums.{sum_in}
use Rattle.bank_tables.specs.Tables.{Tables, size, info, stimulus}
use Rattle.form_model.specs.Plan.{Plan, band_of}
use Rattle.form_model.specs.Forms.{Meets}
use Rattle.serving_model.specs.declared.seat.Seat.{Seat}
use Rattle.serving_model.specs.Seats.{is_shown, is_of_stimulus_left_behind, is_withheld, is_available_in, last_shown}
use Rattle.serving_model.specs.Serving.{last_stimulus}

-- an item not shown yet may be used: it is not of a stimulus that was left, not withheld from the
-- examinee, and eligible in the band of the estimate, unless eligibility was set aside there
pub record IsFree (b : Tables) (plan : Plan) (seat : Seat) (theta item : ℕ) : Type 0 where
  pub not_left : IsFalse (is_of_stimulus_left_behind b seat item)
  pub not_withheld : IsFalse (is_withheld seat item)
  pub available : IsTrue (is_available_in seat (band_of plan theta) item)

-- X meets the plan, holds each item shown, and else only free items
pub record IsForm (b : Tables) (plan : Plan) (seat : Seat) (theta : ℕ) (X : Set) : Type 0 where
  pub meets : Meets b plan X
  pub holds_shown : (i : ℕ) → IsTrue (is_shown seat i) → IsTrue (X i)
  pub free : (i : ℕ) → IsTrue (X i) → IsFalse (is_shown seat i) → IsFree b plan seat theta i

-- the information of X at the estimate
abbrev pub information : Tables → ℕ → Set → ℕ
information b theta X = sum_in (size b) X (λ i. info b i theta)

-- X is a form, and no form has more information
pub record IsBestForm (b : Tables) (plan : Plan) (seat : Seat) (theta : ℕ) (X : Set) : Type 0 where
  pub form : IsForm b plan seat theta X
  pub none_better : (Y : Set) → IsForm b plan seat theta Y
      → information b theta Y ≤ information b theta X

-- an item of X that may come next: while X has items not shown of the stimulus shown last, one of
-- these
pub record MayCome (b : Tables) (seat : Seat) (X : Set) (item : ℕ) : Type 0 where
  pub of_form : IsTrue (X item)
  pub not_shown : IsFalse (is_shown seat item)
  pub stays : (i : ℕ) → 0 < last_stimulus b (last_shown seat) → IsTrue (X i)
      → IsFalse (is_shown seat i) → stimulus b i ≡ last_stimulus b (last_shown seat)
      → stimulus b item ≡ last_stimulus b (last_shown seat)

-- the next item: of these that of the greatest information at the estimate, of equals the lowest
pub record IsNextItem (b : Tables) (seat : Seat) (theta : ℕ) (X : Set) (item : ℕ) : Type 0 where
  pub comes : MayCome b seat X item
  pub greatest : (i : ℕ) → MayCome b seat X i → info b i theta ≤ info b item theta
  pub lowest : (i : ℕ) → MayCome b seat X i → i < item → info b i theta < info b item theta
