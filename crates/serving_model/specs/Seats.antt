-- The problem of an examinee's seat.
use Rattle.std.specs.Prelude.{◌≡◌, ℕ, ◌+◌, ◌-◌, ◌<◌, ◌≤◌, ◌⊎◌, Bool, true, false, not, ◌&&◌, ◌||◌, ◌==◌, nat_lt, List, [], ◌∷◌, ◌++◌, length, take, get_or, slice_get, slice_index_or, IsTrue, IsFalse, Option, Some, None}
use Rattle.std.specs.List.{list_any, zip}
use Rattle.std.specs.Option.{option_map, option_map_or}
use Rattle.bank_tables.specs.Items.{Set, has}
use Rattle.bank_tables.specs.Sums.{any_below}
use Rattle.bank_tables.specs.Tables.{Tables, size, stimulus, categories}
use Rattle.bank_tables.specs.Validity.{HoldsItems}
use Rattle.serving_model.specs.declared.seat.Seat.{Seat}
use Rattle.form_model.specs.Plan.{Plan, band_of}
use Rattle.form_model.specs.Problem.{Problem}
use Rattle.form_model.specs.Ability.{AnswerList, IsPosteriorMode, mode_of}
use Rattle.serving_model.specs.Serving.{last_stimulus}

-- the items shown with the responses to them
abbrev pub answers : Seat → AnswerList
answers seat = zip seat.shown seat.responses

abbrev pub is_shown : Seat → Set
is_shown seat i = list_any (λ item. item == i) seat.shown

abbrev pub last_shown : Seat → Option ℕ
last_shown seat = slice_get seat.shown (length seat.shown - 1)

-- an item of a stimulus that was entered and isn't that of the item shown last
abbrev pub is_of_stimulus_left_behind : Tables → Seat → Set
is_of_stimulus_left_behind b seat i =
    not (stimulus b i == 0)
    && (list_any (λ item. stimulus b item == stimulus b i) seat.shown
    && not (stimulus b i == last_stimulus b (last_shown seat)))

-- ---- the list of a session
-- the item is on the list of those that the examinee must not get; on no list where there is none
abbrev pub is_withheld : Seat → Set
is_withheld seat i = option_map_or (λ words. has words i) seat.without false

-- ---- bands
-- the items eligible in a band; none past the last set
abbrev pub eligible_in : Seat → ℕ → Set
eligible_in seat band = has (get_or seat.eligible band [])

-- eligibility is set aside in a band
abbrev pub is_aside_in : Seat → ℕ → Bool
is_aside_in seat band = get_or seat.aside band false

-- an item is available in a band: it is eligible there, or eligibility is set aside there
abbrev pub is_available_in : Seat → ℕ → Set
is_available_in seat band i = eligible_in seat band i || is_aside_in seat band

-- or it is unavailable there
abbrev pub is_unavailable_in : Seat → ℕ → Set
is_unavailable_in seat band i = not (is_available_in seat band i)

-- the estimate at a step: the posterior mode of the answers before it
abbrev pub estimate_at : Tables → Plan → Seat → ℕ → ℕ
estimate_at b plan seat step = mode_of b plan.prior (take step (answers seat))

-- the band of the estimate at a step
abbrev pub band_at : Tables → Plan → Seat → ℕ → ℕ
band_at b plan seat step = band_of plan (estimate_at b plan seat step)

-- the band in which each session begins
abbrev pub first_band : Tables → Plan → ℕ
first_band b plan = band_of plan (mode_of b plan.prior [])

-- an item was shown at a step whose estimate is in the band
abbrev pub is_shown_in : Tables → Plan → Seat → ℕ → Set
is_shown_in b plan seat band i =
    any_below (length seat.shown)
    (λ step. (slice_index_or seat.shown step 0 == i) && (band_at b plan seat step == band))

-- the session visited the band: it begins there, or an item was shown at a step whose estimate is
-- there
abbrev pub visits : Tables → Plan → Seat → ℕ → Bool
visits b plan seat band = (first_band b plan == band)
    || any_below (length seat.shown) (λ step. band_at b plan seat step == band)

-- ---- the problem
-- the items of the bank that are barred: those not shown that are of a stimulus that was left, are
-- withheld from the examinee, or are unavailable
abbrev pub is_barred : Tables → Seat → Set → Set
is_barred b seat unavailable i = nat_lt i (size b) && (not (is_shown seat i)
    && (is_of_stimulus_left_behind b seat i || (is_withheld seat i || unavailable i)))

-- the problem of a seat at an estimate, with some items unavailable
abbrev pub problem_barring : Tables → Plan → ℕ → Seat → ℕ → Bool → Set → Problem
problem_barring b plan session seat theta aside unavailable =
    record {
      bank = b;
      plan = plan;
      session = session;
      step = length seat.responses;
      aside = aside;
      given = is_shown seat;
      barred = is_barred b seat unavailable;
      theta = theta;
      last = last_shown seat;
      start = option_map has seat.form;
    }

-- the problem of a seat, at an estimate, with the items that are unavailable in its band
abbrev pub seat_problem : Tables → Plan → ℕ → Seat → ℕ → Problem
seat_problem b plan session seat theta = problem_barring b plan session seat theta
    (is_aside_in seat (band_of plan theta)) (is_unavailable_in seat (band_of plan theta))

-- the problem that a seat has once eligibility is set aside in the band of the estimate: no item is
-- unavailable there
abbrev pub problem_aside : Tables → Plan → ℕ → Seat → ℕ → Problem
problem_aside b plan session seat theta =
    problem_barring b plan session seat theta true (λ _. false)

-- P is the problem of the seat: the estimate is the posterior mode of its answers
pub record IsSeatProblem (b : Tables) (plan : Plan) (session : ℕ) (seat : Seat)
    (P : Problem) : Type 0 where
  pub theta : ℕ
  pub mode : IsPosteriorMode b plan.prior (answers seat) theta
  pub is : P ≡ seat_problem b plan session seat theta

-- ---- how a seat goes on

-- something for each of eight bands
abbrev pub eight : {A : Type 0} → (ℕ → A) → List A
eight f = f 0 ∷ f 1 ∷ f 2 ∷ f 3 ∷ f 4 ∷ f 5 ∷ f 6 ∷ f 7 ∷ []

-- the seat of a session that begins without a list, with the items that are eligible for it in each
-- band
abbrev pub new_seat : List (List ℕ) → Seat
new_seat eligible = record {
  shown = [];
  responses = [];
  eligible = eligible;
  aside = eight (λ _. false);
  without = None;
  form = None;
  proved = false;
  closed = false;
}

-- the seat after an item of a form was shown; the form is kept with its mark, whether it is proved
-- best
abbrev pub with_item : Seat → List ℕ → Bool → ℕ → Seat
with_item seat form proved item =
    record seat { shown = seat.shown ++ item ∷ []; form = Some form; proved = proved }

-- the seat after a response
abbrev pub with_response : Seat → ℕ → Seat
with_response seat response = record seat { responses = seat.responses ++ response ∷ [] }

-- the seat after an item was served from a form, and answered
abbrev pub served_and_answered : Seat → ℕ → List ℕ → ℕ → Seat
served_and_answered seat item form response =
    with_response (with_item seat form seat.proved item) response

-- ---- what is known of a seat

-- the seat waits for an item: it isn't closed, the test isn't complete, and each item shown is
-- answered
pub record IsPending (plan : Plan) (seat : Seat) : Type 0 where
  pub not_closed : IsFalse seat.closed
  pub not_complete : length seat.responses < plan.length
  pub answered : length seat.shown ≡ length seat.responses

-- what a caller knows of a seat
pub record IsSeat (b : Tables) (plan : Plan) (seat : Seat) : Type 0 where
  pub items : (i : ℕ) → IsTrue (is_shown seat i) → i < size b
  pub once : (j k item : ℕ) → slice_get seat.shown j ≡ Some item
      → slice_get seat.shown k ≡ Some item → j ≡ k
  pub few : length seat.shown ≤ plan.length
  pub responses : (length seat.responses ≡ length seat.shown)
      ⊎ (length seat.responses + 1 ≡ length seat.shown)
  pub in_range : (k item response : ℕ) → slice_get seat.shown k ≡ Some item
      → slice_get seat.responses k ≡ Some response → response < categories b item
  pub form_items : (words : List ℕ) → seat.form ≡ Some words → HoldsItems b (has words)
  pub form_none : seat.form ≡ None → length seat.shown ≡ 0
  pub form_some : length seat.shown ≡ 0 → seat.without ≡ None → seat.form ≡ None
  pub list_form : seat.form ≡ None → seat.without ≡ None
  pub not_withheld : (i : ℕ) → IsTrue (is_shown seat i) → IsFalse (is_withheld seat i)
