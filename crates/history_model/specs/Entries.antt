-- What the entries of a history give for a session.
use Rattle.std.specs.Prelude.{ℕ, ◌-◌, Bool, true, false, ◌==◌, List, [], length, slice_get, get_or, Option, Some, None, if◌then◌else◌, count_by, map, unwrap_or}
use Rattle.std.specs.List.{filter, filter_map, list_any}
use Rattle.std.specs.Option.{option_map, option_map_or, option_or}
use Rattle.history_model.specs.declared.entry.Entry.{Entry}
use Rattle.history_model.specs.declared.entry.Without.{Without}
use Rattle.history_model.specs.declared.entry.Entry.TheVariants.{Started, SetAside, Served, Answered, Closed}
use Rattle.bank_tables.specs.Items.{Set, has}
use Rattle.serving_model.specs.declared.seat.Seat.{Seat}
use Rattle.serving_model.specs.Seats.{eight}

-- ---- one entry
abbrev pub starts : Entry → Bool
starts (Started session booking eligible without) = true
starts entry = false

abbrev pub starts_session : ℕ → Entry → Bool
starts_session s (Started session booking eligible without) = session == s
starts_session s entry = false

-- the eligible sets of a Started entry of session s, one for each band
abbrev pub eligible_of : ℕ → Entry → Option (List (List ℕ))
eligible_of s (Started session booking eligible without) =
    if session == s then Some eligible.sets else None
eligible_of s entry = None

-- the list of the Started entry of session s, if it has one
abbrev pub without_of : ℕ → Entry → Option Without
without_of s (Started session booking eligible without) = if session == s then without else None
without_of s entry = None

-- the session of a Started entry for the booking
abbrev pub holder_of : ℕ → Entry → Option ℕ
holder_of booking (Started session other eligible without) =
    if other == booking then Some session else None
holder_of booking entry = None

-- the session that an entry is of
abbrev pub session_of : Entry → ℕ
session_of (Started session booking eligible without) = session
session_of (SetAside session step band cause nodes) = session
session_of (Served session step item form proved nodes) = session
session_of (Answered session step response) = session
session_of (Closed session) = session

abbrev pub sets_aside : Entry → Bool
sets_aside (SetAside session step band cause nodes) = true
sets_aside entry = false

-- eligibility is set aside in the band
abbrev pub sets_aside_in : ℕ → Entry → Bool
sets_aside_in band (SetAside session step at cause nodes) = at == band
sets_aside_in band entry = false

-- the content of a Served entry: the item of a step, and the form, proved best or not, that it was
-- served from
pub record Serving : Type 0 where
  pub step : ℕ
  pub item : ℕ
  pub form : List ℕ
  pub proved : Bool

abbrev pub serving_of : Entry → Option Serving
serving_of (Served session step item form proved nodes) =
    Some (record { step = step; item = item; form = form; proved = proved })
serving_of entry = None

-- the content of an Answered entry: the response to the item of a step
pub record StepAnswer : Type 0 where
  pub step : ℕ
  pub response : ℕ

abbrev pub answer_of : Entry → Option StepAnswer
answer_of (Answered session step response) = Some (record { step = step; response = response })
answer_of entry = None

abbrev pub closes : Entry → Bool
closes (Closed session) = true
closes entry = false

-- ---- a history
-- the number of sessions
abbrev pub sessions : List Entry → ℕ
sessions H = count_by starts H

abbrev pub is_started : List Entry → ℕ → Bool
is_started H s = list_any (starts_session s) H

-- the session of a booking, if it has one
abbrev pub holder : List Entry → ℕ → Option ℕ
holder H booking = slice_get (filter_map (holder_of booking) H) 0

-- the entries of a session, in order
abbrev pub entries_of_session : List Entry → ℕ → List Entry
entries_of_session H s = filter (λ entry. session_of entry == s) H

abbrev pub servings : List Entry → ℕ → List Serving
servings H s = filter_map serving_of (entries_of_session H s)

abbrev pub step_answers : List Entry → ℕ → List StepAnswer
step_answers H s = filter_map answer_of (entries_of_session H s)

-- eligibility was set aside for the session in the band
abbrev pub is_set_aside : List Entry → ℕ → ℕ → Bool
is_set_aside H s band = list_any (sets_aside_in band) (entries_of_session H s)

abbrev pub is_closed : List Entry → ℕ → Bool
is_closed H s = list_any closes (entries_of_session H s)

-- the items of one of the sets
abbrev pub items_in : List (List ℕ) → ℕ → Set
items_in sets band = has (get_or sets band [])

-- the eligible sets of the session's Started entry
abbrev pub eligible_sets : List Entry → ℕ → List (List ℕ)
eligible_sets H s = unwrap_or (slice_get (filter_map (eligible_of s) H) 0) []

-- the list of items that the session's examinee must not get, if its Started entry has one
abbrev pub list_of : List Entry → ℕ → Option Without
list_of H s = slice_get (filter_map (without_of s) H) 0

-- the items served in the session, in order
abbrev pub shown : List Entry → ℕ → List ℕ
shown H s = map (λ serving. serving.item) (servings H s)

-- the responses given in the session, in order
abbrev pub responses : List Entry → ℕ → List ℕ
responses H s = map (λ answer. answer.response) (step_answers H s)

abbrev pub last_serving : List Entry → ℕ → Option Serving
last_serving H s = slice_get (servings H s) (length (servings H s) - 1)

-- the seat that a history gives: the items served and the responses given, the eligible set of each
-- band, whether eligibility was set aside there, the items withheld, the form last served from with
-- its mark, or before the first item that of the list, and whether the session was closed
abbrev pub seat_of : List Entry → ℕ → Seat
seat_of H s =
    record {
      shown = shown H s;
      responses = responses H s;
      eligible = eligible_sets H s;
      aside = eight (is_set_aside H s);
      without = option_map (λ (list : Without). list.items) (list_of H s);
      form = option_or (option_map (λ serving. serving.form) (last_serving H s))
          (option_map (λ (list : Without). list.form) (list_of H s));
      proved = option_map_or (λ serving. serving.proved) (last_serving H s) false;
      closed = is_closed H s;
    }
