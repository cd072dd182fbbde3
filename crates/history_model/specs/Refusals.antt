-- Why a request is refused.
use Rattle.std.specs.Prelude.{ℕ, List, slice_get, nat_eq, nat_le, nat_lt, ◌==◌, ◌&&◌, not, Bool, false, if◌then◌else◌, Option, Some, None}
use Rattle.std.specs.Cmp.Lexicographic.{pointwise}
use Rattle.bank_tables.specs.Items.{has}
use Rattle.bank_tables.specs.Sums.{any_below}
use Rattle.bank_tables.specs.Tables.{Tables, categories, size}
use Rattle.form_model.specs.Plan.{Plan}
use Rattle.history_model.specs.declared.entry.Entry.{Entry}
use Rattle.history_model.specs.declared.entry.Without.{Without}
use Rattle.history_model.specs.declared.place.Place.{Place}
use Rattle.history_model.specs.declared.place.Place.TheVariants.{Pending, Waiting}
use Rattle.history_model.specs.declared.refusal.Refusal.{Refusal}
use Rattle.history_model.specs.declared.refusal.Refusal.TheVariants.{NoSession, WrongStep, Other, BadResponse, IsClosed, OtherList, NoItem, SessionsFull, OtherBooking}
use Rattle.history_model.specs.declared.request.Request.{Request}
use Rattle.history_model.specs.declared.request.Request.TheVariants.{Begin, BeginWithout, Answer, Close, Look, Exposure}
use Rattle.history_model.specs.Entries.{sessions, holder, list_of, responses}
use Rattle.history_model.specs.Places.{place}

-- the response that is recorded for a step, if there is one: along a legal run the k-th response is
-- that of step k
abbrev pub recorded : List Entry → ℕ → ℕ → Option ℕ
recorded H s step = slice_get (responses H s) step

-- a booking without a session: no more sessions are allowed
abbrev pub refusal_of_new : Plan → List Entry → Option ℕ → Option Refusal
refusal_of_new plan H (Some session) = None
refusal_of_new plan H None =
    if nat_le plan.sessions (sessions H) then Some (SessionsFull (sessions H)) else None

-- the words of a set of items are a list for the bank: it has items, and no item that the bank
-- hasn't
abbrev pub is_list : Tables → List ℕ → Bool
is_list b items = any_below 512 (has items)
    && not (any_below 512 (λ i. has items i && nat_le (size b) i))

-- a session was started with this list
abbrev pub has_list : List ℕ → Option Without → Bool
has_list items None = false
has_list items (Some list) = pointwise nat_eq list.items items

-- a booking with a list of items that its examinee must not get: its session has another list, or
-- none; or the list is none for the bank, or no more sessions are allowed
abbrev pub refusal_of_list : Tables → Plan → List Entry → List ℕ → Option ℕ → Option Refusal
refusal_of_list b plan H items (Some session) =
    if has_list items (list_of H session) then None else Some (OtherList session)
refusal_of_list b plan H items None =
    if is_list b items then refusal_of_new plan H None else Some (NoItem (size b))

-- an answer to a step that isn't answered: the session has ended or is at another step, or the item
-- has no such response
abbrev pub refusal_at : Tables → ℕ → ℕ → Place → Option Refusal
refusal_at b step response (Pending at) = Some (WrongStep at)
refusal_at b step response (Waiting at item proved) =
    if at == step
    then (if nat_lt response (categories b item) then None
    else Some (BadResponse (categories b item)))
    else Some (WrongStep at)
refusal_at b step response ended = Some (IsClosed ended)

-- an answer to a session at this place: the step has another response, or the answer is refused
-- there
abbrev pub refusal_of_answer : Tables → ℕ → ℕ → Place → Option ℕ → Option Refusal
refusal_of_answer b step response at (Some given) =
    if given == response then None else Some (Other given)
refusal_of_answer b step response at None = refusal_at b step response at

-- closing a session at this place: it has ended
abbrev pub refusal_of_closing : Place → Option Refusal
refusal_of_closing (Pending step) = None
refusal_of_closing (Waiting step item proved) = None
refusal_of_closing ended = Some (IsClosed ended)

-- no such session; or by its place
abbrev pub in_session : List Entry → Option Place → (Place → Option Refusal) → Option Refusal
in_session H None refusal_where = Some (NoSession (sessions H))
in_session H (Some at) refusal_where = refusal_where at

-- it is this session
abbrev pub is_session : ℕ → Option ℕ → Bool
is_session session None = false
is_session session (Some other) = other == session

-- the session is not that of the booking that the request names, if it names one
abbrev pub is_of_another : List Entry → ℕ → Option ℕ → Bool
is_of_another H session None = false
is_of_another H session (Some booking) = not (is_session session (holder H booking))

-- the session is of another booking; or why the request is refused there
abbrev pub unless_other : Bool → Option Refusal → Option Refusal
unless_other other why = if other then Some OtherBooking else why

-- the first reason why a request is refused
abbrev pub refusal_of : Tables → Plan → List Entry → Request → Option Refusal
refusal_of b plan H (Begin booking) = refusal_of_new plan H (holder H booking)
refusal_of b plan H (BeginWithout booking items) =
    refusal_of_list b plan H items (holder H booking)
refusal_of b plan H (Answer session step response booking) = in_session H (place plan H session)
    (λ at. unless_other (is_of_another H session booking)
    (refusal_of_answer b step response at (recorded H session step)))
refusal_of b plan H (Close session booking) = in_session H (place plan H session)
    (λ at. unless_other (is_of_another H session booking) (refusal_of_closing at))
refusal_of b plan H (Look session) = in_session H (place plan H session) (λ at. None)
refusal_of b plan H Exposure = None
