-- What a request adds to a history, and what its reply shows.
use Rattle.std.specs.Prelude.{◌≡◌, ℕ, ◌<◌, ◌≤◌, ◌⊎◌, Bool, true, List, [], ◌∷◌, ◌++◌, length, slice_get, Option, Some, None, Contains}
use Rattle.std.specs.List.{list_any}
use Rattle.bank_tables.specs.Items.{Set, has}
use Rattle.bank_tables.specs.Tables.{Tables, size}
use Rattle.exam_hall.specs.Parts.{AtMostOne, IsAside, IsServing}
use Rattle.form_model.specs.Forms.{HoldsAllButOne}
use Rattle.form_model.specs.Plan.{Plan}
use Rattle.headline_model.specs.Counts.{over_with, counts_of}
use Rattle.headline_model.specs.Forms.{IsForm, information}
use Rattle.headline_model.specs.Legal.{IsToServe}
use Rattle.headline_model.specs.Sessions.{seat_after}
use Rattle.history_model.specs.declared.entry.Bands.{Bands}
use Rattle.history_model.specs.declared.entry.Cause.TheVariants.{Spent}
use Rattle.history_model.specs.declared.entry.Entry.{Entry}
use Rattle.history_model.specs.declared.entry.Entry.TheVariants.{Started, SetAside, Served, Answered, Closed}
use Rattle.history_model.specs.declared.entry.Without.{Without}
use Rattle.history_model.specs.declared.place.Place.{Place}
use Rattle.history_model.specs.declared.refusal.Refusal.{Refusal}
use Rattle.history_model.specs.declared.refusal.Refusal.TheVariants.{JournalFull, Disk, Memory}
use Rattle.history_model.specs.declared.request.Exposure.{Exposure as Exposed}
use Rattle.history_model.specs.declared.request.Reply.{Reply}
use Rattle.history_model.specs.declared.request.Reply.TheVariants as reply
use Rattle.history_model.specs.declared.request.Request.{Request}
use Rattle.history_model.specs.declared.request.Request.TheVariants.{Begin, BeginWithout, Answer, Close, Look, Exposure}
use Rattle.history_model.specs.Entries.{sessions, starts}
use Rattle.history_model.specs.Laws.{seat_place}

-- ---- the entries
-- the entry that a request may add first
pub data IsFirstOf : Request → Entry → Type 0 where
  start : (booking session : ℕ) (eligible : Bands)
      → IsFirstOf (Begin booking) (Started session booking eligible None)
  start_without : (booking session : ℕ) (eligible : Bands) (list : Without)
      → IsFirstOf (BeginWithout booking list.items) (Started session booking eligible (Some list))
  answer : (session step response : ℕ) (booking : Option ℕ)
      → IsFirstOf (Answer session step response booking) (Answered session step response)
  close : (session : ℕ) (booking : Option ℕ) → IsFirstOf (Close session booking) (Closed session)

-- the session of a request, by a history after it
pub data IsSessionOf (H : List Entry) : Request → ℕ → Type 0 where
  started : (booking session : ℕ) (eligible : Bands) (without : Option Without)
      → Contains H (Started session booking eligible without)
      → IsSessionOf H (Begin booking) session
  started_without : (booking session : ℕ) (eligible : Bands) (without : Option Without)
      (items : List ℕ) → Contains H (Started session booking eligible without)
      → IsSessionOf H (BeginWithout booking items) session
  answered : (session step response : ℕ) (booking : Option ℕ)
      → Contains H (Answered session step response)
      → IsSessionOf H (Answer session step response booking) session
  closed : (session : ℕ) (booking : Option ℕ) → Contains H (Closed session)
      → IsSessionOf H (Close session booking) session
  looked : (session : ℕ) → IsSessionOf H (Look session) session

-- the entries of a request, by a history after them: its first one, then a setting aside, then a
-- serving, both in its session; each of them may be missing
pub record AreEntriesOf (H : List Entry) (request : Request) (E : List Entry) : Type 0 where
  pub first : List Entry
  pub aside : List Entry
  pub serving : List Entry
  pub are : E ≡ first ++ (aside ++ serving)
  pub one_first : AtMostOne (IsFirstOf request) first
  pub one_aside : AtMostOne (λ entry. (s : ℕ) × IsSessionOf H request s × IsAside s entry) aside
  pub one_serving : AtMostOne (λ entry. (s : ℕ) × IsSessionOf H request s × IsServing s entry)
      serving

-- ---- how good they are
-- an item is served from a form that no exchange of one item betters, and that has no less
-- information than the base form and the form last served from, where these are forms now
pub record IsWellServed (b : Tables) (plan : Plan) (base : List ℕ) (H : List Entry)
    (session step : ℕ) (form : Set) : Type 0 where
  pub theta : ℕ
  pub to_serve : IsToServe b plan H session step theta
  pub exchanges : (X : Set) → IsForm b plan (seat_after H session) theta X → HoldsAllButOne form X
      → information b theta X ≤ information b theta form
  pub no_less : (words : List ℕ) → (words ≡ base) ⊎ ((seat_after H session).form ≡ Some words)
      → IsForm b plan (seat_after H session) theta (has words)
      → information b theta (has words) ≤ information b theta form

-- the budget was spent without a form, and neither of these is a form now
pub record IsWellAside (b : Tables) (plan : Plan) (base : List ℕ) (H : List Entry)
    (session step : ℕ) : Type 0 where
  pub theta : ℕ
  pub to_serve : IsToServe b plan H session step theta
  pub neither : (words : List ℕ) → (words ≡ base) ⊎ ((seat_after H session).form ≡ Some words)
      → IsForm b plan (seat_after H session) theta (has words) → ⊥

-- the same of an entry; more is asked only of an item that is served, and of a spent budget
abbrev pub IsWell : Tables → Plan → List ℕ → List Entry → Entry → Type 0
IsWell b plan base H (Served session step item form proved nodes) =
    IsWellServed b plan base H session step (has form)
IsWell b plan base H (SetAside session step band Spent nodes) =
    IsWellAside b plan base H session step
IsWell b plan base H entry = Unit {0}

-- each of these entries is in the history, and is as good as that after those before it
abbrev pub AreWell : Tables → Plan → List ℕ → List Entry → List Entry → Type 0
AreWell b plan base H E = (entry : Entry) → Contains E entry
    → (before : List Entry) × (after : List Entry) × (H ≡ before ++ entry ∷ after)
    × IsWell b plan base before entry

-- ---- the reply
-- the session is the one that the request asks for: it has the list that the request brings; or the
-- booking that an answer or a closing names, if it names one
abbrev pub IsAsAsked : List Entry → Request → ℕ → Type 0
IsAsAsked H (BeginWithout booking items) s = (seat_after H s).without ≡ Some items
IsAsAsked H (Answer session step response (Some booking)) s = (eligible : Bands)
    × (without : Option Without) × Contains H (Started s booking eligible without)
IsAsAsked H (Close session (Some booking)) s = (eligible : Bands)
    × (without : Option Without) × Contains H (Started s booking eligible without)
IsAsAsked H request s = Unit {0}

-- the request was not done to its end, and no more is known of it
abbrev pub IsStop : Refusal → Type 0
IsStop (JournalFull size) = Unit {0}
IsStop Disk = Unit {0}
IsStop Memory = Unit {0}
IsStop refusal = ⊥

-- what a reply shows of the history H after its request, which added E: the place of its session,
-- and whether it started it; the counts; or that nothing was added
pub data Tells (b : Tables) (plan : Plan) (request : Request) (H E : List Entry) : Reply
    → Type 0 where
  place : (session : ℕ) (at : Place) (fresh : Bool) → IsSessionOf H request session
      → IsAsAsked H request session → session < sessions H
      → at ≡ seat_place plan (seat_after H session) → fresh ≡ list_any starts E
      → Tells b plan request H E (reply.At session at fresh)
  counts : (exposure : Exposed) → request ≡ Exposure → E ≡ []
      → exposure.finished ≡ over_with plan H (λ seat. true) → length exposure.rows ≡ size b
      → ((i : ℕ) → i < size b → slice_get exposure.rows i ≡ Some (counts_of b plan H i))
      → Tells b plan request H E (reply.Exposure exposure)
  refused : (why : Refusal) → E ≡ [] → Tells b plan request H E (reply.Refused why)
  stopped : (why : Refusal) → IsStop why → Tells b plan request H E (reply.Refused why)
