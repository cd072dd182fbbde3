-- What the definitions imply, as the public laws state it.
use Rattle.std.specs.Prelude.{◌≡◌, ◌↔◌, ℕ, ◌+◌, ◌<◌, ◌≤◌, Bool, true, false, ◌||◌, ◌==◌, List, get_or, [], ◌∷◌, ◌++◌, length, slice_get, nat_le, is_some, IsTrue, IsFalse, Contains, Option, Some, None, if◌then◌else◌}
use Rattle.std.specs.Option.{option_map}
use Rattle.bank_tables.specs.Items.{Set, has, AreWords}
use Rattle.bank_tables.specs.Tables.{Tables}
use Rattle.bank_tables.specs.Validity.{HoldsItems}
use Rattle.serving_model.specs.declared.seat.Seat.{Seat}
use Rattle.form_model.specs.Plan.{Plan, band_of, bands_of}
use Rattle.form_model.specs.Problem.{Problem}
use Rattle.form_model.specs.Forms.{Meets, Form}
use Rattle.certificate_model.specs.ProofTrees.{ProofTree}
use Rattle.serving_model.specs.Seats.{is_shown, eligible_in, is_aside_in, band_at, visits, eight, IsSeat, IsPending}
use Rattle.history_model.specs.declared.entry.Cause.{Cause}
use Rattle.history_model.specs.declared.entry.Bands.{Bands}
use Rattle.history_model.specs.declared.entry.Entry.{Entry}
use Rattle.history_model.specs.declared.entry.Without.{Without}
use Rattle.history_model.specs.declared.entry.Entry.TheVariants.{Started, SetAside, Served, Answered, Closed}
use Rattle.history_model.specs.declared.counts.Counts.{Counts}
use Rattle.history_model.specs.declared.place.Place.{Place}
use Rattle.history_model.specs.declared.place.Place.TheVariants.{Pending, Waiting, Complete, Closed as IsClosed}
use Rattle.history_model.specs.declared.illegal.Illegal.{Illegal}
use Rattle.history_model.specs.declared.request.Reply.TheVariants.{At}
use Rattle.history_model.specs.declared.request.Request.TheVariants.{BeginWithout, Answer, Close}
use Rattle.history_model.specs.Entries.{Serving, StepAnswer, sessions, is_started, holder, list_of, servings, step_answers, seat_of}
use Rattle.history_model.specs.Places.{place}
use Rattle.history_model.specs.Counts.{counts, shows, opens, band_counts, shows_in, opens_in, visited, finished}
use Rattle.history_model.specs.Refusals.{recorded, is_list, has_list, refusal_of}
use Rattle.history_model.specs.Requests.{Does}
use Rattle.history_model.specs.SessionProblems.{IsProblemOf, problem_once_aside, fallback}
use Rattle.history_model.specs.Legality.{Legal, LegalRun}
use Rattle.history_model.specs.Lists.{IsListFor, IsLegalList}
use Rattle.history_model.specs.Judging.{MayFollow, Record, entries_of, Backed}
use Rattle.history_model.specs.Reasons.{IsIllegal}

-- ---- records
abbrev pub MayIsLegal : Type 0
MayIsLegal = (b : Tables) (plan : Plan) (H : List Entry) (entry : Entry) (tree : Option ProofTree)
    → MayFollow b plan H entry tree → Legal b plan H entry

abbrev pub BackedIsLegalRun : Type 0
BackedIsLegalRun =
    (b : Tables) (plan : Plan) (R : List Record) → Backed b plan R → LegalRun b plan (entries_of R)

-- a session whose step is to be served has one problem
abbrev pub OneProblem : Type 0
OneProblem = (b : Tables) (plan : Plan) (H : List Entry) (session step : ℕ) (P Q : Problem)
    → IsProblemOf b plan H session step P → IsProblemOf b plan H session step Q → P ≡ Q

-- a record has at most one reason, and none if it may follow
abbrev pub OneReason : Type 0
OneReason = (b : Tables) (plan : Plan) (H : List Entry) (entry : Entry) (tree : Option ProofTree)
    (r q : Illegal) → IsIllegal b plan H entry tree r → IsIllegal b plan H entry tree q → r ≡ q

abbrev pub NoReasonIfMay : Type 0
NoReasonIfMay =
    (b : Tables) (plan : Plan) (H : List Entry) (entry : Entry) (tree : Option ProofTree)
    (r : Illegal) → IsIllegal b plan H entry tree r → MayFollow b plan H entry tree → ⊥

-- ---- sessions of a legal run
-- the entries before an entry of a legal run are a legal run, and the entry is legal after them
abbrev pub EachIsLegal : Type 0
EachIsLegal = (b : Tables) (plan : Plan) (H : List Entry) (entry : Entry) (G : List Entry)
    → LegalRun b plan (H ++ entry ∷ G) → LegalRun b plan H × Legal b plan H entry

-- the sessions are numbered from 0 to their number less 1
abbrev pub SessionsAreNumbered : Type 0
SessionsAreNumbered = (b : Tables) (plan : Plan) (H : List Entry) (s : ℕ) → LegalRun b plan H
    → (IsTrue (is_started H s) → s < sessions H) × (s < sessions H → IsTrue (is_started H s))

-- they are at most as many as the plan allows, and at most so many are finished
abbrev pub SessionsAreFew : Type 0
SessionsAreFew =
    (b : Tables) (plan : Plan) (H : List Entry) → LegalRun b plan H → sessions H ≤ plan.sessions

abbrev pub FinishedAreFew : Type 0
FinishedAreFew = (plan : Plan) (H : List Entry) → finished plan H ≤ sessions H

-- the k-th Served entry of a session is that of step k, and so is the k-th Answered entry; there
-- are as many of both, or one Served entry more
pub record AreInOrder (H : List Entry) (s : ℕ) : Type 0 where
  pub few : length (step_answers H s) ≤ length (servings H s)
  pub many : length (servings H s) ≤ length (step_answers H s) + 1
  pub servings_steps : (k : ℕ) (serving : Serving) → slice_get (servings H s) k ≡ Some serving
      → serving.step ≡ k
  pub answers_steps : (k : ℕ) (answer : StepAnswer) → slice_get (step_answers H s) k ≡ Some answer
      → answer.step ≡ k

abbrev pub StepsAreInOrder : Type 0
StepsAreInOrder =
    (b : Tables) (plan : Plan) (H : List Entry) (s : ℕ) → LegalRun b plan H → AreInOrder H s

-- ---- the seat
-- a seat before its session is started
abbrev pub no_seat : Seat
no_seat = record {
  shown = [];
  responses = [];
  eligible = [];
  aside = eight (λ _. false);
  without = None;
  form = None;
  proved = false;
  closed = false;
}

abbrev pub SeatBeforeStart : Type 0
SeatBeforeStart = (b : Tables) (plan : Plan) (H : List Entry) (s : ℕ) → LegalRun b plan H
    → IsFalse (is_started H s) → seat_of H s ≡ no_seat

-- the flags of eight bands, with that of a band raised
abbrev pub raised : List Bool → ℕ → List Bool
raised flags band = eight (λ k. get_or flags k false || (band == k))

-- the seat of session s after one entry more
abbrev pub seat_with : ℕ → Seat → Entry → Seat
seat_with s seat (Started session booking eligible without) =
    if session == s
    then record seat {
      eligible = eligible.sets;
      without = option_map (λ (list : Without). list.items) without;
      form = option_map (λ (list : Without). list.form) without;
    }
    else seat
seat_with s seat (SetAside session step band cause nodes) =
    if session == s then record seat { aside = raised seat.aside band } else seat
seat_with s seat (Served session step item form proved nodes) =
    if session == s
    then record seat { shown = seat.shown ++ item ∷ []; form = Some form; proved = proved }
    else seat
seat_with s seat (Answered session step response) =
    if session == s then record seat { responses = seat.responses ++ response ∷ [] } else seat
seat_with s seat (Closed session) = if session == s then record seat { closed = true } else seat

abbrev pub SeatGoesOn : Type 0
SeatGoesOn = (b : Tables) (plan : Plan) (H : List Entry) (entry : Entry) (s : ℕ) → LegalRun b plan H
    → Legal b plan H entry → seat_of (H ++ entry ∷ []) s ≡ seat_with s (seat_of H s) entry

-- each seat keeps what a caller knows of one
abbrev pub SeatIsSeat : Type 0
SeatIsSeat = (b : Tables) (plan : Plan) (H : List Entry) (s : ℕ) → LegalRun b plan H
    → IsSeat b plan (seat_of H s)

-- the eligible items of a session, in each band, are items of the bank
abbrev pub EligibleIsOfBank : Type 0
EligibleIsOfBank = (b : Tables) (plan : Plan) (H : List Entry) (s band : ℕ) → LegalRun b plan H
    → HoldsItems b (eligible_in (seat_of H s) band)

-- in a band that the plan hasn't no item is eligible, and eligibility isn't set aside
abbrev pub OnlyBandsOfPlan : Type 0
OnlyBandsOfPlan = (b : Tables) (plan : Plan) (H : List Entry) (s band : ℕ) → LegalRun b plan H
    → bands_of plan ≤ band → ((i : ℕ) → IsFalse (eligible_in (seat_of H s) band i))
    × IsFalse (is_aside_in (seat_of H s) band)

-- eligibility is set aside at the step that the session has come to, and in the band of the
-- estimate at that step, which no later entry changes
abbrev pub AsideIsOfEstimate : Type 0
AsideIsOfEstimate =
    (b : Tables) (plan : Plan) (H before after : List Entry) (session step band : ℕ)
    (cause : Cause) (nodes : ℕ)
    → H ≡ before ++ SetAside session step band cause nodes ∷ after → LegalRun b plan H
    → (step ≡ length (seat_of before session).responses)
    × (band ≡ band_at b plan (seat_of H session) step)

-- the place of a seat: closed; complete after as many answers as the test has items; waiting for
-- the answer to the item shown last; or pending
abbrev pub step_place : ℕ → Option ℕ → Bool → Place
step_place step (Some item) proved = Waiting step item proved
step_place step None proved = Pending step

abbrev pub seat_place : Plan → Seat → Place
seat_place plan seat =
    if seat.closed then IsClosed
    else (if nat_le plan.length (length seat.responses) then Complete
    else step_place (length seat.responses)
    (slice_get seat.shown (length seat.responses)) seat.proved)

-- the place of a session is that of its seat
abbrev pub PlaceIsOfSeat : Type 0
PlaceIsOfSeat = (b : Tables) (plan : Plan) (H : List Entry) (s : ℕ) → LegalRun b plan H
    → IsTrue (is_started H s) → place plan H s ≡ Some (seat_place plan (seat_of H s))

-- a session whose step is to be served is one whose seat waits for an item, and the step is the
-- number of its responses
abbrev pub PendingIsOfSeat : Type 0
PendingIsOfSeat = (b : Tables) (plan : Plan) (H : List Entry) (s step : ℕ)
    → LegalRun b plan H → place plan H s ≡ Some (Pending step)
    → IsPending plan (seat_of H s) × (length (seat_of H s).responses ≡ step)

-- ---- counts
-- the session that a legal entry finishes: one whose last item is answered, or that is closed
abbrev pub finished_by : Plan → Entry → Option ℕ
finished_by plan (Answered session step response) =
    if nat_le plan.length (step + 1) then Some session else None
finished_by plan (Closed session) = Some session
finished_by plan entry = None

-- a number of finished sessions after an entry that finishes a session, or none: one more where its
-- seat passes the test
abbrev pub number_after : List Entry → Option ℕ → (Seat → Bool) → ℕ → ℕ
number_after H None test n = n
number_after H (Some s) test n = n + (if test (seat_of H s) then 1 else 0)

-- the counts of an item then, by two such tests
abbrev pub counts_after : List Entry → Option ℕ → (Seat → Bool) → (Seat → Bool) → Counts → Counts
counts_after H ended shown eligible counts =
    record {
      alpha = number_after H ended shown counts.alpha;
      eps = number_after H ended eligible counts.eps;
    }

abbrev pub CountsGoOn : Type 0
CountsGoOn = (b : Tables) (plan : Plan) (H : List Entry) (entry : Entry) (i : ℕ) → 0 < plan.length
    → LegalRun b plan H → Legal b plan H entry → counts b plan (H ++ entry ∷ []) i
    ≡ counts_after H (finished_by plan entry) (shows i) (opens b plan i) (counts b plan H i)

-- so in each band
abbrev pub BandCountsGoOn : Type 0
BandCountsGoOn = (b : Tables) (plan : Plan) (H : List Entry) (entry : Entry) (band i : ℕ)
    → 0 < plan.length → LegalRun b plan H → Legal b plan H entry
    → band_counts b plan (H ++ entry ∷ []) band i ≡ counts_after H (finished_by plan entry)
    (shows_in b plan band i) (opens_in b plan band i) (band_counts b plan H band i)

abbrev pub VisitedGoesOn : Type 0
VisitedGoesOn = (b : Tables) (plan : Plan) (H : List Entry) (entry : Entry) (band : ℕ)
    → 0 < plan.length → LegalRun b plan H → Legal b plan H entry
    → visited b plan (H ++ entry ∷ []) band ≡ number_after H (finished_by plan entry)
    (λ seat. visits b plan seat band) (visited b plan H band)

abbrev pub FinishedGoesOn : Type 0
FinishedGoesOn = (b : Tables) (plan : Plan) (H : List Entry) (entry : Entry) → 0 < plan.length
    → LegalRun b plan H → Legal b plan H entry → finished plan (H ++ entry ∷ [])
    ≡ finished plan H + (if is_some (finished_by plan entry) then 1 else 0)

-- a plan without points has one band: its counts are those in all, and each finished session
-- visited it
abbrev pub OneBandIsAll : Type 0
OneBandIsAll = (b : Tables) (plan : Plan) (H : List Entry) (i : ℕ) → plan.bands ≡ []
    → (band_counts b plan H 0 i ≡ counts b plan H i) × (visited b plan H 0 ≡ finished plan H)

-- ---- forms
-- the form of the seat, which is the one last served from, or that of the list before the first
-- item, stays a form of the problem that the session has once eligibility is set aside in the band
-- of its estimate, whatever that is
abbrev pub LastFormStays : Type 0
LastFormStays =
    (b : Tables) (plan : Plan) (H : List Entry) (s theta : ℕ) (words : List ℕ) → LegalRun b plan H
    → (seat_of H s).form ≡ Some words → Form (problem_once_aside b plan H s theta) (has words)

-- and of its problem as it is, where the estimate is in the band of the step before
abbrev pub LastFormStaysInBand : Type 0
LastFormStaysInBand =
    (b : Tables) (plan : Plan) (H : List Entry) (s step : ℕ) (P : Problem) (words : List ℕ)
    → LegalRun b plan H → IsProblemOf b plan H s (step + 1) P
    → band_at b plan (seat_of H s) step ≡ band_of plan P.theta
    → (seat_of H s).form ≡ Some words → Form P (has words)

-- the items shown in a complete session meet the plan
abbrev pub CompleteMeets : Type 0
CompleteMeets = (b : Tables) (plan : Plan) (H : List Entry) (s : ℕ) → 0 < plan.length
    → LegalRun b plan H → place plan H s ≡ Some Complete → Meets b plan (is_shown (seat_of H s))

-- once eligibility is set aside in the band of the estimate, the form of the seat, or where it has
-- none any set that meets the plan, is a form of the session's problem
abbrev pub FormOnceAside : Type 0
FormOnceAside = (b : Tables) (plan : Plan) (H : List Entry) (s step : ℕ) (P : Problem) (base : Set)
    → LegalRun b plan H → IsProblemOf b plan H s step P → Meets b plan base
    → Form (problem_once_aside b plan H s P.theta) (fallback P base)

-- so where eligibility is set aside in that band, the problem has a form
abbrev pub FormWhereAside : Type 0
FormWhereAside = (b : Tables) (plan : Plan) (H : List Entry) (s step : ℕ) (P : Problem) (base : Set)
    → LegalRun b plan H → IsProblemOf b plan H s step P → Meets b plan base → IsTrue P.aside
    → Form P (fallback P base)

-- ---- lists
-- a session with a list, at step 0 too, has a form of the problem once eligibility is set aside:
-- that of its seat
pub record HasFormOnceAside (b : Tables) (plan : Plan) (H : List Entry) (s theta : ℕ) : Type 0 where
  pub words : List ℕ
  pub of_seat : (seat_of H s).form ≡ Some words
  pub is_form : Form (problem_once_aside b plan H s theta) (has words)

abbrev pub ListHasForm : Type 0
ListHasForm =
    (b : Tables) (plan : Plan) (H : List Entry) (s theta : ℕ) (list : Without) → LegalRun b plan H
    → list_of H s ≡ Some list → HasFormOnceAside b plan H s theta

-- no item shown in a session is on its list
abbrev pub NoneShownOfList : Type 0
NoneShownOfList =
    (b : Tables) (plan : Plan) (H : List Entry) (s item : ℕ) (list : Without) → LegalRun b plan H
    → list_of H s ≡ Some list → IsTrue (has list.items item) → IsFalse (is_shown (seat_of H s) item)

-- nor is one in a form that an item is served from, whether eligibility is set aside or not
abbrev pub NoneServedOfList : Type 0
NoneServedOfList =
    (b : Tables) (plan : Plan) (H : List Entry) (session step item : ℕ) (form : List ℕ)
    (proved : Bool) (nodes i : ℕ) (list : Without) → LegalRun b plan H
    → Legal b plan H (Served session step item form proved nodes)
    → list_of H session ≡ Some list → IsTrue (has list.items i) → IsFalse (has form i)

-- an item of the list doesn't count as eligible for the session
abbrev pub NoneOpenOfList : Type 0
NoneOpenOfList =
    (b : Tables) (plan : Plan) (H : List Entry) (s item band : ℕ) (list : Without)
    → list_of H s ≡ Some list → IsTrue (has list.items item)
    → IsFalse (opens_in b plan band item (seat_of H s)) × IsFalse (opens b plan item (seat_of H s))

-- the list of a session is of the bank, with a form without it, and stays in a longer history
abbrev pub ListIsLegal : Type 0
ListIsLegal =
    (b : Tables) (plan : Plan) (H : List Entry) (s : ℕ) (list : Without) → LegalRun b plan H
    → list_of H s ≡ Some list → IsLegalList b plan list

abbrev pub ListStays : Type 0
ListStays = (H more : List Entry) (s : ℕ) (list : Without) → list_of H s ≡ Some list
    → list_of (H ++ more) s ≡ Some list

-- the test of the words of a set is whether the set is a list for the bank
abbrev pub ListByWords : Type 0
ListByWords = (b : Tables) (items : List ℕ) → AreWords items
    → IsTrue (is_list b items) ↔ IsListFor b (has items)

-- a place as the reply to a request with a list is that of the booking's session, which was started
-- with that list
abbrev pub PlaceHasList : Type 0
PlaceHasList =
    (b : Tables) (plan : Plan) (H : List Entry) (booking : ℕ) (items : List ℕ) (H2 : List Entry)
    (session : ℕ) (at : Place) (fresh : Bool) → LegalRun b plan H
    → Does b plan H (BeginWithout booking items) H2 (At session at fresh)
    → (holder H2 booking ≡ Some session) × IsTrue (has_list items (list_of H2 session))

-- an answer or a closing that names a booking, and is not refused, is of the session that was
-- started for this booking
abbrev pub NamedHasBooking : Type 0
NamedHasBooking = (b : Tables) (plan : Plan) (H : List Entry) (session booking : ℕ)
    → ((step response : ℕ)
    → refusal_of b plan H (Answer session step response (Some booking)) ≡ None
    → (eligible : Bands) × (without : Option Without)
    × Contains H (Started session booking eligible without))
    × (refusal_of b plan H (Close session (Some booking)) ≡ None
    → (eligible : Bands) × (without : Option Without)
    × Contains H (Started session booking eligible without))

-- ---- a longer history
-- a booking keeps its session, a step its response, a closed session its end, and no session goes
abbrev pub HolderStays : Type 0
HolderStays = (H more : List Entry) (booking session : ℕ) → holder H booking ≡ Some session
    → holder (H ++ more) booking ≡ Some session

abbrev pub ResponseStays : Type 0
ResponseStays = (H more : List Entry) (s step response : ℕ) → recorded H s step ≡ Some response
    → recorded (H ++ more) s step ≡ Some response

abbrev pub ClosedStays : Type 0
ClosedStays = (plan : Plan) (H more : List Entry) (s : ℕ) → place plan H s ≡ Some IsClosed
    → place plan (H ++ more) s ≡ Some IsClosed

abbrev pub SessionsGrow : Type 0
SessionsGrow = (H more : List Entry) → sessions H ≤ sessions (H ++ more)

-- what a legal run begins with is one, and in it a complete session stays complete
abbrev pub BeginningIsLegal : Type 0
BeginningIsLegal = (b : Tables) (plan : Plan) (H more : List Entry) → LegalRun b plan (H ++ more)
    → LegalRun b plan H

abbrev pub CompleteStays : Type 0
CompleteStays =
    (b : Tables) (plan : Plan) (H more : List Entry) (s : ℕ) → LegalRun b plan (H ++ more)
    → place plan H s ≡ Some Complete → place plan (H ++ more) s ≡ Some Complete

-- where a session waits for the item of the same step, with eligibility set aside or not as before
-- in the band of the estimate, its problem is the same
abbrev pub ProblemStays : Type 0
ProblemStays = (b : Tables) (plan : Plan) (H more : List Entry) (s step : ℕ) (P : Problem)
    → LegalRun b plan (H ++ more) → IsProblemOf b plan H s step P
    → place plan (H ++ more) s ≡ Some (Pending step)
    → is_aside_in (seat_of (H ++ more) s) (band_of plan P.theta) ≡ P.aside
    → IsProblemOf b plan (H ++ more) s step P

abbrev pub SameProblem : Type 0
SameProblem = (b : Tables) (plan : Plan) (H more : List Entry) (s step : ℕ) (P Q : Problem)
    → LegalRun b plan (H ++ more) → IsProblemOf b plan H s step P
    → IsProblemOf b plan (H ++ more) s step Q → P.aside ≡ Q.aside → P ≡ Q

-- each record of a backed run may follow those before it
abbrev pub EachMayFollow : Type 0
EachMayFollow = (b : Tables) (plan : Plan) (R : List Record) (r : Record) (Q : List Record)
    → Backed b plan (R ++ r ∷ Q) → Backed b plan R × MayFollow b plan (entries_of R) r.entry r.tree
