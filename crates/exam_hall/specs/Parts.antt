-- The parts of what a request does on a shared hall.
use Rattle.std.specs.Prelude.{◌≡◌, ◌≢◌, ◌⊎◌, ⊤, ℕ, ◌≤◌, List, [], ◌∷◌, ◌++◌, length, slice_get, All, Contains, Option, Some, None, Result, IsTrue}
use Rattle.std.specs.List.{filter_map}
use Rattle.bank_tables.specs.Items.{has}
use Rattle.bank_tables.specs.Tables.{Tables}
use Rattle.form_model.specs.Plan.{Plan}
use Rattle.history_model.specs.declared.entry.Entry.{Entry}
use Rattle.history_model.specs.declared.entry.Entry.TheVariants.{SetAside, Served, Answered, Closed}
use Rattle.history_model.specs.declared.place.Place.TheVariants.{Pending}
use Rattle.history_model.specs.declared.refusal.Refusal.{Refusal}
use Rattle.history_model.specs.declared.refusal.Refusal.TheVariants.{JournalFull, Disk, Memory}
use Rattle.history_model.specs.declared.request.Request.{Request}
use Rattle.history_model.specs.declared.request.Request.TheVariants.{Begin, BeginWithout, Answer, Close, Look, Exposure}
use Rattle.history_model.specs.Entries.{holder, list_of, is_started}
use Rattle.history_model.specs.Legality.{Legal}
use Rattle.history_model.specs.Lists.{LacksForm}
use Rattle.history_model.specs.Places.{place}
use Rattle.history_model.specs.Refusals.{has_list, refusal_of}
use Rattle.exam_office.specs.declared.mark.Mark.{Mark}
use Rattle.exam_office.specs.declared.mark.Mark.TheVariants.{Own, Fault}
use Rattle.exam_office.specs.Calls.{IsTooLong, IsStartFor, IsStartWithout}
use Rattle.exam_office.specs.Marks.{entry_of, history}
use Rattle.exam_office.specs.Noting.{EndsInFault}

-- ---- marks
-- the entry of an Own mark
abbrev pub own_of : Mark → Option Entry
own_of (Own entry size) = Some entry
own_of mark = None

abbrev pub owns : List Mark → List Entry
owns T = filter_map own_of T

abbrev pub NoFault : List Mark → Type 0
NoFault T = All (λ m. (e : Entry) → m ≢ Fault e) T

-- ---- the entries of a request
abbrev pub AtMostOne : {A : Type 0} → (A → Type 0) → List A → Type 0
AtMostOne {A} P xs = (xs ≡ []) ⊎ ((x : A) × (xs ≡ x ∷ []) × P x)

-- the entry that a request may add first
abbrev pub IsFirst : Request → Entry → Type 0
IsFirst (Begin booking) e = IsStartFor booking e
IsFirst (BeginWithout booking items) e =
    (witness : Result (List ℕ) Refusal) × IsStartWithout booking items witness e
IsFirst (Answer session step response booking) e = e ≡ Answered session step response
IsFirst (Close session booking) e = e ≡ Closed session
IsFirst (Look session) e = ⊥
IsFirst Exposure e = ⊥

-- eligibility is set aside for the session; an item is served in it; an item is answered
abbrev pub IsAside : ℕ → Entry → Type 0
IsAside s (SetAside session step band cause nodes) = session ≡ s
IsAside s e = ⊥

abbrev pub IsServing : ℕ → Entry → Type 0
IsServing s (Served session step item form proved nodes) = session ≡ s
IsServing s e = ⊥

abbrev pub IsAnswer : ℕ → Entry → Type 0
IsAnswer s (Answered session step response) = session ≡ s
IsAnswer s e = ⊥

-- the booking that is named, if one is, has this session
abbrev pub IsOfNamed : List Entry → Option ℕ → ℕ → Type 0
IsOfNamed H None s = ⊤
IsOfNamed H (Some booking) s = holder H booking ≡ Some s

-- the session of a request, after the history H: for a booking, the one that the booking has; for a
-- booking with a list, that one, and it was started with this list; for an answer or a closing, the
-- one that it names, which is that of the booking that it names, if it names one
abbrev pub IsSessionOf : List Entry → Request → ℕ → Type 0
IsSessionOf H (Begin booking) s = holder H booking ≡ Some s
IsSessionOf H (BeginWithout booking items) s =
    (holder H booking ≡ Some s) × IsTrue (has_list items (list_of H s))
IsSessionOf H (Answer session step response booking) s = (s ≡ session) × IsOfNamed H booking s
IsSessionOf H (Close session booking) s = (s ≡ session) × IsOfNamed H booking s
IsSessionOf H (Look session) s = s ≡ session
IsSessionOf H Exposure s = ⊥

-- the answer of the request is in the history
abbrev pub IsAnswered : List Entry → Request → Type 0
IsAnswered H (Answer session step response booking) = Contains H (Answered session step response)
IsAnswered H q = ⊤

-- the session that a request may serve: the history has it, and the request's answer
abbrev pub IsServedFor : List Entry → Request → ℕ → Type 0
IsServedFor H (Close session booking) s = ⊥
IsServedFor H q s = IsSessionOf H q s × IsAnswered H q × IsTrue (is_started H s)

-- E has the entries of the request: its first one, then a setting aside, then a serving; or a part
-- of them
pub record IsPartOf (H : List Entry) (q : Request) (E : List Entry) : Type 0 where
  pub first : List Entry
  pub aside : List Entry
  pub serving : List Entry
  pub is : E ≡ first ++ (aside ++ serving)
  pub one_first : AtMostOne (IsFirst q) first
  pub one_aside : AtMostOne (λ e. (s : ℕ) × IsServedFor H q s × IsAside s e) aside
  pub one_serving : AtMostOne (λ e. (s : ℕ) × IsServedFor H q s × IsServing s e) serving

-- ---- what an unfinished request lacks
-- the last mark is a fault: its entry may be in doubt, and a call resolves that before it tests the
-- history
abbrev pub IsAfterFault : List Mark → Type 0
IsAfterFault S = (e : Entry) × EndsInFault S e

-- the booking has no session, and nothing refuses one with this list
pub record IsUnbooked (b : Tables) (plan : Plan) (H : List Entry) (booking : ℕ)
    (items : List ℕ) : Type 0 where
  pub unrefused : refusal_of b plan H (BeginWithout booking items) ≡ None
  pub no_session : holder H booking ≡ None

-- nothing was added, and the first entry of the request may follow, or the history was not tested;
-- or counts were asked for. A booking with a list has no session: there may have been no memory to
-- look for a form without the items
abbrev pub LacksFirst : Tables → Plan → List Mark → Request → List Entry → Type 0
LacksFirst b plan S (BeginWithout booking items) E =
    (E ≡ []) × (IsAfterFault S ⊎ IsUnbooked b plan (history S) booking items)
LacksFirst b plan S (Look session) E = ⊥
LacksFirst b plan S Exposure E = E ≡ []
LacksFirst b plan S q E =
    (E ≡ []) × (IsAfterFault S ⊎ ((e : Entry) × IsFirst q e × Legal b plan (history S) e))

-- the session waited for an item after the marks F, and still waits for it after S, or the history
-- was not tested
pub record OwesItem (plan : Plan) (F S : List Mark) (session : ℕ) : Type 0 where
  pub step : ℕ
  pub waited : place plan (history F) session ≡ Some (Pending step)
  pub waits : IsAfterFault S ⊎ (place plan (history S) session ≡ Some (Pending step))

-- the session of the request is owed an item, and E has no serving of it
pub record LacksServing (plan : Plan) (F S : List Mark) (q : Request)
    (E : List Entry) : Type 0 where
  pub session : ℕ
  pub is_served : IsServedFor (history F) q session
  pub owes : OwesItem plan F S session
  pub first : List Entry
  pub aside : List Entry
  pub is : E ≡ first ++ aside
  pub one_first : AtMostOne (IsFirst q) first
  pub one_aside : AtMostOne (IsAside session) aside

-- E lacks an entry of the request; F are the marks after its first turn, S all of them
abbrev pub IsUnfinished : Tables → Plan → List Mark → List Mark → Request → List Entry → Type 0
IsUnfinished b plan F S q E = LacksFirst b plan S q E ⊎ LacksServing plan F S q E

-- an entry that a commit for the session may add; one that the request may add
abbrev pub IsCommitted : ℕ → Entry → Type 0
IsCommitted s e = IsAside s e ⊎ IsServing s e

abbrev pub IsWanted : List Entry → Request → Entry → Type 0
IsWanted H q e = IsFirst q e ⊎ ((s : ℕ) × IsServedFor H q s × IsCommitted s e)

-- ---- other callers
-- the marks S after their beginning F have, at a place that isn't one of the call's own entries, an
-- entry that passes P
pub record HasOther (P : Entry → Type 0) (F S : List Mark) (own : List ℕ) : Type 0 where
  pub at : ℕ
  pub mark : Mark
  pub entry : Entry
  pub later : length F ≤ at
  pub there : slice_get S at ≡ Some mark
  pub is : entry_of mark ≡ Some entry
  pub passes : P entry
  pub not_own : Contains own at → own_of mark ≡ None

-- other callers served the session and answered in it
abbrev pub MovedOn : ℕ → List Mark → List Mark → List ℕ → Type 0
MovedOn s F S own = HasOther (IsServing s) F S own × HasOther (IsAnswer s) F S own

-- ---- why a request is not done
-- the first test of the request that fails on the history; nothing was added
pub record IsRefusedBy (b : Tables) (plan : Plan) (q : Request) (S T : List Mark)
    (r : Refusal) : Type 0 where
  pub test : refusal_of b plan (history S) q ≡ Some r
  pub none : owns T ≡ []
  pub no_fault : NoFault T

-- no form without the items of its list is known, so that no session starts for its booking, which
-- has none; nothing was added
pub record IsNotBegunBy (b : Tables) (plan : Plan) (q : Request) (S T : List Mark)
    (r : Refusal) : Type 0 where
  pub booking : ℕ
  pub items : List ℕ
  pub asked : q ≡ BeginWithout booking items
  pub unbooked : IsUnbooked b plan (history S) booking items
  pub lacks : LacksForm b plan (has items) r
  pub none : owns T ≡ []
  pub no_fault : NoFault T

module _ (b : Tables) (plan : Plan) (comes_next : Entry → Type 0) where
  -- the journal would be above its limit with a record of the next entry that may follow
  abbrev pub IsFull : List Mark → ℕ → Type 0
  IsFull S size = (e : Entry) × comes_next e × IsTooLong b plan S e size

  -- the last mark, which this call added, is a fault: of the next entry, which may follow, or of
  -- the entry that was in doubt before it
  pub record EndsInDoubt (S T : List Mark) : Type 0 where
    pub front : List Mark
    pub before : List Mark
    pub entry : Entry
    pub last : S ≡ front ++ Fault entry ∷ []
    pub added : T ≡ before ++ Fault entry ∷ []
    pub cause : EndsInFault front entry ⊎ (comes_next entry × Legal b plan (history front) entry)

  -- why the next entry was not added
  abbrev pub Fails : List Mark → List Mark → Refusal → Type 0
  Fails S T Disk = EndsInDoubt S T
  Fails S T (JournalFull size) = IsFull S size × NoFault T
  Fails S T Memory = NoFault T
  Fails S T r = ⊥
