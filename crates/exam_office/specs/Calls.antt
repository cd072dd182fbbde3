-- One call of an office that may write one entry.
use Rattle.std.specs.Prelude.{◌≡◌, ◌⊎◌, ⊤, ℕ, ◌+◌, ◌<◌, Bool, true, false, List, [], ◌∷◌, ◌++◌, length, Option, Some, None, Result, Ok, Err}
use Rattle.bank_tables.specs.Items.{has}
use Rattle.bank_tables.specs.Tables.{Tables}
use Rattle.form_model.specs.Plan.{Plan}
use Rattle.history_model.specs.declared.entry.Bands.{Bands}
use Rattle.history_model.specs.declared.entry.Entry.{Entry}
use Rattle.history_model.specs.declared.entry.Without.{Without}
use Rattle.history_model.specs.declared.entry.Entry.TheVariants.{Started, Answered, Closed}
use Rattle.history_model.specs.Entries.{holder}
use Rattle.history_model.specs.Judging.{Record, MayFollow}
use Rattle.history_model.specs.Legality.{Legal}
use Rattle.history_model.specs.Lists.{IsFormWithout, LacksForm}
use Rattle.exam_records.specs.Shape.{IsRecord}
use Rattle.exam_records.specs.Spelling.{payload_of}
use Rattle.exam_office.specs.declared.mark.Mark.{Mark}
use Rattle.exam_office.specs.declared.mark.Mark.TheVariants.{Own}
use Rattle.history_model.specs.declared.refusal.Refusal.{Refusal}
use Rattle.history_model.specs.declared.refusal.Refusal.TheVariants.{JournalFull, Disk, Memory}
use Rattle.history_model.specs.declared.request.Request.TheVariants.{Begin, BeginWithout, Answer, Close}
use Rattle.exam_office.specs.Files.{StandsSecond}
use Rattle.exam_office.specs.Marks.{reach, history}
use Rattle.history_model.specs.Refusals.{recorded, refusal_of}
use Rattle.exam_office.specs.Running.{Running}
use Rattle.exam_office.specs.Writing.{IsOneOf, IsMended, IsFaulted, IsUnmended}

-- the result of the tests of a call on the history that it finds: the call is refused, there is
-- nothing to add, or this entry is to be added
pub data Finding : Type 0 where
  refuse : Refusal → Finding
  nothing : Finding
  add : Entry → Finding

-- a file that a crash may leave during a call: it represents the history before, or that with the
-- entry in doubt, or either of them with the entry that the call finds to be added there
pub record IsLeft (b : Tables) (plan : Plan) (finds : List Entry → Finding
    → Type 0) (H : List Entry) (doubt : Option Entry)
    (file : List ℕ) : Type 0 where
  pub so_far : List Entry
  pub is_one_of : IsOneOf H doubt so_far
  pub stands : StandsSecond b plan so_far file ⊎ ((entry : Entry) × finds so_far (add entry)
      × StandsSecond b plan (so_far ++ entry ∷ []) file)

abbrev pub refused_with : {A : Type 0} → Result A Refusal → Option Refusal
refused_with (Ok x) = None
refused_with (Err refusal) = Some refusal

-- an office with these marks, and nothing in doubt
pub record IsAt {D : Type 0} (new : Running D) (marks : List Mark) : Type 0 where
  pub marks_are : new.marks ≡ marks
  pub sure : new.doubt ≡ None

-- the journal would have this length with a record of the entry that can be spelled and may follow
pub record IsTooLong (b : Tables) (plan : Plan) (marks : List Mark) (entry : Entry)
    (size : ℕ) : Type 0 where
  pub last : Record
  pub is_entry : last.entry ≡ entry
  pub spells : IsRecord last
  pub may : MayFollow b plan (history marks) last.entry last.tree
  pub size_is : size ≡ reach marks + 5 + length (payload_of last)
  pub above : plan.journal < size

-- why the entry that was to be added after these marks was not
abbrev pub IsHalted : {D : Type 0} → Running D → Running D → List Mark → Entry → Refusal → Type 0
IsHalted old new marks entry Memory = IsAt new marks
IsHalted old new marks entry (JournalFull size) =
    IsAt new marks × IsTooLong old.bank old.plan marks entry size
IsHalted old new marks entry Disk = IsFaulted old new marks entry
IsHalted old new marks entry refusal = ⊥

-- a call resolves the entry in doubt; then it tests the history that it finds, and adds no entry,
-- or one
pub data Calls {D : Type 0} (finds : List Entry → Finding
    → Type 0) (old new : Running D) : Option Refusal → Type 0 where
  unmended : (refusal : Refusal) → IsUnmended old new refusal → Calls finds old new (Some refusal)
  refused : (marks : List Mark) (refusal : Refusal) → IsMended old.marks old.doubt marks
      → finds (history marks) (refuse refusal)
      → IsAt new marks → Calls finds old new (Some refusal)
  found : (marks : List Mark) → IsMended old.marks old.doubt marks → finds (history marks) nothing
      → IsAt new marks
      → Calls finds old new None
  written : (marks : List Mark) (entry : Entry) (size : ℕ) → IsMended old.marks old.doubt marks
      → finds (history marks) (add entry)
      → IsAt new (marks ++ Own entry size ∷ []) → Calls finds old new None
  unwritten : (marks : List Mark) (entry : Entry) (refusal : Refusal)
      → IsMended old.marks old.doubt marks
      → finds (history marks) (add entry) → IsHalted old new marks entry refusal
      → Calls finds old new (Some refusal)

-- the tests of an answer: it is refused; it is recorded; or it is to be added
abbrev pub FindsAnswer : Tables → Plan → ℕ → ℕ → ℕ → Option ℕ → List Entry → Finding → Type 0
FindsAnswer b plan session step response booking H (refuse refusal) =
    refusal_of b plan H (Answer session step response booking) ≡ Some refusal
FindsAnswer b plan session step response booking H nothing =
    (refusal_of b plan H (Answer session step response booking) ≡ None)
    × (recorded H session step ≡ Some response)
FindsAnswer b plan session step response booking H (add entry) =
    (refusal_of b plan H (Answer session step response booking) ≡ None)
    × (recorded H session step ≡ None)
    × (entry ≡ Answered session step response) × Legal b plan H entry

-- the entry starts a session for a booking, without a list
pub record IsStartFor (booking : ℕ) (entry : Entry) : Type 0 where
  pub session : ℕ
  pub eligible : Bands
  pub is : entry ≡ Started session booking eligible None

-- those of a booking: no more sessions are allowed; it has a session; or one is to be started
abbrev pub FindsStart : Tables → Plan → ℕ → List Entry → Finding → Type 0
FindsStart b plan booking H (refuse refusal) = refusal_of b plan H (Begin booking) ≡ Some refusal
FindsStart b plan booking H nothing = (session : ℕ) × (holder H booking ≡ Some session)
FindsStart b plan booking H (add entry) =
    (refusal_of b plan H (Begin booking) ≡ None) × (holder H booking ≡ None)
    × IsStartFor booking entry × Legal b plan H entry

-- why a session with a list is not started though nothing else refuses it: no form without the
-- items is known, or there was no memory to look for one
abbrev pub LacksWitness : Tables → Plan → List ℕ → Refusal → Type 0
LacksWitness b plan items Memory = ⊤
LacksWitness b plan items refusal = LacksForm b plan (has items) refusal

-- what a search for a form without the items of a list found: such a form, or why none is known
abbrev pub IsWitness : Tables → Plan → List ℕ → Result (List ℕ) Refusal → Type 0
IsWitness b plan items (Ok form) = IsFormWithout b plan (has items) (has form)
IsWitness b plan items (Err refusal) = LacksWitness b plan items refusal

-- the entry starts a session for a booking, with a list of these items and the form that the search
-- for one found
pub record IsStartWithout (booking : ℕ) (items : List ℕ) (witness : Result (List ℕ) Refusal)
    (entry : Entry) : Type 0 where
  pub session : ℕ
  pub eligible : Bands
  pub list : Without
  pub items_are : list.items ≡ items
  pub form_is : witness ≡ Ok list.form
  pub is : entry ≡ Started session booking eligible (Some list)

-- those of a booking with a list, after a search for a form without its items: it is refused, or no
-- such form is known; it has a session with that list; or one is to be started
abbrev pub FindsStartWithout : Tables → Plan → ℕ → List ℕ → Result (List ℕ) Refusal → List Entry
    → Finding → Type 0
FindsStartWithout b plan booking items witness H (refuse refusal) =
    (refusal_of b plan H (BeginWithout booking items) ≡ Some refusal)
    ⊎ ((refusal_of b plan H (BeginWithout booking items) ≡ None) × (holder H booking ≡ None)
    × (witness ≡ Err refusal) × LacksWitness b plan items refusal)
FindsStartWithout b plan booking items witness H nothing =
    (refusal_of b plan H (BeginWithout booking items) ≡ None)
    × ((session : ℕ) × (holder H booking ≡ Some session))
FindsStartWithout b plan booking items witness H (add entry) =
    (refusal_of b plan H (BeginWithout booking items) ≡ None) × (holder H booking ≡ None)
    × IsStartWithout booking items witness entry × Legal b plan H entry

-- those of a closing: it is refused; or it is to be added
abbrev pub FindsClosing : Tables → Plan → ℕ → Option ℕ → List Entry → Finding → Type 0
FindsClosing b plan session booking H (refuse refusal) =
    refusal_of b plan H (Close session booking) ≡ Some refusal
FindsClosing b plan session booking H nothing = ⊥
FindsClosing b plan session booking H (add entry) =
    (refusal_of b plan H (Close session booking) ≡ None) × (entry ≡ Closed session)
    × Legal b plan H entry

-- the answer is recorded, or is to be added
abbrev pub IsAnswerFound : Tables → Plan → List Entry → ℕ → ℕ → ℕ → Option ℕ → Bool → Type 0
IsAnswerFound b plan H session step response booking true =
    FindsAnswer b plan session step response booking H nothing
IsAnswerFound b plan H session step response booking false =
    FindsAnswer b plan session step response booking H (add (Answered session step response))

-- the booking has this session, or an entry is to be added that starts it
abbrev pub IsStartFound : Tables → Plan → List Entry → ℕ → ℕ → Option Entry → Type 0
IsStartFound b plan H booking session None =
    FindsStart b plan booking H nothing × (holder H booking ≡ Some session)
IsStartFound b plan H booking session (Some entry) = FindsStart b plan booking H (add entry)
    × (holder (H ++ entry ∷ []) booking ≡ Some session)

-- the same with a list
abbrev pub IsStartWithoutFound : Tables → Plan → List Entry → ℕ → List ℕ
    → Result (List ℕ) Refusal → ℕ → Option Entry → Type 0
IsStartWithoutFound b plan H booking items witness session None =
    FindsStartWithout b plan booking items witness H nothing × (holder H booking ≡ Some session)
IsStartWithoutFound b plan H booking items witness session (Some entry) =
    FindsStartWithout b plan booking items witness H (add entry)
    × (holder (H ++ entry ∷ []) booking ≡ Some session)

-- whether a call started a session: then its last mark is an entry that is such a start, and else
-- it added no entry of its own
abbrev pub IsFreshlyBy : {D : Type 0} → Running D → Running D → (Entry → Type 0) → Bool → Type 0
IsFreshlyBy old new is_start true =
    (marks : List Mark) × (entry : Entry) × (size : ℕ) × IsMended old.marks old.doubt marks
    × (new.marks ≡ marks ++ Own entry size ∷ [])
    × is_start entry
IsFreshlyBy old new is_start false = IsMended old.marks old.doubt new.marks

-- a session for a booking, without a list
abbrev pub IsFreshly : {D : Type 0} → Running D → Running D → ℕ → Bool → Type 0
IsFreshly old new booking fresh = IsFreshlyBy old new (IsStartFor booking) fresh
