-- What a request does to an office of one thread.
use Rattle.std.specs.Prelude.{◌≡◌, ◌⊎◌, ⊤, ℕ, ◌+◌, ◌<◌, ◌≤◌, Bool, List, [], ◌∷◌, ◌++◌, length, IsTrue, Option, Some, None, Result, Ok, Err}
use Rattle.bank_tables.specs.Items.{Set, has}
use Rattle.bank_tables.specs.Tables.{Tables}
use Rattle.exam_edge.specs.Faults.{Rose}
use Rattle.exam_edge.specs.Images.{AllImages, AtEachMoment, latest}
use Rattle.exam_edge.specs.Lent.{IsLent}
use Rattle.form_model.specs.Plan.{Plan}
use Rattle.form_model.specs.Problem.{Problem}
use Rattle.form_model.specs.Forms.{Form, objective}
use Rattle.history_model.specs.declared.entry.Cause.{Cause}
use Rattle.history_model.specs.declared.entry.Cause.TheVariants.{NoForm, Spent}
use Rattle.history_model.specs.declared.entry.Entry.{Entry}
use Rattle.history_model.specs.declared.entry.Entry.TheVariants.{SetAside, Served}
use Rattle.history_model.specs.declared.place.Place.{Place}
use Rattle.history_model.specs.declared.place.Place.TheVariants.{Pending}
use Rattle.history_model.specs.declared.refusal.Refusal.{Refusal}
use Rattle.history_model.specs.declared.refusal.Refusal.TheVariants.{JournalFull, Disk, Memory}
use Rattle.history_model.specs.declared.request.Request.{Request}
use Rattle.history_model.specs.declared.request.Reply.{Reply}
use Rattle.history_model.specs.declared.request.Reply.TheVariants.{At, Refused}
use Rattle.history_model.specs.Halting.{IsCutOff, IsNextOf}
use Rattle.history_model.specs.Judging.{Record, MayFollow}
use Rattle.history_model.specs.Refusals.{refusal_of}
use Rattle.history_model.specs.Requests.{Does}
use Rattle.history_model.specs.SessionProblems.{IsProblemOf}
use Rattle.exam_records.specs.Shape.{IsRecord}
use Rattle.exam_records.specs.Spelling.{payload_of}
use Rattle.answer_journal.specs.Journal.{tells_of, accounts_of, faults_of, identity_of}
use Rattle.exam_office.specs.Files.{StandsSecond}
use Rattle.exam_handler.specs.Handling.{IsRefusal}
use Rattle.exam_office.specs.Marks.{history, reach}
use Rattle.exam_office.specs.Running.{Running}
use Rattle.exam_office.specs.Writing.{IsOneOf, IsSameOffice, IsUnmended}

-- ---- how a request halts
-- the journal would be above its limit with a record that can be spelled and may follow, of an
-- entry that comes next; nothing is in doubt
pub record IsTooLongWith {D : Type 0} (b : Tables) (plan : Plan) (H : List Entry)
    (comes_next : Entry → Type 0) (new : Running D)
    (size : ℕ) : Type 0 where
  pub last : Record
  pub next : comes_next last.entry
  pub spells : IsRecord last
  pub may : MayFollow b plan H last.entry last.tree
  pub size_is : size ≡ reach new.marks + 5 + length (payload_of last)
  pub above : plan.journal < size
  pub sure : new.doubt ≡ None

-- why the entry that comes next was not added: out of memory; the disk's count of faults rose; or
-- the journal's limit. Only the disk puts an entry in doubt
abbrev pub IsStoppedBy : {D : Type 0} → Tables → Plan → List Entry → (Entry → Type 0) → Running D
    → Running D → Refusal → Type 0
IsStoppedBy b plan H comes_next old new Memory = old.doubt ≡ None → new.doubt ≡ None
IsStoppedBy b plan H comes_next old new Disk = Rose (faults_of old.journal) (faults_of new.journal)
IsStoppedBy b plan H comes_next old new (JournalFull size) =
    IsTooLongWith b plan H comes_next new size
IsStoppedBy b plan H comes_next old new refusal = ⊥

-- a request from the history H halts, after a beginning of its entries. It is not one that is
-- refused, unless the entry in doubt was not resolved: then nothing was tested
pub record Halts {D : Type 0} (b : Tables) (plan : Plan) (H : List Entry) (request : Request)
    (old new : Running D) (answer : Reply) : Type 0 where
  pub cut_off : IsCutOff b plan H request (history new.marks)
  pub why : Refusal
  pub because : IsStoppedBy b plan (history new.marks) (IsNextOf b plan H request
      (history new.marks)) old new why
  pub reply : answer ≡ Refused why
  pub not_refused : IsUnmended old new why ⊎ (refusal_of b plan H request ≡ None)

-- ---- the base and the form before
-- the form is no worse than these items, if they are a form
abbrev pub IsNoLessThan : Problem → Set → Set → Type 0
IsNoLessThan P X form = Form P X → objective P X ≤ objective P form

-- an item is served from a form no worse than the base and the form last served from, or before
-- the first item that of the list
pub record IsGoodServing (b : Tables) (plan : Plan) (base : List ℕ) (H : List Entry)
    (session step : ℕ) (form : List ℕ) : Type 0 where
  pub problem : Problem
  pub is_problem : IsProblemOf b plan H session step problem
  pub base_is : IsNoLessThan problem (has base) (has form)
  pub start : (X : Set) → problem.start ≡ Some X → IsNoLessThan problem X (has form)

-- eligibility is set aside with the budget spent only if the base is no form, nor the form last
-- served from, or before the first item that of the list
pub record IsGoodAside (b : Tables) (plan : Plan) (base : List ℕ) (H : List Entry)
    (session step : ℕ) : Type 0 where
  pub problem : Problem
  pub is_problem : IsProblemOf b plan H session step problem
  pub no_base : Form problem (has base) → ⊥
  pub no_start : (X : Set) → problem.start ≡ Some X → Form problem X → ⊥

abbrev pub IsGoodCause : Tables → Plan → List ℕ → List Entry → ℕ → ℕ → Cause → Type 0
IsGoodCause b plan base H session step NoForm = ⊤
IsGoodCause b plan base H session step Spent = IsGoodAside b plan base H session step

abbrev pub IsGood : Tables → Plan → List ℕ → List Entry → Entry → Type 0
IsGood b plan base H (Served session step item form proved nodes) =
    IsGoodServing b plan base H session step form
IsGood b plan base H (SetAside session step band cause nodes) =
    IsGoodCause b plan base H session step cause
IsGood b plan base H entry = ⊤

-- good entries lead from a history to another
pub data AreGood (b : Tables) (plan : Plan) (base : List ℕ) (H : List Entry) : List Entry
    → Type 0 where
  no_more : AreGood b plan base H H
  one_more : (G : List Entry) (entry : Entry) → AreGood b plan base H G → IsGood b plan base G entry
      → AreGood b plan base H (G ++ entry ∷ [])

-- ---- what a crash leaves
-- nothing is in doubt, and each file that a crash may leave now represents the history, by records
-- of the second version
pub record IsDurable {D : Type 0} (b : Tables) (plan : Plan) (office : Running D) : Type 0 where
  pub sure : office.doubt ≡ None
  pub images : IsTrue (tells_of office.journal)
      → AllImages (StandsSecond b plan (history office.marks)) (latest (accounts_of office.journal))

-- the file represents one of these histories
pub record StandsForOne (b : Tables) (plan : Plan) (histories : List Entry
    → Type 0) (file : List ℕ) : Type 0 where
  pub so_far : List Entry
  pub is_one : histories so_far
  pub stands : StandsSecond b plan so_far file

-- the office is the same; its disk is the same object with no fewer faults; at each moment each
-- file that a crash may leave represents one of these histories
pub record Steps {D : Type 0} (histories : List Entry → Type 0) (old new : Running D) : Type 0 where
  pub same : IsSameOffice old new
  pub frame : IsLent tells_of identity_of faults_of old.journal new.journal
  pub moments : IsTrue (tells_of old.journal)
      → AtEachMoment (accounts_of old.journal) (accounts_of new.journal)
      (StandsForOne old.bank old.plan histories)

-- the history H with the first entries of a request, which are good: none of them, some, or all
pub data IsBegunBy (b : Tables) (plan : Plan) (base : List ℕ) (H : List Entry)
    (request : Request) : List Entry → Type 0 where
  not_begun : IsBegunBy b plan base H request H
  begun : (G : List Entry) (entry : Entry) → IsNextOf b plan H request G entry
      → AreGood b plan base H (G ++ entry ∷ [])
      → IsBegunBy b plan base H request (G ++ entry ∷ [])

-- the histories on the way of a request, while this entry is in doubt
pub record IsOnTheWay (b : Tables) (plan : Plan) (base : List ℕ) (H : List Entry)
    (doubt : Option Entry) (request : Request)
    (G : List Entry) : Type 0 where
  pub from : List Entry
  pub is_one_of : IsOneOf H doubt from
  pub begun : IsBegunBy b plan base from request G

-- ---- the reply
-- the session doesn't wait for an item
abbrev pub IsSettled : Place → Type 0
IsSettled (Pending step) = ⊥
IsSettled place = ⊤

-- never Pending, never Stale, and the place of IsClosed is an end
abbrev pub IsSettledReply : Reply → Type 0
IsSettledReply (At session place fresh) = IsSettled place
IsSettledReply (Refused refusal) = IsRefusal refusal
IsSettledReply answer = ⊤

-- ---- the whole
-- from this history on the request is done, and what it adds lasts; or it halts
pub data Becomes {D : Type 0} (b : Tables) (plan : Plan) (from : List Entry) (request : Request)
    (old new : Running D) (answer : Reply) : Type 0 where
  done : Does b plan from request (history new.marks) answer → IsDurable b plan new
      → Becomes b plan from request old new answer
  halted : Halts b plan from request old new answer → Becomes b plan from request old new answer

-- nothing is in doubt; or the list of marks was full, so the entry in doubt was not resolved, and
-- nothing was done
abbrev pub IsMendedOrFull : {D : Type 0} → Running D → Running D → Type 0
IsMendedOrFull old new = (new.doubt ≡ None) ⊎ IsUnmended old new Memory

-- what a request does to an office: from its history, or that with the entry in doubt, it is done
-- or halts; what it adds is good. To resolve the entry in doubt takes no memory: it is answered out
-- of memory only with nothing in doubt, or if the list of marks was full. At each moment each file
-- that a crash may leave represents one of these histories with some of its entries
pub record IsAsked {D : Type 0} (old : Running D) (request : Request) (answer : Reply)
    (new : Running D) : Type 0 where
  pub from : List Entry
  pub is_one_of : IsOneOf (history old.marks) old.doubt from
  pub becomes : Becomes old.bank old.plan from request old new answer
  pub good : AreGood old.bank old.plan old.base from (history new.marks)
  pub settled : IsSettledReply answer
  pub mended : answer ≡ Refused Memory → IsMendedOrFull old new
  pub steps : Steps (IsOnTheWay old.bank old.plan old.base (history old.marks) old.doubt request)
      old new

-- the same of an office with nothing in doubt
pub record IsAskedSurely {D : Type 0} (old : Running D) (request : Request) (answer : Reply)
    (new : Running D) : Type 0 where
  pub becomes : Becomes old.bank old.plan (history old.marks) request old new answer
  pub good : AreGood old.bank old.plan old.base (history old.marks) (history new.marks)
  pub settled : IsSettledReply answer
  pub steps : Steps (IsBegunBy old.bank old.plan old.base (history old.marks) request) old new

-- the reply of a place or a refusal
abbrev pub reply_of : ℕ → Bool → Result Place Refusal → Reply
reply_of session fresh (Ok place) = At session place fresh
reply_of session fresh (Err refusal) = Refused refusal
