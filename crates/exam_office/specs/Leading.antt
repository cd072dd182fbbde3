-- What the first entry of a request does to an office.
use Rattle.std.specs.Prelude.{◌≡◌, ⊤, ℕ, false, List, Some, Result, Ok, Err, IsTrue, IfOk, IfErr, OnOk}
use Rattle.bank_tables.specs.Items.{has}
use Rattle.bank_tables.specs.Tables.{Tables}
use Rattle.exam_edge.specs.Images.{AllImages, AtEachMoment, latest}
use Rattle.exam_edge.specs.Lent.{IsLent}
use Rattle.form_model.specs.Plan.{Plan}
use Rattle.history_model.specs.declared.entry.Entry.{Entry}
use Rattle.history_model.specs.declared.place.Place.{Place}
use Rattle.history_model.specs.declared.refusal.Refusal.{Refusal}
use Rattle.history_model.specs.declared.refusal.Refusal.TheVariants.{Memory}
use Rattle.history_model.specs.declared.request.Request.{Request}
use Rattle.history_model.specs.declared.request.Request.TheVariants as request
use Rattle.history_model.specs.declared.request.Reply.{Reply}
use Rattle.history_model.specs.declared.request.Reply.TheVariants as reply
use Rattle.history_model.specs.Entries.{holder}
use Rattle.history_model.specs.Lists.{IsListFor}
use Rattle.history_model.specs.Places.{place}
use Rattle.history_model.specs.Refusals.{refusal_of}
use Rattle.history_model.specs.Requests.{IsExposureOf}
use Rattle.answer_journal.specs.Journal.{tells_of, accounts_of, faults_of, identity_of}
use Rattle.exam_office.specs.declared.begun.Begun.{Begun}
use Rattle.exam_office.specs.Asking.{reply_of}
use Rattle.exam_office.specs.Calls.{Finding, Calls, refused_with, IsLeft, IsWitness, FindsAnswer, FindsStart, FindsStartWithout, FindsClosing, IsStartFor, IsStartWithout, IsFreshlyBy}
use Rattle.exam_office.specs.Files.{StandsSecond}
use Rattle.exam_office.specs.Marks.{history}
use Rattle.exam_office.specs.Running.{Running}
use Rattle.exam_office.specs.Writing.{IsSameOffice}

-- what the search for a form without the items of the request's list found; a request that has no
-- list of items of the bank needs none
abbrev pub IsWitnessFor : Tables → Plan → Request → Result (List ℕ) Refusal → Type 0
IsWitnessFor b plan (request.BeginWithout booking items) found =
    IsListFor b (has items) → IsWitness b plan items found
IsWitnessFor b plan q found = ⊤

-- a call with these tests: it adds at most one entry, which lasts if the call is not refused; at
-- each moment each file that a crash may leave is one of the call
pub record IsCall {D A : Type 0} (finds : List Entry → Finding → Type 0) (old new : Running D)
    (result : Result A Refusal) : Type 0 where
  pub same : IsSameOffice old new
  pub call : Calls finds old new (refused_with result)
  pub images : OnOk result (IsTrue (tells_of old.journal)
      → AllImages (StandsSecond old.bank old.plan (history new.marks))
      (latest (accounts_of new.journal)))
  pub moments : IsTrue (tells_of old.journal)
      → AtEachMoment (accounts_of old.journal) (accounts_of new.journal)
      (IsLeft old.bank old.plan finds (history old.marks) old.doubt)
  pub frame : IsLent tells_of identity_of faults_of old.journal new.journal

-- the reply has the place of the session that was begun, or why none was
abbrev pub IsBegunReply : Plan → List Entry → Result Begun Refusal → Reply → Type 0
IsBegunReply plan H (Ok begun) answer = (at : Place) × (place plan H begun.session ≡ Some at)
    × (answer ≡ reply.At begun.session at begun.fresh)
IsBegunReply plan H (Err refusal) answer = answer ≡ reply.Refused refusal

-- a call that finds or starts the session of a booking
pub record IsStart {D : Type 0} (finds : List Entry → Finding → Type 0) (booking : ℕ)
    (is_start : Entry → Type 0) (old new : Running D) (answer : Reply) : Type 0 where
  pub begun : Result Begun Refusal
  pub call : IsCall finds old new begun
  pub session : IfOk begun (λ b. holder (history new.marks) booking ≡ Some b.session)
  pub fresh : IfOk begun (λ b. IsFreshlyBy old new is_start b.fresh)
  pub reply_is : IsBegunReply new.plan (history new.marks) begun answer

-- the place is that of the session
abbrev pub IsPlaceOf : {D : Type 0} → Running D → ℕ → Result Place Refusal → Type 0
IsPlaceOf office session found =
    IfOk found (λ at. place office.plan (history office.marks) session ≡ Some at)

-- a call in a session, whose place after it is the reply
pub record IsCallIn {D : Type 0} (finds : List Entry → Finding → Type 0) (session : ℕ)
    (old new : Running D) (answer : Reply) : Type 0 where
  pub found : Result Place Refusal
  pub call : IsCall finds old new found
  pub at : IsPlaceOf new session found
  pub reply_is : answer ≡ reply_of session false found

-- a look at a session
pub record IsLook {D : Type 0} (session : ℕ) (office : Running D) (answer : Reply) : Type 0 where
  pub found : Result Place Refusal
  pub at : IsPlaceOf office session found
  pub refused : IfErr found (λ refusal. refusal_of office.bank office.plan (history office.marks)
      (request.Look session) ≡ Some refusal)
  pub reply_is : answer ≡ reply_of session false found

-- the reply has the exposure counts, or there was no memory for them
abbrev pub IsCountedReply : {D : Type 0} → Running D → Reply → Type 0
IsCountedReply office (reply.Exposure exposure) =
    IsExposureOf office.bank office.plan (history office.marks) exposure
IsCountedReply office (reply.Refused refusal) = refusal ≡ Memory
IsCountedReply office answer = ⊥

-- what a request does first, by the clauses of its call: its first entry is added where it was not
-- there yet, or it is refused. A session of the reply may still wait for its item
abbrev pub IsLead : {D : Type 0} → Request → Result (List ℕ) Refusal → Running D → Running D
    → Reply → Type 0
IsLead (request.Begin booking) witness old new answer =
    IsStart (FindsStart old.bank old.plan booking) booking (IsStartFor booking) old new answer
IsLead (request.BeginWithout booking items) witness old new answer =
    IsStart (FindsStartWithout old.bank old.plan booking items witness) booking
    (IsStartWithout booking items witness) old new answer
IsLead (request.Answer session step response booking) witness old new answer =
    IsCallIn (FindsAnswer old.bank old.plan session step response booking) session old new answer
IsLead (request.Close session booking) witness old new answer =
    IsCallIn (FindsClosing old.bank old.plan session booking) session old new answer
IsLead (request.Look session) witness old new answer = (new ≡ old) × IsLook session old answer
IsLead request.Exposure witness old new answer = (new ≡ old) × IsCountedReply old answer
