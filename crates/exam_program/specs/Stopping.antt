-- How the requests of a replay end, step by step.
use Rattle.std.specs.Prelude.{◌≡◌, ◌⊎◌, ℕ, Bool, IsTrue, List, [], ◌∷◌, Some, None}
use Rattle.bank_tables.specs.Tables.{Tables}
use Rattle.exam_edge.specs.Faults.{Rose}
use Rattle.exam_edge.specs.Images.{AtEachMoment, latest}
use Rattle.form_model.specs.Plan.{Plan}
use Rattle.history_model.specs.declared.entry.Entry.{Entry}
use Rattle.history_model.specs.declared.refusal.Refusal.TheVariants.{SessionsFull}
use Rattle.history_model.specs.declared.request.Reply.{Reply}
use Rattle.history_model.specs.declared.request.Request.{Request}
use Rattle.history_model.specs.Refusals.{refusal_of}
use Rattle.history_model.specs.Requests.{Does}
use Rattle.exam_office.specs.declared.fault.OpenFault.{OpenFault}
use Rattle.exam_office.specs.declared.fault.OpenFault.TheVariants as open_fault
use Rattle.exam_office.specs.Asking.{AreGood, IsDurable}
use Rattle.exam_office.specs.Marks.{history, reach}
use Rattle.exam_office.specs.Running.{Running}
use Rattle.answer_journal.specs.Journal.{tells_of, accounts_of, faults_of}
use Rattle.replay_cli.specs.Replies.{line_of, lines_of}
use Rattle.exam_program.specs.declared.halt.Halt.{Halt}
use Rattle.exam_program.specs.declared.halt.Halt.TheVariants as halt
use Rattle.exam_program.specs.Outside.{DiskSeen, IsUntouched}
use Rattle.exam_program.specs.Replays.{halt_of, IsGoingOn, IsFileOnTheWay, IsUnderWay, IsLeftAt, IsFullAt, IsJournalRefused, IsOpeningFailed}
use Rattle.exam_program.specs.Writing.{IsWritten, WritesPart}

-- why a journal was not opened
pub data IsUnopened (b : Tables) (plan : Plan) (disk : DiskSeen) : Halt → Type 0 where
  refused : (fault : OpenFault) → IsJournalRefused b plan disk fault
      → IsUnopened b plan disk (halt.Journal fault)
  failed : IsOpeningFailed b plan disk → IsUnopened b plan disk halt.Disk
  out_of_memory : IsUntouched disk → IsUnopened b plan disk halt.Memory

-- why a journal that was not opened ends a replay
abbrev pub opening_halt : OpenFault → Halt
opening_halt open_fault.Disk = halt.Disk
opening_halt open_fault.Memory = halt.Memory
opening_halt fault = halt.Journal fault

-- ---- one request
-- a request is done, and its entries are on the disk
pub record IsDone {D : Type 0} (b : Tables) (plan : Plan) (base : List ℕ) (request : Request)
    (old new : Running D) (reply : Reply)
    : Type 0 where
  pub does : Does b plan (history old.marks) request (history new.marks) reply
  pub goes_on : halt_of plan reply ≡ None
  pub good : AreGood b plan base (history old.marks) (history new.marks)
  pub durable : IsDurable b plan new

-- why a line was not printed: no memory for it; or the sink failed, and a part of it is written
abbrev pub IsUnprinted : Bool → List ℕ → List ℕ → List ℕ → Halt → Type 0
IsUnprinted told was now line halt.Memory = IsWritten told was now []
IsUnprinted told was now line halt.Sink = WritesPart told was now line
IsUnprinted told was now line why = ⊥

-- a request is done, and the line of its reply is written
pub record IsAnswered {D : Type 0} (b : Tables) (plan : Plan) (base : List ℕ) (request : Request)
    (old new : Running D)
    (told : Bool) (was now : List ℕ) : Type 0 where
  pub reply : Reply
  pub done : IsDone b plan base request old new reply
  pub written : IsWritten told was now (line_of reply)

-- why a request has no line: it met a limit, or the disk or memory failed; or its line was cut off
pub data IsStopped {D : Type 0} (b : Tables) (plan : Plan) (base : List ℕ) (request : Request)
    (old new : Running D)
    (told : Bool) (was now : List ℕ) : Halt → Type 0 where
  at_sessions : (count : ℕ)
      → refusal_of b plan (history old.marks) request ≡ Some (SessionsFull count)
      → IsWritten told was now []
      → IsStopped b plan base request old new told was now (halt.Sessions count plan.sessions)
  at_journal : (size : ℕ)
      → IsFullAt b plan (history old.marks) request (history new.marks) (reach new.marks) size
      → new.doubt ≡ None
      → IsWritten told was now [] → IsStopped b plan base request old new told was now
      (halt.JournalFull size plan.journal)
  at_disk : Rose (faults_of old.journal) (faults_of new.journal) → IsWritten told was now []
      → IsStopped b plan base request old new told was now halt.Disk
  at_memory : IsWritten told was now []
      → IsStopped b plan base request old new told was now halt.Memory
  at_line : (reply : Reply) → IsDone b plan base request old new reply
      → WritesPart told was now (line_of reply)
      → IsStopped b plan base request old new told was now halt.Sink

-- ---- the requests of a script
-- how a replay ends before its script does: which requests were done, by `Way`; how the file is
-- left at the limit of the journal, by `Left`; and that the disk failed, by `Failed`
pub data Stops (b : Tables) (plan : Plan) (Way : List Entry → List Request → List Reply → Type 0)
    (Left : List Entry → ℕ → Type 0)
    (Failed : Type 0) (told : Bool) (was now : List ℕ) : Halt → Type 0 where
  by_sessions : (G : List Entry) (request : Request) (rest : List Request) (replies : List Reply)
      (count : ℕ) → Way G (request ∷ rest) replies
      → refusal_of b plan G request ≡ Some (SessionsFull count)
      → IsWritten told was now (lines_of replies)
      → Stops b plan Way Left Failed told was now (halt.Sessions count plan.sessions)
  by_journal : (G : List Entry) (request : Request) (rest : List Request) (replies : List Reply)
      (K : List Entry) (reached size : ℕ)
      → Way G (request ∷ rest) replies → IsFullAt b plan G request K reached size → Left K reached
      → IsWritten told was now (lines_of replies)
      → Stops b plan Way Left Failed told was now (halt.JournalFull size plan.journal)
  by_disk : (G : List Entry) (rest : List Request) (replies : List Reply) → Way G rest replies
      → Failed → IsWritten told was now (lines_of replies)
      → Stops b plan Way Left Failed told was now halt.Disk
  by_memory : (G : List Entry) (rest : List Request) (replies : List Reply) → Way G rest replies
      → IsWritten told was now (lines_of replies)
      → Stops b plan Way Left Failed told was now halt.Memory
  by_sink : (G : List Entry) (rest : List Request) (replies : List Reply) → Way G rest replies
      → WritesPart told was now (lines_of replies)
      → Stops b plan Way Left Failed told was now halt.Sink

-- the whole script was done, and the lines of the replies were written
pub record Finishes (Way : List Entry → List Request → List Reply → Type 0) (told : Bool)
    (was now : List ℕ) : Type 0 where
  pub G : List Entry
  pub replies : List Reply
  pub way : Way G [] replies
  pub written : IsWritten told was now (lines_of replies)

-- the requests of a script, from one office to another, and what a crash may leave at each moment
pub record GoesOn {D : Type 0} (b : Tables) (plan : Plan) (base : List ℕ) (script : List Request)
    (old new : Running D) (G : List Entry) (rest : List Request) (replies : List Reply)
    : Type 0 where
  pub going : IsGoingOn b plan base script (tells_of old.journal) (latest (accounts_of new.journal))
      (history old.marks) G rest replies
  pub moments : IsTrue (tells_of old.journal)
      → AtEachMoment (accounts_of old.journal) (accounts_of new.journal)
      (IsFileOnTheWay b plan base script (history old.marks))

-- the office is at this history, with nothing in doubt, and its journal has this length
pub record IsOfficeAt {D : Type 0} (new : Running D) (K : List Entry) (reached : ℕ) : Type 0 where
  pub history_is : history new.marks ≡ K
  pub reach_is : reach new.marks ≡ reached
  pub sure : new.doubt ≡ None

abbrev pub IsServed : {D : Type 0} → Tables → Plan → List ℕ → List Request → Running D → Running D
    → Bool → List ℕ → List ℕ → Type 0
IsServed b plan base script old new told was now =
    Finishes (GoesOn b plan base script old new) told was now

abbrev pub IsUnserved : {D : Type 0} → Tables → Plan → List ℕ → List Request → Running D → Running D
    → Bool → List ℕ → List ℕ → Halt → Type 0
IsUnserved b plan base script old new told was now why =
    Stops b plan (GoesOn b plan base script old new) (IsOfficeAt new)
    (Rose (faults_of old.journal) (faults_of new.journal)) told was now why

-- ---- a replay over a disk
pub record IsReplayed (b : Tables) (plan : Plan) (base : List ℕ) (disk : DiskSeen)
    (script : List Request) (G : List Entry)
    (rest : List Request) (replies : List Reply) : Type 0 where
  pub H : List Entry
  pub under_way : IsUnderWay b plan base disk script H G rest replies

-- why a replay ends before its script does
abbrev pub Halted : Tables → Plan → List ℕ → DiskSeen → List Request → Bool → List ℕ → List ℕ → Halt
    → Type 0
Halted b plan base disk script told was now why =
    (IsUnopened b plan disk why × IsWritten told was now [])
    ⊎ Stops b plan (IsReplayed b plan base disk script) (IsLeftAt b plan disk)
    (Rose disk.before disk.after) told was now why
