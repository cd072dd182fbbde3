-- What the definitions imply, as the public laws state it.
use Rattle.std.specs.Prelude.{◌≡◌, ◌⊎◌, ⊤, ℕ, ◌≤◌, List, length, None}
use Rattle.bank_tables.specs.Tables.{Tables}
use Rattle.form_model.specs.Plan.{Plan}
use Rattle.history_model.specs.declared.entry.Entry.{Entry}
use Rattle.history_model.specs.Legality.{LegalRun}
use Rattle.constraint_model.specs.Views.{problem_of}
use Rattle.history_model.specs.SessionProblems.{IsProblemOf}
use Rattle.branch_bound.specs.Assembled.{Assembly}
use Rattle.exam_edge.specs.Faults.{Rose}
use Rattle.exam_edge.specs.Images.{Account, AtEachMoment, latest, IsSettled as IsDiskSettled}
use Rattle.history_model.specs.declared.refusal.Refusal.{Refusal}
use Rattle.history_model.specs.declared.refusal.Refusal.TheVariants.{Memory as OutOfMemory}
use Rattle.history_model.specs.declared.request.Request.{Request}
use Rattle.history_model.specs.declared.request.Request.TheVariants.{BeginWithout}
use Rattle.history_model.specs.Lists.{LacksForm}
use Rattle.bank_tables.specs.Items.{has}
use Rattle.history_model.specs.declared.request.Reply.{Reply}
use Rattle.history_model.specs.declared.request.Reply.TheVariants.{At, Refused}
use Rattle.history_model.specs.Halting.{IsNextOf}
use Rattle.history_model.specs.Refusals.{refusal_of}
use Rattle.answer_journal.specs.Journal.{faults_of}
use Rattle.exam_office.specs.Asking.{IsTooLongWith, IsSettled, IsAsked}
use Rattle.exam_office.specs.Commits.{IsOfStart, MayBeCommitted}
use Rattle.exam_office.specs.declared.fault.OpenFault.{OpenFault}
use Rattle.exam_office.specs.declared.fault.OpenFault.TheVariants.{Disk, Memory}
use Rattle.exam_office.specs.declared.mark.Mark.{Mark}
use Rattle.exam_office.specs.Files.{Stands, StandsSecond}
use Rattle.exam_office.specs.declared.migrating.MigrateFault.{MigrateFault}
use Rattle.exam_office.specs.Marks.{history}
use Rattle.exam_office.specs.Migrating.{IsMigrateAnswer, IsRefusedMove}
use Rattle.exam_office.specs.Moments.{AreMoments, AreOnTheWay, AreOpeningMoments}
use Rattle.exam_office.specs.Opening.{IsOpenAnswer, IsReadAnswer}
use Rattle.exam_office.specs.Running.{Running}

-- a file represents at most one history, and that is a legal run
abbrev pub OneHistory : Type 0
OneHistory = (b : Tables) (plan : Plan) (H G : List Entry) (file : List ℕ) → Stands b plan H file
    → Stands b plan G file → H ≡ G

abbrev pub StandsForLegalRun : Type 0
StandsForLegalRun = (b : Tables) (plan : Plan) (H : List Entry) (file : List ℕ)
    → Stands b plan H file → LegalRun b plan H

-- a file within the limit that represents a history by records of the second version is refused
-- only if memory runs out, or by a fault of the disk
abbrev pub StandingIsOpened : Type 0
StandingIsOpened = (b : Tables) (plan : Plan) (H : List Entry) (file : List ℕ) (fault : OpenFault)
    (stands : Stands b plan H file)
    → stands.version ≡ 2 → length file ≤ plan.journal → IsOpenAnswer b plan file fault
    → (fault ≡ Disk) ⊎ (fault ≡ Memory)

-- of a file of either version within the limit that represents a history, the history is read,
-- unless memory runs out or the disk fails
abbrev pub StandingIsRead : Type 0
StandingIsRead = (b : Tables) (plan : Plan) (H : List Entry) (file : List ℕ) (fault : OpenFault)
    → Stands b plan H file
    → length file ≤ plan.journal → IsReadAnswer b plan file fault → (fault ≡ Disk)
    ⊎ (fault ≡ Memory)

-- at each moment since an office was opened, each file that a crash may leave represents the
-- history of the office's marks at some moment, or that with the one entry in doubt then. While it
-- was opened, such a file represents the history that was found, or is one that a crash might have
-- left before
abbrev pub EachMomentStands : Type 0
EachMomentStands =
    (b : Tables) (plan : Plan) (before : List Account) (marks : List Mark) (now : List Account)
    → AreMoments b plan before marks now → AreOnTheWay b plan before marks now

-- of a disk that was settled when it was handed in, with a file that represents the history found,
-- each such file represents the history found while the office was opened, too
abbrev pub SettledMomentStands : Type 0
SettledMomentStands =
    (b : Tables) (plan : Plan) (H : List Entry) (file : List ℕ) (before now : List Account)
    → IsDiskSettled file before → StandsSecond b plan H file
    → AreOpeningMoments b plan H (latest before) before now
    → AtEachMoment before now (StandsSecond b plan H)

-- what was assembled within the plan's budget for a session that waits for its item may be
-- committed
abbrev pub MayBeCommittedNow : Type 0
MayBeCommittedNow =
    (b : Tables) (plan : Plan) (base : List ℕ) (H : List Entry) (session : ℕ) (a : Assembly)
    → IsProblemOf b plan H session (problem_of a.problem).step (problem_of a.problem)
    → a.budget ≡ plan.budget → IsOfStart (problem_of a.problem) base a.outcome
    → MayBeCommitted b plan base H a

-- why a request that isn't refused by the tests has no other answer: out of memory; or no form
-- without the items of its list is known
abbrev pub LacksForList : Tables → Plan → Refusal → Request → Type 0
LacksForList b plan refusal (BeginWithout booking items) = LacksForm b plan (has items) refusal
LacksForList b plan refusal request = ⊥

abbrev pub IsWant : Tables → Plan → Request → Refusal → Type 0
IsWant b plan request OutOfMemory = ⊤
IsWant b plan request refusal = LacksForList b plan refusal request

-- a reply of a request that wasn't stopped: where its session is, which doesn't wait for an item;
-- the counts; or such a want
abbrev pub IsAnswered : Tables → Plan → Request → Reply → Type 0
IsAnswered b plan request (At session place fresh) = IsSettled place
IsAnswered b plan request (Refused refusal) = IsWant b plan request refusal
IsAnswered b plan request answer = ⊤

-- a request that isn't refused is answered, unless the disk counts a fault or the next record is
-- above the journal's limit
abbrev pub AskedIsAnswered : Type 0 → Type 0
AskedIsAnswered D = (old new : Running D) (request : Request) (answer : Reply)
    (asked : IsAsked old request answer new)
    → refusal_of old.bank old.plan asked.from request ≡ None
    → (Rose (faults_of old.journal) (faults_of new.journal) → ⊥)
    → ((size : ℕ) → IsTooLongWith old.bank old.plan (history new.marks)
    (IsNextOf old.bank old.plan asked.from request (history new.marks)) new size → ⊥)
    → IsAnswered old.bank old.plan request answer

-- a file within the limit that represents a history is not migrated only if memory runs out, by a
-- fault of the disk, or because the file would be too long once its records of the history are
-- moved
abbrev pub MigrateIsComplete : Type 0
MigrateIsComplete = (b : Tables) (plan : Plan) (H : List Entry) (file : List ℕ)
    (fault : MigrateFault) → Stands b plan H file
    → length file ≤ plan.journal → IsMigrateAnswer b plan file fault
    → IsRefusedMove b plan H file fault
