-- What a replay does: the requests of its script one after another, each reply printed after the
-- request's entries are on the disk.
use Rattle.std.specs.Prelude.{◌≡◌, ℕ, ◌+◌, ◌<◌, ⊤, Bool, IsTrue, List, [], ◌∷◌, ◌++◌, length, Option, Some, None}
use Rattle.bank_tables.specs.Tables.{Tables}
use Rattle.exam_edge.specs.Faults.{Rose}
use Rattle.exam_edge.specs.Images.{Account, AllImages, AtEachMoment}
use Rattle.form_model.specs.Plan.{Plan}
use Rattle.history_model.specs.declared.entry.Entry.{Entry}
use Rattle.history_model.specs.declared.refusal.Refusal.TheVariants.{SessionsFull, JournalFull, Disk as DiskFault, Memory as NoMemory}
use Rattle.history_model.specs.declared.request.Reply.{Reply}
use Rattle.history_model.specs.declared.request.Reply.TheVariants.{Refused}
use Rattle.history_model.specs.declared.request.Request.{Request}
use Rattle.history_model.specs.Halting.{IsCutOff, IsNextOf}
use Rattle.history_model.specs.Judging.{Record, MayFollow}
use Rattle.history_model.specs.Legality.{LegalRun}
use Rattle.history_model.specs.Requests.{Does}
use Rattle.exam_office.specs.declared.fault.OpenFault.{OpenFault}
use Rattle.exam_office.specs.declared.fault.OpenFault.TheVariants as open_fault
use Rattle.exam_office.specs.Asking.{AreGood, IsBegunBy, StandsForOne}
use Rattle.exam_office.specs.Files.{StandsSecond}
use Rattle.exam_office.specs.Moments.{AreOpeningMoments}
use Rattle.exam_office.specs.Opening.{IsOpenAnswer, IsReadAnswer}
use Rattle.exam_records.specs.Shape.{IsRecord}
use Rattle.exam_records.specs.Spelling.{payload_of}
use Rattle.exam_program.specs.declared.halt.Halt.{Halt}
use Rattle.exam_program.specs.declared.halt.Halt.TheVariants as halt
use Rattle.exam_program.specs.Outside.{DiskSeen, IsUntouched, KeepsHistory}

-- why a replay ends at a reply, if it does: a limit of the plan, a fault of the disk, or memory
abbrev pub halt_of : Plan → Reply → Option Halt
halt_of plan (Refused (SessionsFull count)) = Some (halt.Sessions count plan.sessions)
halt_of plan (Refused (JournalFull size)) = Some (halt.JournalFull size plan.journal)
halt_of plan (Refused DiskFault) = Some halt.Disk
halt_of plan (Refused NoMemory) = Some halt.Memory
halt_of plan reply = None

-- ---- requests that are done
-- requests lead from the history H to G, one after another, with these replies; at none of them the
-- replay ends
pub data AreDone (b : Tables) (plan : Plan) (H : List Entry) : List Request → List Entry
    → List Reply → Type 0 where
  none : AreDone b plan H [] H []
  one_more : (done : List Request) (G : List Entry) (replies : List Reply) (request : Request)
      (K : List Entry) (reply : Reply)
      → AreDone b plan H done G replies → Does b plan G request K reply → halt_of plan reply ≡ None
      → AreDone b plan H (done ++ request ∷ []) K (replies ++ reply ∷ [])

-- the history G, or, where a request is left, G with the first entries of the next, which are good:
-- none of them, some, or all
abbrev pub MayBegin : Tables → Plan → List ℕ → List Entry → List Request → List Entry → Type 0
MayBegin b plan base G [] K = K ≡ G
MayBegin b plan base G (request ∷ rest) K = IsBegunBy b plan base G request K

-- the file represents such a history
abbrev pub IsFileOf : Tables → Plan → List ℕ → List Entry → List Request → List ℕ → Type 0
IsFileOf b plan base G rest file = StandsForOne b plan (MayBegin b plan base G rest) file

-- the first requests of a script were done, from the history H to G, and these are left; what they
-- added is good; and each file that a crash may leave has what they added
pub record IsGoingOn (b : Tables) (plan : Plan) (base : List ℕ) (script : List Request)
    (told : Bool) (images : Account) (H G : List Entry)
    (rest : List Request) (replies : List Reply) : Type 0 where
  pub done : List Request
  pub whole : script ≡ done ++ rest
  pub are_done : AreDone b plan H done G replies
  pub good : AreGood b plan base H G
  pub each : IsTrue told → AllImages (IsFileOf b plan base G rest) images

-- a history on the way of a script from H: its first requests are done, and then the first entries
-- of the next one: none of them, some, or all
pub record IsReached (b : Tables) (plan : Plan) (base : List ℕ) (script : List Request)
    (H K : List Entry) : Type 0 where
  pub done : List Request
  pub rest : List Request
  pub G : List Entry
  pub replies : List Reply
  pub whole : script ≡ done ++ rest
  pub are_done : AreDone b plan H done G replies
  pub good : AreGood b plan base H G
  pub begins : MayBegin b plan base G rest K

-- the file represents such a history
abbrev pub IsFileOnTheWay : Tables → Plan → List ℕ → List Request → List Entry → List ℕ → Type 0
IsFileOnTheWay b plan base script H file = StandsForOne b plan (IsReached b plan base script H) file

-- the moments of a replay, from the last of those before it. While the journal was opened, each
-- file that a crash may leave represents the history that was found, or is one that a crash might
-- have left before. From then on it represents a history on the way of the script
pub record AreMomentsOfReplay (b : Tables) (plan : Plan) (base : List ℕ) (disk : DiskSeen)
    (script : List Request) (H : List Entry) : Type 0 where
  pub opened : List Account
  pub opening : AreOpeningMoments b plan H disk.images_before disk.moments_before opened
  pub requests : AtEachMoment opened disk.moments (IsFileOnTheWay b plan base script H)

-- a replay over a disk: the file that was found represents H by records of the second version, and
-- the one that is left has what the requests added; so it is at each moment
pub record IsUnderWay (b : Tables) (plan : Plan) (base : List ℕ) (disk : DiskSeen)
    (script : List Request) (H G : List Entry)
    (rest : List Request) (replies : List Reply) : Type 0 where
  pub legal : LegalRun b plan H
  pub found : IsTrue disk.told → StandsSecond b plan H disk.found
  pub left : IsTrue disk.told → IsFileOf b plan base G rest disk.left
  pub going_on : IsGoingOn b plan base script disk.told disk.images H G rest replies
  pub moments : IsTrue disk.told → AreMomentsOfReplay b plan base disk script H

-- ---- the limit of the journal
-- the file represents this history by records of the second version, and has this length
pub record IsLeftAt (b : Tables) (plan : Plan) (disk : DiskSeen) (K : List Entry)
    (now : ℕ) : Type 0 where
  pub stands : IsTrue disk.told → StandsSecond b plan K disk.left
  pub length_is : IsTrue disk.told → now ≡ length disk.left

-- the next request was cut off at the history K: with a record that may follow, of the request's
-- next entry, the journal, of this length now, would be above its limit
pub record IsFullAt (b : Tables) (plan : Plan) (G : List Entry) (request : Request) (K : List Entry)
    (now size : ℕ) : Type 0 where
  pub cut_off : IsCutOff b plan G request K
  pub last : Record
  pub next : IsNextOf b plan G request K last.entry
  pub spells : IsRecord last
  pub may : MayFollow b plan K last.entry last.tree
  pub size_is : size ≡ now + 5 + length (payload_of last)
  pub above : plan.journal < size

-- ---- a journal that is refused
-- a fault of the file itself
abbrev pub IsOfFile : OpenFault → Type 0
IsOfFile open_fault.Disk = ⊥
IsOfFile open_fault.Memory = ⊥
IsOfFile fault = ⊤

-- the file represents no history of the bank and the plan, or is too long, or it is of the first
-- version and was not moved; it is as it was found
pub record IsJournalRefused (b : Tables) (plan : Plan) (disk : DiskSeen)
    (fault : OpenFault) : Type 0 where
  pub of_file : IsOfFile fault
  pub answer : IsTrue disk.told → IsOpenAnswer b plan disk.found fault
  pub untouched : IsUntouched disk

-- the same of an audit and a migration, which take either version
pub record IsReadingRefused (b : Tables) (plan : Plan) (disk : DiskSeen)
    (fault : OpenFault) : Type 0 where
  pub of_file : IsOfFile fault
  pub answer : IsTrue disk.told → IsReadAnswer b plan disk.found fault
  pub untouched : IsUntouched disk

-- ---- a disk that failed while the journal was opened
-- its count of faults rose, and the file keeps its history
pub record IsOpeningFailed (b : Tables) (plan : Plan) (disk : DiskSeen) : Type 0 where
  pub rose : Rose disk.before disk.after
  pub keeps : KeepsHistory b plan disk
