-- What the definitions imply, as the public laws state it.
use Rattle.std.specs.Prelude.{◌≡◌, ℕ, ◌⊎◌, ◌<◌, ◌≤◌, IsTrue, IsFalse, List, ◌∷◌, Option, Some, Ok, length}
use Rattle.hex.specs.Hex.{decode_of, encode_lower}
use Rattle.bank_tables.specs.Items.{has}
use Rattle.bank_tables.specs.Tables.{Tables}
use Rattle.exam_edge.specs.Faults.{Rose}
use Rattle.exam_edge.specs.Images.{AtEachMoment}
use Rattle.form_model.specs.Forms.{Meets}
use Rattle.serving_model.specs.Seats.{is_shown}
use Rattle.history_model.specs.declared.entry.Entry.{Entry}
use Rattle.history_model.specs.declared.place.Place.TheVariants.{Complete}
use Rattle.history_model.specs.declared.refusal.Refusal.TheVariants.{SessionsFull}
use Rattle.history_model.specs.declared.request.Reply.{Reply}
use Rattle.history_model.specs.declared.request.Request.{Request}
use Rattle.history_model.specs.declared.entry.Without.{Without}
use Rattle.history_model.specs.Entries.{list_of, seat_of}
use Rattle.history_model.specs.Places.{place}
use Rattle.history_model.specs.Refusals.{refusal_of}
use Rattle.exam_office.specs.Files.{Stands, StandsSecond}
use Rattle.exam_office.specs.Migrating.{IsTooLongMoved}
use Rattle.exam_office.specs.Noting.{NotedMark}
use Rattle.form_model.specs.Plan.{Plan}
use Rattle.certificate_model.specs.ProofTrees.{ProofTree}
use Rattle.proof_tree.specs.Shape.{IsTree}
use Rattle.proof_tree.specs.Spelling.{bytes_of}
use Rattle.proof_tree.specs.Reading.{read}
use Rattle.command_line.specs.Commands.{Check, Assemble, Replay, Serve, Audit, Drill, Migrate, Series, Follow, Ship, command_of}
use Rattle.command_line.specs.Weights.{weights_of}
use Rattle.form_lines.specs.Answers.{AreWeightsFor}
use Rattle.exam_program.specs.Halts.{IsPlanIn, Reads, IsScriptIn}
use Rattle.exam_program.specs.Outcomes.{IsReplayOf, Outcome}
use Rattle.exam_program.specs.Outside.{Outside, DiskSeen, IsHistoryKept, KeepsHistory, WasSettled}
use Rattle.exam_program.specs.Replays.{IsFileOnTheWay, IsUnderWay, IsFullAt, IsLeftAt}
use Rattle.exam_program.specs.Serves.{IsExamined}
use Rattle.exam_program.specs.Texts.{tree_text}

-- ---- a printed tree is read again

-- the bytes that the printed digits write are read as the tree, to their end
pub record IsReadBack (T : ProofTree) : Type 0 where
  pub digits : decode_of (encode_lower (bytes_of T)) ≡ Ok (bytes_of T)
  pub tree : read (bytes_of T) ≡ Ok (T, length (bytes_of T))

abbrev pub PrintedTreeIsReadBack : Type 0
PrintedTreeIsReadBack = (T : ProofTree) → IsTree T → IsReadBack T

-- so the text of a tree is that of no other
abbrev pub OneTreeOfText : Type 0
OneTreeOfText = (T U : ProofTree) → IsTree T → IsTree U → tree_text T ≡ tree_text U → T ≡ U

-- ---- a plan text describes one plan
abbrev pub OnePlanOfText : Type 0
OnePlanOfText =
    (b : Tables) (text : List ℕ) (p q : Plan) → IsPlanIn b text p → IsPlanIn b text q → p ≡ q

-- ---- completeness: where the texts are accepted and no fault of the files was counted

-- check does its work, or memory ran out
abbrev pub CheckIsComplete : Type 0
CheckIsComplete =
    (words : List (List ℕ)) (o : Outside) (bank plan : List ℕ) (b : Tables) (p : Plan) (status : ℕ)
    (text : List ℕ)
    → command_of words ≡ Some (Check bank plan)
    → Reads o.named o.content bank plan b p
    → (Rose o.files_before o.files_after → ⊥)
    → Outcome words o status text
    → (status ≡ 0) ⊎ (status ≡ 10)

-- and so does assemble, where the plan has a base
abbrev pub AssembleIsComplete : Type 0
AssembleIsComplete =
    (words : List (List ℕ)) (o : Outside) (bank plan base : List ℕ) (b : Tables) (p : Plan)
    (status : ℕ) (text : List ℕ)
    → command_of words ≡ Some (Assemble bank plan)
    → Reads o.named o.content bank plan b p
    → p.base ≡ Some base
    → (Rose o.files_before o.files_after → ⊥)
    → Outcome words o status text
    → (status ≡ 0) ⊎ (status ≡ 10)

-- the next request of a replay meets a limit of the plan: that of the sessions, or, with an entry
-- of the request after the file that is left, that of the journal
pub data MeetsLimit (words : List (List ℕ)) (o : Outside) : Type 0 where
  of_sessions : (b : Tables) (p : Plan) (script : List Request) (base : List ℕ) (H G : List Entry)
      (request : Request) (rest : List Request) (replies : List Reply) (count : ℕ)
      → IsReplayOf words o b p script base
      → IsUnderWay b p base o.disk script H G (request ∷ rest) replies
      → refusal_of b p G request ≡ Some (SessionsFull count) → MeetsLimit words o
  of_journal : (b : Tables) (p : Plan) (script : List Request) (base : List ℕ) (H G : List Entry)
      (request : Request) (rest : List Request) (replies : List Reply) (K : List Entry)
      (now size : ℕ) → IsReplayOf words o b p script base
      → IsUnderWay b p base o.disk script H G (request ∷ rest) replies
      → IsFullAt b p G request K now size → IsLeftAt b p o.disk K now → MeetsLimit words o

-- and so does replay, where the plan has a base, the script is one, the file represents a history
-- by records of the second version within the journal's limit, no limit of the plan is met and no
-- fault of the disk was counted. A file that represents a history and is no unmoved journal of the
-- first version does so by records of the second
abbrev pub ReplayIsComplete : Type 0
ReplayIsComplete =
    (words : List (List ℕ)) (o : Outside) (bank plan name base : List ℕ) (b : Tables) (p : Plan)
    (script : List Request) (H : List Entry) (status : ℕ) (text : List ℕ)
    → command_of words ≡ Some (Replay bank plan name)
    → Reads o.named o.content bank plan b p
    → p.base ≡ Some base
    → IsScriptIn (o.content name) script
    → IsTrue o.disk.told
    → StandsSecond b p H o.disk.found
    → length o.disk.found ≤ p.journal
    → (MeetsLimit words o → ⊥)
    → (Rose o.files_before o.files_after → ⊥)
    → (Rose o.disk.before o.disk.after → ⊥)
    → Outcome words o status text
    → (status ≡ 0) ⊎ (status ≡ 10)

-- serve, where the plan has a base, the file represents a history by records of the second version
-- within the journal's limit and no fault of the disk was counted, serves connections, or memory
-- ran out: if none was served, it ends with 10
abbrev pub ServeIsComplete : Type 0
ServeIsComplete =
    (words : List (List ℕ)) (o : Outside) (bank plan base : List ℕ) (ahead : Option ℕ)
    (b : Tables) (p : Plan) (H : List Entry) (status : ℕ) (text : List ℕ)
    → command_of words ≡ Some (Serve bank plan ahead)
    → Reads o.named o.content bank plan b p
    → p.base ≡ Some base
    → IsTrue o.disk.told
    → StandsSecond b p H o.disk.found
    → length o.disk.found ≤ p.journal
    → (Rose o.files_before o.files_after → ⊥)
    → (Rose o.disk.before o.disk.after → ⊥)
    → Outcome words o status text
    → status ≡ 10

-- the same of follow and of ship: if the journal was not opened, it ends with 10
abbrev pub FollowIsComplete : Type 0
FollowIsComplete =
    (words : List (List ℕ)) (o : Outside) (bank plan base : List ℕ) (b : Tables) (p : Plan)
    (H : List Entry) (status : ℕ) (text : List ℕ)
    → command_of words ≡ Some (Follow bank plan)
    → Reads o.named o.content bank plan b p
    → p.base ≡ Some base
    → IsTrue o.disk.told
    → StandsSecond b p H o.disk.found
    → length o.disk.found ≤ p.journal
    → (Rose o.files_before o.files_after → ⊥)
    → (Rose o.disk.before o.disk.after → ⊥)
    → Outcome words o status text
    → status ≡ 10

abbrev pub ShipIsComplete : Type 0
ShipIsComplete =
    (words : List (List ℕ)) (o : Outside) (bank plan base : List ℕ) (b : Tables) (p : Plan)
    (H : List Entry) (status : ℕ) (text : List ℕ)
    → command_of words ≡ Some (Ship bank plan)
    → Reads o.named o.content bank plan b p
    → p.base ≡ Some base
    → IsTrue o.disk.told
    → StandsSecond b p H o.disk.found
    → length o.disk.found ≤ p.journal
    → (Rose o.files_before o.files_after → ⊥)
    → (Rose o.disk.before o.disk.after → ⊥)
    → Outcome words o status text
    → status ≡ 10

-- and so does audit, where the file represents a history within the journal's limit, by records of
-- either version, and no fault of the disk was counted
abbrev pub AuditIsComplete : Type 0
AuditIsComplete =
    (words : List (List ℕ)) (o : Outside) (bank plan : List ℕ) (b : Tables) (p : Plan)
    (H : List Entry) (status : ℕ) (text : List ℕ)
    → command_of words ≡ Some (Audit bank plan)
    → Reads o.named o.content bank plan b p
    → IsTrue o.disk.told
    → Stands b p H o.disk.found
    → length o.disk.found ≤ p.journal
    → (Rose o.files_before o.files_after → ⊥)
    → (Rose o.disk.before o.disk.after → ⊥)
    → Outcome words o status text
    → (status ≡ 0) ⊎ (status ≡ 10)

-- and so does migrate, where besides the file is within the limit once it is moved
abbrev pub MigrateIsComplete : Type 0
MigrateIsComplete =
    (words : List (List ℕ)) (o : Outside) (bank plan : List ℕ) (b : Tables) (p : Plan)
    (H : List Entry) (status : ℕ) (text : List ℕ)
    → command_of words ≡ Some (Migrate bank plan)
    → Reads o.named o.content bank plan b p
    → IsTrue o.disk.told
    → Stands b p H o.disk.found
    → length o.disk.found ≤ p.journal
    → ((size : ℕ) → IsTooLongMoved b p o.disk.found size → ⊥)
    → (Rose o.files_before o.files_after → ⊥)
    → (Rose o.disk.before o.disk.after → ⊥)
    → Outcome words o status text
    → (status ≡ 0) ⊎ (status ≡ 10)

-- series, where the weights are the grid's, prints a series or shows that there is none, or has
-- spent the base budget with none found, or memory ran out
abbrev pub SeriesIsComplete : Type 0
SeriesIsComplete =
    (words : List (List ℕ)) (o : Outside) (bank plan : List ℕ) (forms : ℕ) (word : List ℕ)
    (b : Tables) (p : Plan) (status : ℕ) (text : List ℕ)
    → command_of words ≡ Some (Series bank plan forms word)
    → Reads o.named o.content bank plan b p
    → AreWeightsFor b (weights_of word)
    → (Rose o.files_before o.files_after → ⊥)
    → Outcome words o status text
    → (status ≡ 0) ⊎ ((status ≡ 17) ⊎ ((status ≡ 18) ⊎ (status ≡ 10)))

-- a drill does its work, or memory ran out: its journal has room for each of its records
abbrev pub DrillIsComplete : Type 0
DrillIsComplete =
    (words : List (List ℕ)) (o : Outside) (number sessions status : ℕ) (text : List ℕ)
    → command_of words ≡ Some (Drill number sessions)
    → Outcome words o status text
    → (status ≡ 0) ⊎ (status ≡ 10)

-- ---- a disk that was settled
-- a file that keeps its history represents it, and so does each file that a crash may leave
abbrev pub SettledHistoryIsKept : Type 0
SettledHistoryIsKept =
    (b : Tables) (plan : Plan) (disk : DiskSeen) (H : List Entry)
    → IsTrue disk.told
    → WasSettled disk
    → Stands b plan H disk.found
    → KeepsHistory b plan disk
    → IsHistoryKept b plan disk H

-- at each moment of a replay, also while its journal is opened, each file that a crash may leave
-- represents a history on the way of the script
abbrev pub SettledReplayIsOnTheWay : Type 0
SettledReplayIsOnTheWay =
    (b : Tables) (plan : Plan) (base : List ℕ) (disk : DiskSeen) (script : List Request)
    (H G : List Entry) (rest : List Request) (replies : List Reply)
    → IsTrue disk.told
    → WasSettled disk
    → IsUnderWay b plan base disk script H G rest replies
    → AtEachMoment disk.moments_before disk.moments (IsFileOnTheWay b plan base script H)

-- ---- what a replay leaves
-- the items shown in each complete session meet the plan
abbrev pub CompleteSessionsMeet : Type 0
CompleteSessionsMeet =
    (b : Tables) (plan : Plan) (base : List ℕ) (disk : DiskSeen) (script : List Request)
    (H G : List Entry) (rest : List Request) (replies : List Reply) (s : ℕ)
    → 0 < plan.length
    → IsUnderWay b plan base disk script H G rest replies
    → place plan G s ≡ Some Complete
    → Meets b plan (is_shown (seat_of G s))

-- and so do those that a server leaves
abbrev pub CompleteServedSessionsMeet : Type 0
CompleteServedSessionsMeet =
    (b : Tables) (plan : Plan) (base : List ℕ) (disk : DiskSeen) (opened closed : List NotedMark)
    (H : List Entry) (s : ℕ)
    → 0 < plan.length
    → IsExamined b plan base disk opened closed H
    → place plan H s ≡ Some Complete
    → Meets b plan (is_shown (seat_of H s))

-- no item of the list with which a session was started is shown in it: of a replay, and of a server
abbrev pub ListsAreKept : Type 0
ListsAreKept =
    (b : Tables) (plan : Plan) (base : List ℕ) (disk : DiskSeen) (script : List Request)
    (H G : List Entry) (rest : List Request) (replies : List Reply) (s item : ℕ) (list : Without)
    → IsUnderWay b plan base disk script H G rest replies
    → list_of G s ≡ Some list → IsTrue (has list.items item)
    → IsFalse (is_shown (seat_of G s) item)

abbrev pub ServedListsAreKept : Type 0
ServedListsAreKept =
    (b : Tables) (plan : Plan) (base : List ℕ) (disk : DiskSeen) (opened closed : List NotedMark)
    (H : List Entry) (s item : ℕ) (list : Without)
    → IsExamined b plan base disk opened closed H
    → list_of H s ≡ Some list → IsTrue (has list.items item)
    → IsFalse (is_shown (seat_of H s) item)
