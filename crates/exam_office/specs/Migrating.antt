-- How a journal of the first version is moved to the second.
use Rattle.std.specs.Prelude.{◌≡◌, ◌⊎◌, ◌==◌, if◌then◌else◌, ℕ, ◌+◌, ◌<◌, Bool, List, [], ◌∷◌, ◌++◌, length, map, Some}
use Rattle.bank_tables.specs.Tables.{Tables}
use Rattle.form_model.specs.Plan.{Plan}
use Rattle.exam_edge.specs.Images.{Account, IsSettled}
use Rattle.history_model.specs.declared.entry.Entry.{Entry}
use Rattle.history_model.specs.Judging.{Record, MayFollow, entries_of}
use Rattle.exam_records.specs.Spelling.{payload_of}
use Rattle.answer_journal.specs.Frames.{shadowj1, frames, front}
use Rattle.answer_journal.specs.Moving.{IsMovingWith}
use Rattle.answer_journal.specs.Payload.{end_of}
use Rattle.answer_journal.specs.Opening.{tail_gates}
use Rattle.answer_journal.specs.Versions.{mark, contents, counted_in}
use Rattle.exam_office.specs.declared.fault.OpenFault.{OpenFault}
use Rattle.exam_office.specs.declared.fault.OpenFault.TheVariants.{Disk as OfDisk, Memory as OfMemory}
use Rattle.exam_office.specs.declared.migrating.Moved.{Moved}
use Rattle.exam_office.specs.declared.migrating.MigrateFault.{MigrateFault}
use Rattle.exam_office.specs.declared.migrating.MigrateFault.TheVariants.{Open, Full, Disk, Memory}
use Rattle.exam_records.specs.Shape.{HasNoList, IsRecord}
use Rattle.exam_office.specs.Files.{payload_in, counted_of, AreRecordsOf, StandsSecond}
use Rattle.exam_office.specs.Opening.{AreTaken, IsReadAnswer}

-- a file represents a history by records of the first version: a journal that was not moved
pub record IsOldFile (b : Tables) (plan : Plan) (file : List ℕ) : Type 0 where
  pub H : List Entry
  pub records : List Record
  pub are : AreRecordsOf b plan 1 H records
  pub holds : contents file ≡ Some (counted_of b plan 1 records)

-- the file of these records of the first version once it is moved: they are followed by the mark,
-- the same records by the second version, and a closed gate
abbrev pub moved_file : Tables → Plan → List Record → List ℕ
moved_file b plan R =
    front shadowj1 (map (payload_in b plan 1) R ++ mark ∷ map payload_of R) ++ 0 ∷ []

-- a file of the first version was moved, and a crash leaves nothing else
pub record IsMoved (b : Tables) (plan : Plan) (before after : List ℕ) (accounts : List Account)
    (done : Moved) : Type 0 where
  pub old : IsOldFile b plan before
  pub is : after ≡ moved_file b plan old.records
  pub settled : IsSettled after accounts
  pub records : done.records ≡ length old.records

-- a file had its records by the second version already, and is as it was
pub record IsLeft (b : Tables) (plan : Plan) (before after : List ℕ) (done : Moved) : Type 0 where
  pub H : List Entry
  pub stands : StandsSecond b plan H before
  pub same : after ≡ before
  pub none : done.records ≡ 0

-- what a migration did to a file, with the number of records that it wrote, and the length of the
-- file now
abbrev pub IsMigrated : Tables → Plan → (before after : List ℕ) → List Account → Moved → Type 0
IsMigrated b plan before after accounts done =
    (IsMoved b plan before after accounts done ⊎ IsLeft b plan before after done)
    × (done.length ≡ length after)

-- a file of the first version would have this length once it is moved, above the limit of the
-- journal
pub record IsTooLongMoved (b : Tables) (plan : Plan) (file : List ℕ) (size : ℕ) : Type 0 where
  pub old : IsOldFile b plan file
  pub size_is : size ≡ length (moved_file b plan old.records)
  pub above : plan.journal < size

-- what is wrong with a file of either version: its frames, or the first record that is refused
abbrev pub IsFaultOf : Tables → Plan → List ℕ → OpenFault → Type 0
IsFaultOf b plan file OfDisk = ⊥
IsFaultOf b plan file OfMemory = ⊥
IsFaultOf b plan file fault = IsReadAnswer b plan file fault

-- why a migration was not done: something is wrong with the file, it would be too long, the disk
-- failed, or memory ran out
abbrev pub IsMigrateAnswer : Tables → Plan → List ℕ → MigrateFault → Type 0
IsMigrateAnswer b plan file (Open fault) = IsFaultOf b plan file fault
IsMigrateAnswer b plan file (Full size) = IsTooLongMoved b plan file size
IsMigrateAnswer b plan file Disk = Unit {0}
IsMigrateAnswer b plan file Memory = Unit {0}

-- why a file that represents a history was not migrated: the disk failed, memory ran out, or the
-- file is of the first version and would be too long
abbrev pub IsRefusedMove : Tables → Plan → List Entry → List ℕ → MigrateFault → Type 0
IsRefusedMove b plan H file (Open fault) = ⊥
IsRefusedMove b plan H file (Full size) =
    (long : IsTooLongMoved b plan file size) × (long.old.H ≡ H)
IsRefusedMove b plan H file Disk = Unit {0}
IsRefusedMove b plan H file Memory = Unit {0}

-- the fault is of the file's content alone, and nothing was written
abbrev pub IsOfContent : MigrateFault → Type 0
IsOfContent (Open fault) = Unit {0}
IsOfContent (Full size) = Unit {0}
IsOfContent Disk = ⊥
IsOfContent Memory = ⊥

-- the fault of a migration for one of opening
abbrev pub migrate_fault : OpenFault → MigrateFault
migrate_fault OfDisk = Disk
migrate_fault OfMemory = Memory
migrate_fault fault = Open fault

-- a fault of opening is none of the disk and of memory
abbrev pub IsOpenOfFile : MigrateFault → Type 0
IsOpenOfFile e = (fault : OpenFault) → e ≡ Open fault → migrate_fault fault ≡ Open fault

-- the gates whose tails a migration puts aside: the first closed one, where anything follows it in
-- a file of the first version
abbrev pub moved_tail : List ℕ → List ℕ
moved_tail file = if (counted_in file).version == 1 then tail_gates file else []

-- ---- record by record
-- a payload of the first version spells a record that may follow a history; these are the entries
-- with it, and its payload by the second version
pub record IsTakenOver (b : Tables) (plan : Plan) (H : List Entry) (payload : List ℕ)
    (now : List Entry)
    (second : List ℕ) : Type 0 where
  pub last : Record
  pub spells : IsRecord last
  pub unlisted : HasNoList last.entry
  pub spelling : payload_in b plan 1 last ≡ payload
  pub may : MayFollow b plan H last.entry last.tree
  pub entries : now ≡ H ++ last.entry ∷ []
  pub second_is : second ≡ payload_of last

-- so many payloads of a file are taken, and by the second version the frames of their records have
-- so many bytes
pub record AreMeasured (b : Tables) (plan : Plan) (start : ℕ) (tells : Bool) (file : List ℕ)
    (given at : ℕ)
    (H : List Entry) (total : ℕ) : Type 0 where
  pub taken : AreTaken b plan 1 start tells file given at H
  pub total_is : total ≡ length (frames (map payload_of taken.records))

-- of the records of a journal that is moved the first ones were added by the second version, and
-- the last of them may wait to be written; these are their entries, and the next record of the
-- first version is after the gate at this place
pub record IsMovedUpTo (b : Tables) (plan : Plan) (R done : List Record)
    (content waiting : List ℕ) (accounts : List Account)
    (gate end : ℕ) (entries : List Entry) (at : ℕ) : Type 0 where
  pub H : List Entry
  pub are : AreRecordsOf b plan 1 H R
  pub rest : List Record
  pub all : R ≡ done ++ rest
  pub moving : IsMovingWith (map (payload_in b plan 1) R) (map payload_of done) content waiting
      accounts gate end
  pub entries_are : entries ≡ entries_of done
  pub place : at ≡ end_of 8 (map (payload_in b plan 1) done)
