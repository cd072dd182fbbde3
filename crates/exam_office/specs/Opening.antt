-- How an office is opened.
use Rattle.std.specs.Prelude.{◌≡◌, ◌≢◌, ℕ, ◌==◌, if◌then◌else◌, Bool, IsTrue, List, ◌∷◌, ◌++◌, map, None, Some, Result, Ok, Err}
use Rattle.bank_tables.specs.Tables.{Tables}
use Rattle.form_model.specs.Plan.{Plan}
use Rattle.history_model.specs.declared.entry.Entry.{Entry}
use Rattle.history_model.specs.declared.illegal.Illegal.{Illegal}
use Rattle.history_model.specs.declared.illegal.Illegal.TheVariants.{Tree, NotSpent}
use Rattle.history_model.specs.Judging.{Record, MayFollow}
use Rattle.history_model.specs.Lifting.{IsLifted}
use Rattle.history_model.specs.Reasons.{IsIllegal}
use Rattle.exam_records.specs.Reading.{record_of, old_record_of}
use Rattle.answer_journal.specs.OpenFault.{fault_in}
use Rattle.answer_journal.specs.declared.open_fault.OpenFault.{OpenFault as JournalFault}
use Rattle.answer_journal.specs.declared.open_fault.OpenFault.TheVariants.{Disk as OfDisk, Version as OfVersion, Memory as OfMemory}
use Rattle.answer_journal.specs.Payload.{end_of}
use Rattle.answer_journal.specs.Versions.{contents, counted_in}
use Rattle.answer_journal.specs.Walk.{first_gate, first_payloads}
use Rattle.exam_records.specs.declared.fault.RecordFault.{RecordFault}
use Rattle.exam_office.specs.declared.fault.OpenFault.{OpenFault}
use Rattle.exam_office.specs.declared.fault.OpenFault.TheVariants.{Journal, Version, BadRecord, BadTree, Illegal as NotLegal, Disk, Memory}
use Rattle.exam_records.specs.Shape.{HasNoList, IsRecord}
use Rattle.exam_office.specs.Files.{payload_in, AreRecordsOf}

-- the fault of a record that may not follow: of its tree, or of its entry
abbrev pub fault_of : ℕ → Illegal → OpenFault
fault_of at (Tree verdict) = BadTree at
fault_of at (NotSpent nodes) = BadTree at
fault_of at reason = NotLegal at reason

-- the record of a payload by its version
abbrev pub record_in : (version : ℕ) → List ℕ → Result Record RecordFault
record_in version payload = if version == 1 then old_record_of payload else record_of payload

-- the payload spells a record of this entry, which may follow the history
pub record IsTaken (b : Tables) (plan : Plan) (version : ℕ) (H : List Entry) (payload : List ℕ)
    (entry : Entry) : Type 0 where
  pub last : Record
  pub is_entry : last.entry ≡ entry
  pub spells : IsRecord last
  pub unlisted : version ≡ 1 → HasNoList last.entry
  pub spelling : payload_in b plan version last ≡ payload
  pub may : MayFollow b plan H last.entry last.tree

-- the payload is read by its version, and what the first version leaves out is added after the
-- history: this is the record then
pub record IsReadAs (b : Tables) (plan : Plan) (version : ℕ) (H : List Entry) (payload : List ℕ)
    (last : Record) : Type 0 where
  pub read : Record
  pub reads : record_in version payload ≡ Ok read
  pub lifted : version ≡ 1 → IsLifted b plan H read.entry last.entry
  pub same : version ≢ 1 → last.entry ≡ read.entry
  pub tree : last.tree ≡ read.tree
  pub spells : IsRecord last
  pub unlisted : version ≡ 1 → HasNoList last.entry
  pub spelling : payload_in b plan version last ≡ payload

-- the payload spells a record that may not follow; the first reason
pub record IsRefusedFor (b : Tables) (plan : Plan) (version : ℕ) (H : List Entry) (at : ℕ)
    (payload : List ℕ) (fault : OpenFault) : Type 0 where
  pub last : Record
  pub reads : IsReadAs b plan version H payload last
  pub reason : Illegal
  pub illegal : IsIllegal b plan H last.entry last.tree reason
  pub is : fault ≡ fault_of at reason

-- the record may not follow; the first reason, or out of memory
pub record IsUnlawful (b : Tables) (plan : Plan) (H : List Entry) (at : ℕ) (last : Record)
    (fault : OpenFault) : Type 0 where
  pub reason : Illegal
  pub illegal : IsIllegal b plan H last.entry last.tree reason
  pub is : fault ≡ fault_of at reason

abbrev pub IsNotFollowing : Tables → Plan → List Entry → ℕ → Record → OpenFault → Type 0
IsNotFollowing b plan H at last (BadTree place) = IsUnlawful b plan H at last (BadTree place)
IsNotFollowing b plan H at last (NotLegal place reason) =
    IsUnlawful b plan H at last (NotLegal place reason)
IsNotFollowing b plan H at last Memory = Unit {0}
IsNotFollowing b plan H at last fault = ⊥

abbrev pub IsNotTaken : Tables → Plan → (version : ℕ) → List Entry → ℕ → List ℕ → OpenFault → Type 0
IsNotTaken b plan version H at payload (BadRecord place fault) =
    (place ≡ at) × (record_in version payload ≡ Err fault)
IsNotTaken b plan version H at payload (BadTree place) =
    IsRefusedFor b plan version H at payload (BadTree place)
IsNotTaken b plan version H at payload (NotLegal place reason) =
    IsRefusedFor b plan version H at payload (NotLegal place reason)
IsNotTaken b plan version H at payload Memory = Unit {0}
IsNotTaken b plan version H at payload fault = ⊥

-- so many payloads of a file spell the records of a history by their version, and this is the place
-- after them; the first is after the gate at `start`. Of a disk that reports nothing only the
-- history is known
pub record AreTaken (b : Tables) (plan : Plan) (version start : ℕ) (tells : Bool) (file : List ℕ)
    (given at : ℕ) (H : List Entry) : Type 0 where
  pub records : List Record
  pub are : AreRecordsOf b plan version H records
  pub bytes : IsTrue tells → map (payload_in b plan version) records ≡ first_payloads given file
  pub place : IsTrue tells → at ≡ end_of start (map (payload_in b plan version) records)

-- the fault of a file that is no journal
abbrev pub journal_fault : JournalFault → OpenFault
journal_fault OfDisk = Disk
journal_fault OfVersion = Version
journal_fault OfMemory = Memory
journal_fault fault = Journal fault

-- the payloads of a file spell the records of a history, and one after them isn't taken; its place
-- is the one after them
pub record IsRefusedFile (b : Tables) (plan : Plan) (file : List ℕ)
    (fault : OpenFault) : Type 0 where
  pub H : List Entry
  pub records : List Record
  pub version : ℕ
  pub are : AreRecordsOf b plan version H records
  pub first : List ℕ
  pub rest : List (List ℕ)
  pub gives : contents file ≡ Some (record {
    version = version;
    payloads = map (payload_in b plan version) records ++ first ∷ rest;
  })
  pub refused : IsNotTaken b plan version H (end_of (first_gate file)
      (map (payload_in b plan version) records)) first fault

-- what reading the history of a file may answer, of either version: out of memory, a fault of the
-- disk, the first thing that is wrong with its frames, or the first record that is refused
abbrev pub IsReadAnswer : Tables → Plan → List ℕ → OpenFault → Type 0
IsReadAnswer b plan file Disk = Unit {0}
IsReadAnswer b plan file Memory = Unit {0}
IsReadAnswer b plan file (Journal fault) = fault_in plan.journal file ≡ Some fault
IsReadAnswer b plan file Version = ⊥
IsReadAnswer b plan file fault = IsRefusedFile b plan file fault

-- nothing is wrong with the frames of the file, and its records are of the first version
pub record IsOfFirstVersion (plan : Plan) (file : List ℕ) : Type 0 where
  pub sound : fault_in plan.journal file ≡ None
  pub first : (counted_in file).version ≡ 1

-- records of the second version are refused
pub record IsRefusedAsSecond (b : Tables) (plan : Plan) (file : List ℕ)
    (fault : OpenFault) : Type 0 where
  pub second : (counted_in file).version ≡ 2
  pub refused : IsRefusedFile b plan file fault

-- what opening a file may answer: the same of a file whose records are of the second version; a
-- file with records of the first is refused for its version, unless its frames are wrong
abbrev pub IsOpenAnswer : Tables → Plan → List ℕ → OpenFault → Type 0
IsOpenAnswer b plan file Disk = Unit {0}
IsOpenAnswer b plan file Memory = Unit {0}
IsOpenAnswer b plan file (Journal fault) = fault_in plan.journal file ≡ Some fault
IsOpenAnswer b plan file Version = IsOfFirstVersion plan file
IsOpenAnswer b plan file fault = IsRefusedAsSecond b plan file fault
