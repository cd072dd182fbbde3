-- What a call that writes does to an office.
use Rattle.history_model.specs.Judging.{Record}
use Rattle.std.specs.Prelude.{◌≡◌, ◌⊎◌, ℕ, ◌+◌, ◌<◌, ◌^◌, List, [], ◌∷◌, ◌++◌, length, Option, Some, None}
use Rattle.bank_tables.specs.Tables.{Tables}
use Rattle.form_model.specs.Plan.{Plan}
use Rattle.exam_edge.specs.Faults.{Rose}
use Rattle.history_model.specs.declared.entry.Entry.{Entry}
use Rattle.exam_records.specs.Shape.{IsRecord}
use Rattle.exam_records.specs.Spelling.{payload_of}
use Rattle.answer_journal.specs.Journal.{faults_of}
use Rattle.exam_office.specs.declared.mark.Mark.{Mark}
use Rattle.exam_office.specs.declared.mark.Mark.TheVariants.{Adopted, Fault}
use Rattle.history_model.specs.declared.refusal.Refusal.{Refusal}
use Rattle.history_model.specs.declared.refusal.Refusal.TheVariants.{JournalFull, Disk, Memory}
use Rattle.exam_office.specs.Files.{StandsSecond}
use Rattle.exam_office.specs.Marks.{reach}
use Rattle.exam_office.specs.Running.{Running}

-- the histories that an office may go on from while this entry, if any, is in doubt: its own, or
-- its own with that entry
pub data IsOneOf (H : List Entry) : Option Entry → List Entry → Type 0 where
  as_before : (doubt : Option Entry) → IsOneOf H doubt H
  with_doubt : (entry : Entry) → IsOneOf H (Some entry) (H ++ entry ∷ [])

-- a file that a crash may leave while the entry in doubt is kept or dropped; each of its records is
-- of the second version
pub record IsMending (b : Tables) (plan : Plan) (H : List Entry) (doubt : Option Entry)
    (file : List ℕ) : Type 0 where
  pub so_far : List Entry
  pub is_one_of : IsOneOf H doubt so_far
  pub stands : StandsSecond b plan so_far file

-- a file that a crash may leave while an entry is written: it represents the history before, or
-- that with the entry
abbrev pub IsWriting : Tables → Plan → List Entry → Entry → List ℕ → Type 0
IsWriting b plan H entry file =
    StandsSecond b plan H file ⊎ StandsSecond b plan (H ++ entry ∷ []) file

-- the marks once the entry in doubt is kept or dropped
pub data IsMended (marks : List Mark) : Option Entry → List Mark → Type 0 where
  sure : IsMended marks None marks
  dropped : (entry : Entry) → IsMended marks (Some entry) marks
  kept : (entry : Entry) (size : ℕ) → IsMended marks (Some entry) (marks ++ Adopted entry size ∷ [])

-- what no call changes
pub record IsSameOffice {D : Type 0} (old new : Running D) : Type 0 where
  pub bank : new.bank ≡ old.bank
  pub plan : new.plan ≡ old.plan
  pub base : new.base ≡ old.base
  pub opened : new.opened ≡ old.opened

-- the length of the journal with one record more
abbrev pub with_record : List Mark → Record → ℕ
with_record marks rec = reach marks + 5 + length (payload_of rec)

-- the disk failed, and has counted that: this entry is in doubt, and the last mark is its fault
pub record IsFaulted {D : Type 0} (old new : Running D) (marks : List Mark)
    (entry : Entry) : Type 0 where
  pub mark : new.marks ≡ marks ++ Fault entry ∷ []
  pub doubt : new.doubt ≡ Some entry
  pub rose : Rose (faults_of old.journal) (faults_of new.journal)

-- why the entry in doubt was not resolved: there was no room for a mark, and nothing was done; or a
-- fault of the disk. Only a list of 2^64 - 1 marks has no room
abbrev pub IsUnmended : {D : Type 0} → Running D → Running D → Refusal → Type 0
IsUnmended old new Memory =
    (new ≡ old) × (entry : Entry) × (old.doubt ≡ Some entry) × (length old.marks + 1 ≡ 2 ^ 64)
IsUnmended old new Disk =
    (entry : Entry) × (old.doubt ≡ Some entry) × IsFaulted old new old.marks entry
IsUnmended old new refusal = ⊥

-- why a record was not written: out of memory; no room in the journal for a record that can be
-- spelled; or a fault of the disk. Before the first two nothing is done
abbrev pub IsUnwritten : {D : Type 0} → Running D → Running D → Record → Refusal → Type 0
IsUnwritten old new rec Memory = new ≡ old
IsUnwritten old new rec (JournalFull size) =
    (new ≡ old) × (size ≡ with_record old.marks rec) × (old.plan.journal < size)
    × IsRecord rec
IsUnwritten old new rec Disk = IsFaulted old new old.marks rec.entry
IsUnwritten old new rec refusal = ⊥
