-- Appending a record that another office wrote.
use Rattle.std.specs.Prelude.{◌≡◌, ◌⊎◌, ℕ, ◌<◌, List, [], ◌∷◌, ◌++◌}
use Rattle.bank_tables.specs.Tables.{Tables}
use Rattle.form_model.specs.Plan.{Plan}
use Rattle.history_model.specs.declared.entry.Entry.{Entry}
use Rattle.history_model.specs.declared.illegal.Illegal.{Illegal as Reason}
use Rattle.history_model.specs.declared.refusal.Refusal.{Refusal}
use Rattle.history_model.specs.declared.refusal.Refusal.TheVariants.{JournalFull, Memory as NoMemory, Disk as DiskFailed}
use Rattle.history_model.specs.Judging.{MayFollow, Record}
use Rattle.history_model.specs.Reasons.{IsIllegal}
use Rattle.exam_records.specs.Shape.{IsRecord}
use Rattle.exam_office.specs.declared.appending.Taken.{Taken}
use Rattle.exam_office.specs.declared.appending.Taken.TheVariants.{Illegal, Memory, Full, Disk}
use Rattle.exam_office.specs.declared.mark.Mark.{Mark}
use Rattle.exam_office.specs.declared.mark.Mark.TheVariants.{Own}
use Rattle.exam_office.specs.Calls.{Finding, refuse, nothing, add, IsAt}
use Rattle.exam_office.specs.Marks.{history}
use Rattle.exam_office.specs.Running.{Running}
use Rattle.exam_office.specs.Writing.{IsMended, IsFaulted, IsUnmended, with_record}

-- the record's entry is to be added where the record may follow
abbrev pub FindsRecord : Tables → Plan → Record → List Entry → Finding → Type 0
FindsRecord b plan rec H (refuse refusal) = ⊥
FindsRecord b plan rec H nothing = ⊥
FindsRecord b plan rec H (add entry) =
    (entry ≡ rec.entry) × MayFollow b plan H rec.entry rec.tree

-- the entry in doubt is resolved, these are the marks then, and the record may follow their history
pub record IsNext {D : Type 0} (old : Running D) (rec : Record) (marks : List Mark) : Type 0 where
  pub mended : IsMended old.marks old.doubt marks
  pub may : MayFollow old.bank old.plan (history marks) rec.entry rec.tree

-- the record was appended, and is durable
pub record IsAppended {D : Type 0} (old new : Running D) (rec : Record) : Type 0 where
  pub marks : List Mark
  pub next : IsNext old rec marks
  pub spells : IsRecord rec
  pub at : IsAt new (marks ++ Own rec.entry (with_record marks rec) ∷ [])

-- the record may not follow; the first reason
pub record IsRefusedFor {D : Type 0} (old new : Running D) (rec : Record)
    (reason : Reason) : Type 0 where
  pub marks : List Mark
  pub mended : IsMended old.marks old.doubt marks
  pub illegal : IsIllegal old.bank old.plan (history marks) rec.entry rec.tree reason
  pub at : IsAt new marks

-- the record may follow, and nothing was written
pub record IsPutOff {D : Type 0} (old new : Running D) (rec : Record) : Type 0 where
  pub marks : List Mark
  pub next : IsNext old rec marks
  pub at : IsAt new marks

-- the record may follow; with it the journal would have this length, above its limit
pub record IsAbove {D : Type 0} (old new : Running D) (rec : Record) (size : ℕ) : Type 0 where
  pub put_off : IsPutOff old new rec
  pub spells : IsRecord rec
  pub size_is : size ≡ with_record put_off.marks rec
  pub above : old.plan.journal < size

-- the record may follow; the disk failed, and the record is in doubt
pub record IsLeftInDoubt {D : Type 0} (old new : Running D) (rec : Record) : Type 0 where
  pub marks : List Mark
  pub next : IsNext old rec marks
  pub spells : IsRecord rec
  pub faulted : IsFaulted old new marks rec.entry

-- why a record was not appended. The entry in doubt was resolved before, unless memory or the disk
-- stopped that
abbrev pub IsNotAppended : {D : Type 0} → Running D → Running D → Record → Taken → Type 0
IsNotAppended old new rec (Illegal reason) = IsRefusedFor old new rec reason
IsNotAppended old new rec Memory = IsUnmended old new NoMemory ⊎ IsPutOff old new rec
IsNotAppended old new rec (Full size) = IsAbove old new rec size
IsNotAppended old new rec Disk = IsUnmended old new DiskFailed ⊎ IsLeftInDoubt old new rec

-- a refusal of mending or of writing a record, as the reason why it was not taken
abbrev pub taken_by : Refusal → Taken
taken_by NoMemory = Memory
taken_by (JournalFull size) = Full size
taken_by refusal = Disk
