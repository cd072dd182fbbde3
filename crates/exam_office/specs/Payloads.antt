-- The payloads of an office's journal, beside its marks.
use Rattle.std.specs.Prelude.{◌≡◌, ℕ, ◌+◌, ◌<◌, ◌≤◌, List, [], ◌∷◌, ◌++◌, length, map, take, IsTrue}
use Rattle.exam_edge.specs.Faults.{Rose}
use Rattle.history_model.specs.declared.entry.Entry.{Entry}
use Rattle.history_model.specs.declared.refusal.Refusal.{Refusal}
use Rattle.history_model.specs.declared.refusal.Refusal.TheVariants.{Disk, Memory}
use Rattle.history_model.specs.Judging.{Record}
use Rattle.answer_journal.specs.Journal.{JournalState, tells_of, content_of, accounts_of, aside_of, faults_of, length_of, limit_of, version_of, start_of, payloads_of}
use Rattle.answer_journal.specs.Payload.{end_of}
use Rattle.exam_records.specs.Spelling.{payload_of}
use Rattle.exam_office.specs.declared.cursor.Cursor.{Cursor}
use Rattle.exam_office.specs.declared.mark.Mark.{Mark}
use Rattle.exam_office.specs.declared.mark.Mark.TheVariants.{Adopted}
use Rattle.exam_office.specs.Files.{AreRecordsOf}
use Rattle.exam_office.specs.Marks.{history, reach}
use Rattle.exam_office.specs.Running.{Running}
use Rattle.exam_office.specs.Writing.{IsSameOffice}

-- the journal has the payloads of records of the history
pub record HoldsRecords {D : Type 0} (office : Running D) : Type 0 where
  pub records : List Record
  pub are : AreRecordsOf office.bank office.plan 2 (history office.marks) records
  pub holds : IsTrue (tells_of office.journal)
      → payloads_of office.journal ≡ map payload_of records

-- a payload was in doubt after these payloads, with these marks: the marks once it is resolved. It
-- was dropped, or it is the last one now
pub data IsResolved {D : Type 0} (marks : List Mark) (ps : List (List ℕ)) (payload : List ℕ)
    (journal : JournalState D) : List Mark → Type 0 where
  dropped : (IsTrue (tells_of journal) → payloads_of journal ≡ ps)
      → IsResolved marks ps payload journal marks
  kept : (entry : Entry) → (IsTrue (tells_of journal) → payloads_of journal ≡ ps ++ payload ∷ [])
      → IsResolved marks ps payload journal
      (marks ++ Adopted entry (reach marks + 5 + length payload) ∷ [])

-- the place of the gate before the payload of a number, counted from 0
pub record IsPlaceOf (start : ℕ) (ps : List (List ℕ)) (number at : ℕ) : Type 0 where
  pub few : number ≤ length ps
  pub place : at ≡ end_of start (take number ps)

-- a cursor is at one of the journal's gates, that of its number; each record before it has a byte
-- and more
pub record IsCursorOf {D : Type 0} (journal : JournalState D) (cursor : Cursor) : Type 0 where
  pub within : cursor.at < length_of journal
  pub few : cursor.number ≤ cursor.at
  pub place : IsTrue (tells_of journal)
      → IsPlaceOf (start_of journal) (payloads_of journal) cursor.number cursor.at

-- a payload that a record may have
pub record IsPayloadLong (n : ℕ) : Type 0 where
  pub some : 1 ≤ n
  pub few : n ≤ 131072

-- nothing but the disk's count of faults has changed
pub record IsOnlyRead {D : Type 0} (old new : Running D) : Type 0 where
  pub same : IsSameOffice old new
  pub marks : new.marks ≡ old.marks
  pub doubt : new.doubt ≡ old.doubt
  pub content : IsTrue (tells_of old.journal) → content_of new.journal ≡ content_of old.journal
  pub accounts : IsTrue (tells_of old.journal) → accounts_of new.journal ≡ accounts_of old.journal
  pub aside : IsTrue (tells_of old.journal) → aside_of new.journal ≡ aside_of old.journal
  pub length : length_of new.journal ≡ length_of old.journal
  pub limit : limit_of new.journal ≡ limit_of old.journal
  pub version : version_of new.journal ≡ version_of old.journal
  pub start : start_of new.journal ≡ start_of old.journal

-- why no record was read: the disk counted a fault, or memory ran out
abbrev pub IsUnread : {D : Type 0} → Running D → Running D → Refusal → Type 0
IsUnread old new Disk = Rose (faults_of old.journal) (faults_of new.journal)
IsUnread old new Memory = Unit {0}
IsUnread old new refusal = ⊥
