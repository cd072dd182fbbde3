-- The records of an office that is shipped from.
use Rattle.std.specs.Prelude.{if◌then◌else◌, ℕ, List, map}
use Rattle.answer_journal.specs.Journal.{tells_of, identity_of, faults_of, payloads_of}
use Rattle.exam_edge.specs.Lent.{IsLent}
use Rattle.exam_office.specs.declared.cursor.Cursor.{Cursor}
use Rattle.exam_office.specs.Marks.{history}
use Rattle.exam_office.specs.Payloads.{IsOnlyRead}
use Rattle.exam_office.specs.Running.{Running}
use Rattle.history_model.specs.declared.refusal.Refusal.{Refusal}
use Rattle.history_model.specs.declared.refusal.Refusal.TheVariants.{Disk}
use Rattle.record_links.specs.declared.record_log.LogFault.{LogFault}
use Rattle.record_links.specs.declared.record_log.LogFault.TheVariants as fault
use Rattle.exam_follower.specs.Followers.{bare}

-- the payloads in the journal of an office. Of a disk that does not report its content only the
-- entries are known
abbrev pub shipped_of : {D : Type 0} → Running D → List (List ℕ)
shipped_of office =
    if tells_of office.journal then payloads_of office.journal else map bare (history office.marks)

-- nothing but the disk's count of faults has changed, and it is the same disk
pub record IsReadOnly {D : Type 0} (old new : Running D) : Type 0 where
  pub read : IsOnlyRead old new
  pub frame : IsLent tells_of identity_of faults_of old.journal new.journal

-- an office that is shipped from, and the place of the record that is read next
pub record LogState (D : Type 0) : Type 0 where
  pub office : Running D
  pub cursor : Cursor

-- the fault of a log that a refusal to read a record is
abbrev pub log_fault : Refusal → LogFault
log_fault Disk = fault.Disk
log_fault refusal = fault.Memory
