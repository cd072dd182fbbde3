-- An office that isn't opened.
use Rattle.std.proofs.Common.{◌≡◌, ℕ, ◌≤◌, Bool, true, false, nat_lt, nat_le, if◌then◌else◌, List, length, drop, Some, None, refl, ◌∙◌, arith}
use Rattle.bank_tables.specs.Tables.{Tables}
use Rattle.form_model.specs.Plan.{Plan}
use Rattle.exam_edge.specs.Faults.{Rose}
use Rattle.exam_edge.specs.Lent.{IsLent}
use Rattle.answer_journal.specs.Frames.{FileHeader, Scan, Whole, BadLength, CutOff, scan, begins}
use Rattle.answer_journal.specs.OpenFault.{IsWalkAnswer, scan_fault, frames_fault, first_fault}
use Rattle.answer_journal.specs.Versions.{header, version_of}
use Rattle.answer_journal.specs.declared.open_fault.OpenFault.{OpenFault as JournalFault}
use Rattle.answer_journal.specs.declared.open_fault.OpenFault.TheVariants.{Disk as OfDisk, TooLong, Header, Length, Cut, Version as OfVersion, Memory as OfMemory}
use Rattle.exam_office.specs.declared.fault.OpenFault.TheVariants.{Disk}
use Rattle.exam_office.specs.Opening.{journal_fault, IsOpenAnswer}

-- the frames of no file are of a version
not_version_by : (s : Scan) → scan_fault s ≡ Some OfVersion → ⊥
not_version_by (Whole ps) is = absurd (cc)
not_version_by (BadLength at) is = absurd (cc)
not_version_by (CutOff at) is = absurd (cc)

not_version : (h : FileHeader) (limit : ℕ) (file : List ℕ) → first_fault h limit file ≡ Some OfVersion → ⊥
unfolding first_fault frames_fault
not_version h limit file is = by (nat_lt limit (length file)) (nat_le (length file) 9) (begins h file) is
  where
    by : (long short starts : Bool) → (if long then Some (TooLong (length file)) else (if short then None else (if starts then scan_fault (scan (length file) 8 (drop 8 file)) else Some Header))) ≡ Some OfVersion → ⊥
    by true short starts e = absurd (cc)
    by false true starts e = absurd (cc)
    by false false true e = not_version_by (scan (length file) 8 (drop 8 file)) e
    by false false false e = absurd (cc)

-- what is wrong with the file as a journal is what opening answers
pub journal_answer : (b : Tables) (plan : Plan) (file : List ℕ) (fault : JournalFault) → IsWalkAnswer plan.journal file fault → IsOpenAnswer b plan file (journal_fault fault)
journal_answer b plan file OfDisk is = tt
journal_answer b plan file OfMemory is = tt
journal_answer b plan file (TooLong size) is = is
journal_answer b plan file Header is = is
journal_answer b plan file (Length at) is = is
journal_answer b plan file (Cut at) is = is
journal_answer b plan file OfVersion is = absurd (not_version (header (version_of file)) plan.journal file is)

pub disk_failed : (fault : JournalFault) → journal_fault fault ≡ Disk → fault ≡ OfDisk
disk_failed OfDisk is = refl
disk_failed OfMemory is = cc
disk_failed (TooLong size) is = cc
disk_failed Header is = cc
disk_failed (Length at) is = cc
disk_failed (Cut at) is = cc
disk_failed OfVersion is = cc

-- an object that is lent twice
pub lent_on : {S : Type 0} (is_told : S → Bool) (name count : S → ℕ) (a b c : S) → IsLent is_told name count a b → IsLent is_told name count b c → IsLent is_told name count a c
lent_on is_told name count a b c one two = record {
  grows = omega (arith, one.grows, two.grows);
  tells = two.tells ∙ one.tells;
  identity = two.identity ∙ one.identity;
}

pub rose_later : (first before now : ℕ) → first ≤ before → Rose before now → Rose first now
rose_later first before now grows rose = omega arith
