-- What testing the frames of a file answers, as opening does.
use Rattle.std.proofs.Common.{◌≡◌, inl, inr, ℕ, nat_lt, nat_le, List, length, drop, Some, None}
use Rattle.std.proofs.lemmas.Bool.{cases_Bool}
use Rattle.answer_journal.specs.Frames.{FileHeader, Scan, Whole, BadLength, CutOff, scan, begins}
use Rattle.answer_journal.specs.OpenFault.{IsOpenAnswer, IsWalkAnswer, first_fault, frames_fault, scan_fault}
use Rattle.answer_journal.specs.Versions.{header, version_of}
use Rattle.answer_journal.specs.declared.open_fault.OpenFault.{OpenFault}
use Rattle.answer_journal.specs.declared.open_fault.OpenFault.TheVariants.{Disk, TooLong, Header, Length, Cut, Version, Memory}

not_of_scan : (s : Scan) → scan_fault s ≡ Some Version → ⊥
not_of_scan (Whole ps) e = absurd (cc)
not_of_scan (BadLength at) e = absurd (cc)
not_of_scan (CutOff at) e = absurd (cc)

not_of_frames : (h : FileHeader) (file : List ℕ) → frames_fault h file ≡ Some Version → ⊥
unfolding frames_fault
not_of_frames h file e = elim (cases_Bool (begins h file)) [
  | inl is ↦ let scanned : scan_fault (scan (length file) 8 (drop 8 file)) ≡ Some Version = rw is at e in not_of_scan (scan (length file) 8 (drop 8 file)) scanned
  | inr not ↦ let wrong : Some Header ≡ Some Version = rw not at e in absurd (cc)
]

not_of_file : (h : FileHeader) (limit : ℕ) (file : List ℕ) → first_fault h limit file ≡ Some Version → ⊥
unfolding first_fault
not_of_file h limit file e = elim (cases_Bool (nat_lt limit (length file))) [
  | inl long ↦ let wrong : Some (TooLong (length file)) ≡ Some Version = rw long at e in absurd (cc)
  | inr fits ↦ elim (cases_Bool (nat_le (length file) 9)) [
    | inl short ↦ let wrong : None ≡ Some Version = rw (fits, short) at e in absurd (cc)
    | inr more ↦ let framed : frames_fault h file ≡ Some Version = rw (fits, more) at e in not_of_frames h file framed
  ]
]

pub walk_answer : (limit : ℕ) (file : List ℕ) (fault : OpenFault) → IsWalkAnswer limit file fault → IsOpenAnswer limit file fault
walk_answer limit file Disk is = is
walk_answer limit file (TooLong n) is = is
walk_answer limit file Header is = is
walk_answer limit file (Length at) is = is
walk_answer limit file (Cut at) is = is
walk_answer limit file Version is = absurd (not_of_file (header (version_of file)) limit file is)
walk_answer limit file Memory is = is
