-- Marks, each with what its office was opened with.
use Rattle.std.specs.Prelude.{◌≡◌, ⊤, ℕ, Bool, List, [], ◌∷◌, ◌++◌, map, Option, Some, None}
use Rattle.bank_tables.specs.Tables.{Tables}
use Rattle.form_model.specs.Plan.{Plan}
use Rattle.answer_journal.specs.Journal.{tells_of, identity_of}
use Rattle.history_model.specs.declared.entry.Entry.{Entry}
use Rattle.exam_office.specs.declared.mark.Mark.{Mark}
use Rattle.exam_office.specs.declared.mark.Mark.TheVariants.{Fault}
use Rattle.exam_office.specs.Running.{HandedDisk, Running}

-- what no call of an office changes: the bank, the plan and the base form; whether its disk reports
-- its content, which object it is, and the disk as it was handed in
pub record OpenedWith : Type 0 where
  pub bank : Tables
  pub plan : Plan
  pub base : List ℕ
  pub tells : Bool
  pub identity : ℕ
  pub disk : HandedDisk

-- a mark, and what its office was opened with
pub record NotedMark : Type 0 where
  pub mark : Mark
  pub office : OpenedWith

abbrev pub noted : OpenedWith → List Mark → List NotedMark
noted office marks = map (λ (m : Mark). record { mark = m; office = office }) marks

abbrev pub marks_of : List NotedMark → List Mark
marks_of seen = map (λ (n : NotedMark). n.mark) seen

-- what an office was opened with
abbrev pub opened_with : {D : Type 0} → Running D → OpenedWith
opened_with office =
    record {
      bank = office.bank;
      plan = office.plan;
      base = office.base;
      tells = tells_of office.journal;
      identity = identity_of office.journal;
      disk = office.opened;
    }

-- the last mark is a fault of the entry
abbrev pub EndsInFault : List Mark → Entry → Type 0
EndsInFault marks entry = (before : List Mark) × (marks ≡ before ++ Fault entry ∷ [])

-- the entry in doubt, if there is one, is that of the last mark, a fault
abbrev pub IsDoubtOf : List Mark → Option Entry → Type 0
IsDoubtOf marks None = ⊤
IsDoubtOf marks (Some entry) = EndsInFault marks entry
