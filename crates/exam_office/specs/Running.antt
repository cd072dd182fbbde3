-- An office, as its callers see it.
use Rattle.std.specs.Prelude.{ℕ, List, Option}
use Rattle.bank_tables.specs.Tables.{Tables}
use Rattle.exam_edge.specs.Images.{Account}
use Rattle.form_model.specs.Plan.{Plan}
use Rattle.history_model.specs.declared.entry.Entry.{Entry}
use Rattle.answer_journal.specs.Journal.{JournalState}
use Rattle.exam_office.specs.declared.mark.Mark.{Mark}

-- a disk as it was handed in: its content, what a crash may leave at each moment so far, and its
-- count of faults
pub record HandedDisk : Type 0 where
  pub content : List ℕ
  pub accounts : List Account
  pub faults : ℕ

abbrev pub handed : {D : Type 0} → (D → List ℕ) → (D → List Account) → (D → ℕ) → D → HandedDisk
handed content accounts faults disk =
    record { content = content disk; accounts = accounts disk; faults = faults disk }

-- the bank, the plan and the base form, the marks so far, the entry in doubt, the journal, and the
-- disk as it was handed in
pub record Running (D : Type 0) : Type 0 where
  pub bank : Tables
  pub plan : Plan
  pub base : List ℕ
  pub marks : List Mark
  pub doubt : Option Entry
  pub journal : JournalState D
  pub opened : HandedDisk
