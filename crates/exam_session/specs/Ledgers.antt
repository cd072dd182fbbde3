-- A book of examinations, as its callers see it.
use Rattle.std.specs.Prelude.{ℕ, List}
use Rattle.bank_tables.specs.Tables.{Tables}
use Rattle.bank_tables.specs.Validity.{IsBank}
use Rattle.history_model.specs.declared.entry.Entry.{Entry}
use Rattle.form_model.specs.Plan.{Plan}
use Rattle.form_model.specs.Validity.{IsPlanFor}
use Rattle.history_model.specs.Legality.{LegalRun}

-- the bank, the plan, the entries so far, and for how many more there is room
pub record Ledger : Type 0 where
  pub bank : Tables
  pub plan : Plan
  pub entries : List Entry
  pub room : ℕ

-- the plan is valid for the bank, and each entry is legal after the entries before it
pub record IsExamination (book : Ledger) : Type 0 where
  pub bank : IsBank book.bank
  pub plan : IsPlanFor book.bank book.plan
  pub legal : LegalRun book.bank book.plan book.entries
