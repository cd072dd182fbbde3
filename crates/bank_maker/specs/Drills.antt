-- The texts of a drill.
use Rattle.std.specs.Prelude.{◌≡◌, ℕ, List}
use Rattle.bank_tables.specs.Tables.{Tables}
use Rattle.history_model.specs.declared.request.Request.{Request}
use Rattle.bank_maker.specs.declared.drill.Made.{Made}
use Rattle.bank_maker.specs.Draws.{state_after}
use Rattle.bank_maker.specs.Items.{items, draws_of_items}
use Rattle.bank_maker.specs.Banks.{tables_of, bank_text}
use Rattle.bank_maker.specs.Plans.{plan_text}
use Rattle.bank_maker.specs.Scripts.{acts, requests_from, script_text}

-- the bank of the items that are drawn from the number
abbrev pub bank_of_drill : ℕ → List ℕ
bank_of_drill number = bank_text (items number)

-- the bank that it describes
abbrev pub tables_of_drill : ℕ → Tables
tables_of_drill number = tables_of (items number)

-- their plan
abbrev pub plan_of_drill : ℕ → ℕ → List ℕ
plan_of_drill number sessions = plan_text number sessions (items number)

-- the requests of the script, which draws on after the items
abbrev pub requests_of_drill : ℕ → ℕ → List Request
requests_of_drill number sessions =
    requests_from (state_after number draws_of_items) (acts sessions)

-- the script
abbrev pub script_of_drill : ℕ → ℕ → List ℕ
script_of_drill number sessions = script_text (state_after number draws_of_items) (acts sessions)

-- the texts of a drill of so many sessions from this number
pub record IsDrill (number sessions : ℕ) (made : Made) : Type 0 where
  pub bank : made.bank.items ≡ bank_of_drill number
  pub plan : made.plan.items ≡ plan_of_drill number sessions
  pub script : made.script.items ≡ script_of_drill number sessions
