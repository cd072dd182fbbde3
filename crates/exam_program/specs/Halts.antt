-- Why a command ends before its work is done.
use Rattle.std.specs.Prelude.{◌≡◌, ℕ, ◌≤◌, Bool, IsTrue, List, length, Ok, Err}
use Rattle.bank_tables.specs.Tables.{Tables}
use Rattle.bank_reader.specs.Reading.{bank_of}
use Rattle.form_model.specs.Plan.{Plan as Numbers}
use Rattle.form_model.specs.Validity.{IsPlanFor}
use Rattle.spec_reader.specs.declared.plan_fault.PlanFault.{PlanFault}
use Rattle.spec_reader.specs.declared.plan_fault.PlanFault.TheVariants as fault
use Rattle.spec_reader.specs.Reading.{IsPlanText, IsReadFault, most_bytes}
use Rattle.history_model.specs.declared.request.Request.{Request}
use Rattle.replay_cli.specs.Scripts.{IsScript}
use Rattle.replay_cli.specs.Reading.{IsScriptFault, most_bytes as longest_script, IsOfText as IsOfScript}
use Rattle.exam_program.specs.declared.halt.Halt.{Halt}
use Rattle.exam_program.specs.declared.halt.Halt.TheVariants.{Bank, Plan, Script, NoForm, NoBaseForm, Weights, NoSeries, NoSeriesFound, Files, Sink, Memory}
use Rattle.exam_program.specs.Bases.{ShowsNoForm, ShowsNoBase}
use Rattle.exam_program.specs.ItemSets.{HasItemSets}

-- the bank text is there and refused with this fault, unless its files failed or memory ran out
abbrev pub HaltsAtBank : Bool → List ℕ → Halt → Type 0
HaltsAtBank there text (Bank fault) = IsTrue there × (bank_of text ≡ Err fault)
HaltsAtBank there text Files = Unit {0}
HaltsAtBank there text Memory = Unit {0}
HaltsAtBank there text halt = ⊥

-- the text is a plan text for the bank that is not too long; it describes this plan, which is valid
-- for the bank, and whose sets are 8 words of 64 bits each. So a text describes one plan
pub record IsPlanIn (b : Tables) (text : List ℕ) (plan : Numbers) : Type 0 where
  pub short : length text ≤ most_bytes
  pub says : IsPlanText b text plan
  pub valid : IsPlanFor b plan
  pub sets : HasItemSets plan

-- a fault of the text itself
abbrev pub IsOfText : PlanFault → Type 0
IsOfText fault.Source = ⊥
IsOfText fault.Memory = ⊥
IsOfText other = Unit {0}

-- the plan text is there and refused with this fault, unless its files failed or memory ran out
abbrev pub HaltsAtPlan : Tables → Bool → List ℕ → Halt → Type 0
HaltsAtPlan b there text (Plan fault) = IsTrue there × IsOfText fault × IsReadFault b text fault
HaltsAtPlan b there text Files = Unit {0}
HaltsAtPlan b there text Memory = Unit {0}
HaltsAtPlan b there text halt = ⊥

-- there are files of these names, and they describe this bank and this plan, which is valid for the
-- bank
pub record Reads (named : List ℕ → Bool) (content : List ℕ
    → List ℕ) (bank plan : List ℕ) (b : Tables) (p : Numbers) : Type 0 where
  pub has_bank : IsTrue (named bank)
  pub has_plan : IsTrue (named plan)
  pub says_bank : bank_of (content bank) ≡ Ok b
  pub says_plan : IsPlanIn b (content plan) p

-- the text of the bank is there and refused, or that of the plan after the bank is read, unless the
-- files failed or memory ran out
abbrev pub HaltsAtExam : (List ℕ → Bool) → (List ℕ → List ℕ) → List ℕ → List ℕ → Halt → Type 0
HaltsAtExam named content bank plan (Bank fault) =
    IsTrue (named bank) × (bank_of (content bank) ≡ Err fault)
HaltsAtExam named content bank plan (Plan fault) = (b : Tables) × IsTrue (named bank)
    × IsTrue (named plan) × (bank_of (content bank) ≡ Ok b) × IsOfText fault
    × IsReadFault b (content plan) fault
HaltsAtExam named content bank plan Files = Unit {0}
HaltsAtExam named content bank plan Memory = Unit {0}
HaltsAtExam named content bank plan halt = ⊥

-- the text is not too long, and it is the script of these requests
pub record IsScriptIn (text : List ℕ) (requests : List Request) : Type 0 where
  pub short : length text ≤ longest_script
  pub says : IsScript text requests

-- the text is there and no script, with this fault, unless its files failed or memory ran out
abbrev pub HaltsAtScript : Bool → List ℕ → Halt → Type 0
HaltsAtScript there text (Script fault) = IsTrue there × IsOfScript fault × IsScriptFault text fault
HaltsAtScript there text Files = Unit {0}
HaltsAtScript there text Memory = Unit {0}
HaltsAtScript there text halt = ⊥

-- the whole problem has no form, or none was found within the base budget, which the tree shows,
-- unless memory ran out
abbrev pub HaltsAtBase : Tables → Numbers → Halt → Type 0
HaltsAtBase b plan (NoForm T) = ShowsNoForm b plan T
HaltsAtBase b plan (NoBaseForm budget T) = (budget ≡ plan.base_budget) × ShowsNoBase b plan T
HaltsAtBase b plan Memory = Unit {0}
HaltsAtBase b plan halt = ⊥

-- the command halts before the journal is opened
abbrev pub IsBeforeJournal : Halt → Type 0
IsBeforeJournal (Bank fault) = Unit {0}
IsBeforeJournal (Plan fault) = Unit {0}
IsBeforeJournal (Script fault) = Unit {0}
IsBeforeJournal (NoForm T) = Unit {0}
IsBeforeJournal (NoBaseForm budget T) = Unit {0}
IsBeforeJournal Weights = Unit {0}
IsBeforeJournal (NoSeries T) = Unit {0}
IsBeforeJournal (NoSeriesFound budget T) = Unit {0}
IsBeforeJournal Files = Unit {0}
IsBeforeJournal halt = ⊥

-- so, or memory ran out then
abbrev pub IsEarly : Halt → Type 0
IsEarly Memory = Unit {0}
IsEarly halt = IsBeforeJournal halt

-- or the sink failed: what a command without a journal may halt by
abbrev pub IsOfNoDisk : Halt → Type 0
IsOfNoDisk Sink = Unit {0}
IsOfNoDisk halt = IsEarly halt
