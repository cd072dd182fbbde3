-- What is known where a command ended before its work was done.
use Rattle.std.specs.Prelude.{◌≡◌, ⊤, List, ℕ, Some}
use Rattle.bank_tables.specs.Tables.{Tables}
use Rattle.form_model.specs.Plan.{Plan}
use Rattle.form_lines.specs.Answers.{series_problem, ShowsNoSeries, ShowsNoneFound}
use Rattle.command_line.specs.Commands.{Command, Audit, Migrate, command_of, files_of}
use Rattle.exam_office.specs.declared.fault.OpenFault.{OpenFault}
use Rattle.exam_program.specs.declared.halt.Halt.{Halt}
use Rattle.exam_program.specs.declared.halt.Halt.TheVariants as halt
use Rattle.exam_program.specs.Bases.{ShowsNoForm, ShowsNoBase}
use Rattle.exam_program.specs.Halts.{Reads}
use Rattle.exam_program.specs.Outside.{Outside, DiskSeen}
use Rattle.exam_program.specs.Replays.{IsJournalRefused, IsReadingRefused}
use Rattle.exam_program.specs.Series.{IsSeriesOf}

-- the command refuses the journal with this fault; an audit and a migration take records of either
-- version
abbrev pub IsRefusedIn : Command → Tables → Plan → DiskSeen → OpenFault → Type 0
IsRefusedIn (Audit bank plan) b p disk fault = IsReadingRefused b p disk fault
IsRefusedIn (Migrate bank plan) b p disk fault = IsReadingRefused b p disk fault
IsRefusedIn command b p disk fault = IsJournalRefused b p disk fault

-- the words ask for a command over a bank and a plan, these are read, and the command refuses the
-- journal with this fault, which has the rule that the first wrong record breaks, with its values
pub record IsRefused (words : List (List ℕ)) (o : Outside) (fault : OpenFault) : Type 0 where
  pub command : Command
  pub bank : List ℕ
  pub plan : List ℕ
  pub b : Tables
  pub p : Plan
  pub asked : command_of words ≡ Some command
  pub names : files_of command ≡ Some (bank, plan)
  pub reads : Reads o.named o.content bank plan b p
  pub refused : IsRefusedIn command b p o.disk fault

-- the words ask for a command over a bank and a plan, and these are read
pub record IsRead (words : List (List ℕ)) (o : Outside) (b : Tables) (p : Plan) : Type 0 where
  pub command : Command
  pub bank : List ℕ
  pub plan : List ℕ
  pub asked : command_of words ≡ Some command
  pub names : files_of command ≡ Some (bank, plan)
  pub reads : Reads o.named o.content bank plan b p

-- what a halt shows beside its status and its text: the rule that a record of the journal breaks;
-- or the tree by which the whole problem that was read has no form, or the base budget is spent
-- without one; or the same of a series
abbrev pub Shows : List (List ℕ) → Outside → Halt → Type 0
Shows words o (halt.Journal fault) = IsRefused words o fault
Shows words o (halt.NoForm T) =
    (b : Tables) × (p : Plan) × IsRead words o b p × ShowsNoForm b p T
Shows words o (halt.NoBaseForm budget T) = (b : Tables) × (p : Plan) × IsRead words o b p
    × (budget ≡ p.base_budget) × ShowsNoBase b p T
Shows words o (halt.NoSeries T) = (b : Tables) × (p : Plan) × (forms : ℕ) × (weights : List ℕ)
    × IsSeriesOf words o b p forms weights × ShowsNoSeries (series_problem b p weights forms) T
Shows words o (halt.NoSeriesFound budget T) = (b : Tables) × (p : Plan) × (forms : ℕ)
    × (weights : List ℕ) × IsSeriesOf words o b p forms weights × (budget ≡ p.base_budget)
    × ShowsNoneFound (series_problem b p weights forms) T
Shows words o halt = ⊤
