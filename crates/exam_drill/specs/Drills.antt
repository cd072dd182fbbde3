-- What a drill gives.
use Rattle.std.specs.Prelude.{⊤, ℕ, List}
use Rattle.bank_tables.specs.Tables.{Tables}
use Rattle.bank_reader.specs.Grammar.{IsBankText}
use Rattle.form_model.specs.Plan.{Plan}
use Rattle.form_model.specs.Validity.{IsPlanFor}
use Rattle.spec_reader.specs.Reading.{IsPlanText}
use Rattle.history_model.specs.declared.request.Request.{Request}
use Rattle.history_model.specs.declared.summary.Summary.{Summary}
use Rattle.replay_cli.specs.Scripts.{IsScript}
use Rattle.bank_maker.specs.Drills.{bank_of_drill, plan_of_drill, script_of_drill}
use Rattle.exam_drill.specs.declared.fault.DrillFault.{DrillFault}
use Rattle.exam_drill.specs.declared.fault.DrillFault.TheVariants.{JournalFull, Memory}
use Rattle.exam_drill.specs.Leading.{IsSummaryOf}

-- the bank and the plan of a drill, as its texts describe them
pub record IsExam (number sessions : ℕ) (b : Tables) (plan : Plan) : Type 0 where
  pub bank : IsBankText (bank_of_drill number) b
  pub is_plan : IsPlanText b (plan_of_drill number sessions) plan
  pub valid : IsPlanFor b plan

-- the summary of the history to which the requests of its script lead
pub record IsSummaryOfDrill (number sessions : ℕ) (s : Summary) : Type 0 where
  pub b : Tables
  pub plan : Plan
  pub requests : List Request
  pub exam : IsExam number sessions b plan
  pub script : IsScript (script_of_drill number sessions) requests
  pub is : IsSummaryOf b plan requests s

-- why a drill has no summary: memory ran out. Its journal has room for each of its records
abbrev pub IsDrillFault : DrillFault → Type 0
IsDrillFault (JournalFull size most) = ⊥
IsDrillFault Memory = ⊤
