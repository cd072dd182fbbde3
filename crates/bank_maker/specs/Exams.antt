-- The plan of a drill, as it is read.
use Rattle.std.specs.Prelude.{◌≡◌, ℕ}
use Rattle.exam_text.specs.Keys.{IsKey}
use Rattle.form_model.specs.Plan.{Plan}
use Rattle.form_model.specs.Validity.{IsPlanFor}
use Rattle.spec_reader.specs.Plans.{plan_said}
use Rattle.spec_reader.specs.Reading.{IsPlanText}
use Rattle.bank_maker.specs.Items.{items}
use Rattle.bank_maker.specs.Plans.{plan}
use Rattle.bank_maker.specs.Drills.{tables_of_drill, plan_of_drill}

-- this plan has the stated numbers and sets, it is valid for the drill's bank, so that its base
-- form meets it, and the plan text is a text of it
pub record IsPlanOfDrill (number sessions : ℕ) (p : Plan) : Type 0 where
  pub means : plan_said p ≡ plan number sessions (items number)
  pub valid : IsPlanFor (tables_of_drill number) p
  pub key : IsKey p.key
  pub text : IsPlanText (tables_of_drill number) (plan_of_drill number sessions) p
