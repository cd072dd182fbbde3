-- Plans with the defaults of a plan's text.
use Rattle.std.specs.Prelude.{ℕ, List, [], ℤ, replicate, None}
use Rattle.form_model.specs.declared.row.Row.{Row}
use Rattle.form_model.specs.declared.row.StimulusBound.{StimulusBound}
use Rattle.form_model.specs.Plan.{Plan}

-- the plan of these numbers; every other number is as where no line of a plan's text names it
unfoldable pub plan_of : ℕ → List ℤ → List Row → List StimulusBound → Plan
plan_of length prior rows bounds =
    record {
      length = length;
      prior = prior;
      rows = rows;
      bounds = bounds;
      rate = record { num = 1; den = 1 };
      key = replicate 32 0;
      bands = [];
      budget = 2001;
      base_budget = 4095;
      sessions = 1000;
      journal = 67108864;
      base = None;
    }
