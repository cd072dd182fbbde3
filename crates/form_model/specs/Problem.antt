-- The problem of assembling a form.
use Rattle.std.specs.Prelude.{ℕ, Bool, false, true, Option, None}
use Rattle.bank_tables.specs.Items.{Set}
use Rattle.bank_tables.specs.Tables.{Tables}
use Rattle.form_model.specs.Plan.{Plan}

-- the items given are to be in the form, the items barred are not; theta is the grid point of the
-- estimate, last the item given last, and start the form served from before. After a change of band
-- the start may be infeasible again, until eligibility is set aside there
pub record Problem : Type 0 where
  pub bank : Tables
  pub plan : Plan
  pub session : ℕ
  pub step : ℕ
  pub aside : Bool
  pub given : Set
  pub barred : Set
  pub theta : ℕ
  pub last : Option ℕ
  pub start : Option Set

-- the problem that has only the plan, at an estimate: no session, nothing given, nothing barred
abbrev pub whole : Tables → Plan → ℕ → Problem
whole b plan theta =
    record {
      bank = b;
      plan = plan;
      session = 0;
      step = 0;
      aside = true;
      given = λ _. false;
      barred = λ _. false;
      theta = theta;
      last = None;
      start = None;
    }
