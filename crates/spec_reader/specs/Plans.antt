-- The plan that lines mean.
use Rattle.std.specs.Prelude.{ℕ, List, [], ◌∷◌, ◌++◌, map, replicate, Option, Some, None, ℤ}
use Rattle.std.specs.Option.{option_map}
use Rattle.std.specs.List.{fold}
use Rattle.bank_tables.specs.Items.{Set, has}
use Rattle.form_model.specs.declared.draft.Rate.{Rate as Fraction}
use Rattle.form_model.specs.declared.row.Row.{Row}
use Rattle.form_model.specs.declared.row.Row.TheVariants as row
use Rattle.form_model.specs.declared.row.StimulusBound.{StimulusBound}
use Rattle.form_model.specs.Plan.{Plan}
use Rattle.spec_reader.specs.Bounds.{any_bound, with_bound}
use Rattle.spec_reader.specs.Rules.{Said, Length, Prior, Rate, Key, Bands, Budget, BaseBudget, Sessions, Journal, Count, Quantity, Enemies, Stimuli, Stimulus, Base}

-- what a plan means: its sets are tests on items, and its rows are what their lines mean
pub record SaidPlan : Type 0 where
  pub length : ℕ
  pub prior : List ℤ
  pub rows : List Said
  pub bounds : List StimulusBound
  pub rate : Fraction
  pub key : List ℕ
  pub bands : List ℕ
  pub budget : ℕ
  pub base_budget : ℕ
  pub sessions : ℕ
  pub journal : ℕ
  pub base : Option Set

abbrev pub row_said : Row → Said
row_said (row.Count set low high) = Count low high (has set)
row_said (row.Quantity which set low high) = Quantity which low high (has set)
row_said (row.Enemies set) = Enemies (has set)
row_said (row.Stimuli low high) = Stimuli low high

abbrev pub plan_said : Plan → SaidPlan
plan_said plan =
    record {
      length = plan.length;
      prior = plan.prior;
      rows = map row_said plan.rows;
      bounds = plan.bounds;
      rate = plan.rate;
      key = plan.key;
      bands = plan.bands;
      budget = plan.budget;
      base_budget = plan.base_budget;
      sessions = plan.sessions;
      journal = plan.journal;
      base = option_map has plan.base;
    }

-- the plan without a line, for a bank with so many stimuli: the defaults; the length and the prior
-- have no default, since their lines may not be missing
abbrev pub blank : ℕ → SaidPlan
blank stimuli =
    record {
      length = 0;
      prior = [];
      rows = [];
      bounds = replicate stimuli any_bound;
      rate = record { num = 1; den = 1 };
      key = replicate 32 0;
      bands = [];
      budget = 2001;
      base_budget = 4095;
      sessions = 1000;
      journal = 67108864;
      base = None;
    }

abbrev pub with_row : SaidPlan → Said → SaidPlan
with_row plan rule = record plan { rows = plan.rows ++ rule ∷ [] }

-- the plan with one more line
unfoldable pub with_rule : SaidPlan → Said → SaidPlan
with_rule plan (Length n) = record plan { length = n }
with_rule plan (Prior vs) = record plan { prior = vs }
with_rule plan (Rate n d) = record plan { rate = record { num = n; den = d } }
with_rule plan (Key k) = record plan { key = k }
with_rule plan (Bands points) = record plan { bands = points }
with_rule plan (Budget n) = record plan { budget = n }
with_rule plan (BaseBudget n) = record plan { base_budget = n }
with_rule plan (Sessions n) = record plan { sessions = n }
with_rule plan (Journal n) = record plan { journal = n }
with_rule plan (Count low high s) = with_row plan (Count low high s)
with_rule plan (Quantity q low high s) = with_row plan (Quantity q low high s)
with_rule plan (Enemies s) = with_row plan (Enemies s)
with_rule plan (Stimuli low high) = with_row plan (Stimuli low high)
with_rule plan (Stimulus s low high) =
    record plan { bounds = with_bound plan.bounds s (record { low = low; high = high }) }
with_rule plan (Base s) = record plan { base = Some s }

-- the plan of these lines, for a bank with so many stimuli
abbrev pub drafted : ℕ → List Said → SaidPlan
drafted stimuli rules = fold with_rule (blank stimuli) rules
