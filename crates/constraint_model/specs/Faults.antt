-- The faults of a draft, in the order of their tests.
use Rattle.std.specs.Prelude.{◌≡◌, ℕ, ◌+◌, ◌*◌, ◌%◌, Bool, true, not, ◌&&◌, ◌||◌, ◌==◌, nat_lt, nat_le, List, [], ◌∷◌, length, get_or, Option, Some, None}
use Rattle.std.specs.List.{list_all}
use Rattle.exam_text.specs.First.{fault_where, ◌orelse◌, first_below}
use Rattle.bank_tables.specs.Items.{has}
use Rattle.bank_tables.specs.Sums.{any_below}
use Rattle.bank_tables.specs.Tables.{Tables, size}
use Rattle.bank_tables.specs.Faults.{is_loglik}
use Rattle.form_model.specs.declared.breach.Breach.{Breach}
use Rattle.form_model.specs.declared.draft.Rate.{Rate}
use Rattle.form_model.specs.declared.row.Row.{Row}
use Rattle.form_model.specs.declared.row.Row.TheVariants.{Count, Quantity, Enemies, Stimuli}
use Rattle.form_model.specs.declared.row.StimulusBound.{StimulusBound}
use Rattle.form_model.specs.Plan.{Plan, row_at, no_bound}
use Rattle.form_model.specs.Problem.{whole}
use Rattle.form_model.specs.Forms.{stimuli_of, Meets}
use Rattle.form_model.specs.Breaches.{IsFirstBreach}
use Rattle.constraint_model.specs.declared.spec_fault.SpecFault.{SpecFault}
use Rattle.constraint_model.specs.declared.spec_fault.SpecFault.TheVariants.{Length, BadPrior, TooManyRows, RowBounds, EmptySet, BadItem, BadQuantity, BadStimulus, BadRate, BadBands, BadBudget, BadLimit, BadBase, Memory}

-- a set in words of 64 bits has no member
unfoldable pub is_empty : List ℕ → Bool
is_empty words = not (any_below (64 * length words) (has words))

-- it has a member that is no item of the bank
unfoldable pub has_unknown : Tables → List ℕ → Bool
has_unknown b words = any_below (64 * length words) (λ i. has words i && nat_le (size b) i)

-- bounds out of order, or an upper bound above `most`, the greatest that the row may have
abbrev pub range_fault : ℕ → ℕ → ℕ → ℕ → Option SpecFault
range_fault r low high most = fault_where (nat_lt high low || nat_lt most high) (RowBounds r)

-- a set with no item, or with one that is not in the bank
abbrev pub set_fault : Tables → ℕ → List ℕ → Option SpecFault
set_fault b r set =
    fault_where (is_empty set) (EmptySet r) orelse fault_where (has_unknown b set) (BadItem r)

-- a quantity that is not in the bank
abbrev pub quantity_fault : Tables → ℕ → ℕ → Option SpecFault
quantity_fault b r which = fault_where (nat_le b.quantities which) (BadQuantity r)

-- the tests of row r, in their order
unfoldable pub row_fault : Tables → ℕ → Row → Option SpecFault
row_fault b r (Count set low high) = range_fault r low high 512 orelse set_fault b r set
row_fault b r (Quantity which set low high) =
    range_fault r low high 33553920 orelse set_fault b r set orelse quantity_fault b r which
row_fault b r (Enemies set) = set_fault b r set
row_fault b r (Stimuli low high) = range_fault r low high 64

-- the fault of the first row that has one
abbrev pub rows_fault : Tables → Plan → Option SpecFault
rows_fault b plan = first_below (length plan.rows) (λ r. row_fault b r (row_at plan r))

-- a value for each grid point, none above 0 and none below -10,000,000
abbrev pub is_prior : Tables → Plan → Bool
is_prior b plan = (length plan.prior == b.grid) && list_all is_loglik plan.prior

-- the tests from the length to the rows
unfoldable pub front_fault : Tables → Plan → Option SpecFault
front_fault b plan =
    fault_where ((plan.length == 0) || nat_lt (size b) plan.length) Length
    orelse fault_where (not (is_prior b plan)) BadPrior
    orelse fault_where (nat_lt 128 (length plan.rows)) TooManyRows
    orelse rows_fault b plan

-- the test of a stimulus
abbrev pub bound_fault : ℕ → StimulusBound → Option SpecFault
bound_fault s bound =
    fault_where ((bound.low == 0) || (nat_lt bound.high bound.low || nat_lt 512 bound.high))
    (BadStimulus s)

-- the tests of the bounds: their number first, then stimulus by stimulus; those of stimulus k + 1
-- are at place k
unfoldable pub bounds_fault : Tables → Plan → Option SpecFault
bounds_fault b plan =
    fault_where (nat_lt (length plan.bounds) (stimuli_of b)) (BadStimulus (length plan.bounds + 1))
    orelse fault_where (nat_lt (stimuli_of b) (length plan.bounds)) (BadStimulus (stimuli_of b + 1))
    orelse first_below (stimuli_of b) (λ k. bound_fault (k + 1) (get_or plan.bounds k no_bound))

-- above 0, at most 1, in numbers of at most 65,535
abbrev pub is_rate : Rate → Bool
is_rate rate = nat_lt 0 rate.num && (nat_le rate.num rate.den && nat_le rate.den 65535)

-- points that rise: each is above the one before it, the first one above `low`, and all are below
-- `high`
abbrev pub rise : ℕ → ℕ → List ℕ → Bool
rise low high [] = true
rise low high (point ∷ points) = nat_lt low point && (nat_lt point high && rise point high points)

-- at most 7 points, which rise, and each is a grid point but the first
abbrev pub are_bands : ℕ → List ℕ → Bool
are_bands grid points = nat_le (length points) 7 && rise 0 grid points

-- odd, and at most 4,095
abbrev pub is_budget : ℕ → Bool
is_budget nodes = (nodes % 2 == 1) && nat_le nodes 4095

-- low or more, and at most high
abbrev pub is_between : ℕ → ℕ → ℕ → Bool
is_between low high n = nat_le low n && nat_le n high

-- the budgets of a step and of the base form
abbrev pub are_budgets : Plan → Bool
are_budgets plan = is_budget plan.budget && is_budget plan.base_budget

-- the limits of sessions and of the journal
abbrev pub are_limits : Plan → Bool
are_limits plan = is_between 1 65536 plan.sessions && is_between 64 536870912 plan.journal

-- the tests of the rate, the bands, the budgets and the limits
unfoldable pub limits_fault : Tables → Plan → Option SpecFault
limits_fault b plan =
    fault_where (not (is_rate plan.rate)) BadRate
    orelse fault_where (not (are_bands b.grid plan.bands)) BadBands
    orelse fault_where (not (are_budgets plan)) BadBudget
    orelse fault_where (not (are_limits plan)) BadLimit

-- the tests of all but the base, in their order
abbrev pub numbers_fault : Tables → Plan → Option SpecFault
numbers_fault b plan = front_fault b plan orelse bounds_fault b plan orelse limits_fault b plan

-- the base has this first breach, whatever the estimate
pub record IsBaseBreach (b : Tables) (plan : Plan) (breach : Breach) : Type 0 where
  pub words : List ℕ
  pub base : plan.base ≡ Some words
  pub first : (theta : ℕ) → IsFirstBreach (whole b plan theta) (has words) (Some breach)

-- the first breach of the base, or none where it meets the plan or there is no base
abbrev pub IsBaseFault : Tables → Plan → Option Breach → Type 0
IsBaseFault b plan None = (words : List ℕ) → plan.base ≡ Some words → Meets b plan (has words)
IsBaseFault b plan (Some breach) = IsBaseBreach b plan breach

-- the first fault of a draft: its base is tested last; lack of memory is no fault of a draft
abbrev pub IsSpecFault : Tables → Plan → SpecFault → Type 0
IsSpecFault b plan (BadBase breach) = (numbers_fault b plan ≡ None) × IsBaseBreach b plan breach
IsSpecFault b plan Memory = ⊥
IsSpecFault b plan fault = numbers_fault b plan ≡ Some fault
