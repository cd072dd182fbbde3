-- What is true of every plan and problem that the product handles.
use Rattle.std.specs.Prelude.{◌≡◌, ℕ, ◌%◌, ◌<◌, ◌≤◌, List, [], length, get_or, slice_index, pos, IsTrue, IsFalse, Some, None}
use Rattle.bank_tables.specs.Items.{Set, has}
use Rattle.bank_tables.specs.Tables.{Tables, size}
use Rattle.bank_tables.specs.Validity.{IsBank, IsLogLik, HoldsItems}
use Rattle.form_model.specs.declared.row.Row.{Row}
use Rattle.form_model.specs.declared.row.Row.TheVariants.{Count, Quantity, Enemies, Stimuli}
use Rattle.form_model.specs.Plan.{Plan, row_at, bound_at}
use Rattle.form_model.specs.Problem.{Problem, whole}
use Rattle.form_model.specs.Forms.{Meets, stimuli_of}
use Rattle.form_model.specs.Ability.{IsPosteriorMode}

-- some items, all of the bank
pub record IsRowSet (b : Tables) (X : Set) : Type 0 where
  pub member : ℕ
  pub is_member : IsTrue (X member)
  pub items : HoldsItems b X

-- a row's bounds are in order and in range, its set has items, and its quantity is one of the
-- bank's
abbrev pub IsRow : Tables → Row → Type 0
IsRow b (Count set low high) = (low ≤ high) × (high ≤ 512) × IsRowSet b (has set)
IsRow b (Quantity which set low high) =
    (low ≤ high) × (high ≤ 33553920) × IsRowSet b (has set) × (which < b.quantities)
IsRow b (Enemies set) = IsRowSet b (has set)
IsRow b (Stimuli low high) = (low ≤ high) × (high ≤ 64)

-- a binary tree has an odd number of nodes
pub record IsBudget (nodes : ℕ) : Type 0 where
  pub uneven : nodes % 2 ≡ 1
  pub high : nodes ≤ 4095

-- points at which bands begin: they rise, and each is a grid point other than 0
pub record AreBands (grid : ℕ) (points : List ℕ) : Type 0 where
  pub few : length points ≤ 7
  pub some : (k : ℕ) → k < length points → 0 < slice_index points k
  pub within : (k : ℕ) → k < length points → slice_index points k < grid
  pub rising : (j k : ℕ) → j < k → k < length points → slice_index points j < slice_index points k

-- the plan is valid for the bank
pub record IsPlanFor (b : Tables) (plan : Plan) : Type 0 where
  pub some_items : 0 < plan.length
  pub few_items : plan.length ≤ size b
  pub prior_number : length plan.prior ≡ b.grid
  pub prior_range : (point : ℕ) → IsLogLik (get_or plan.prior point (pos 0))
  pub few_rows : length plan.rows ≤ 128
  pub rows : (r : ℕ) → r < length plan.rows → IsRow b (row_at plan r)
  pub each_stimulus : length plan.bounds ≡ stimuli_of b
  pub some_low : (s : ℕ) → 0 < s → s ≤ stimuli_of b → 0 < (bound_at plan s).low
  pub low_high : (s : ℕ) → 0 < s → s ≤ stimuli_of b → (bound_at plan s).low ≤ (bound_at plan s).high
  pub high : (s : ℕ) → 0 < s → s ≤ stimuli_of b → (bound_at plan s).high ≤ 512
  pub some_rate : 0 < plan.rate.num
  pub rate : plan.rate.num ≤ plan.rate.den
  pub rate_high : plan.rate.den ≤ 65535
  pub bands : AreBands b.grid plan.bands
  pub budget : IsBudget plan.budget
  pub base_budget : IsBudget plan.base_budget
  pub some_sessions : 0 < plan.sessions
  pub few_sessions : plan.sessions ≤ 65536
  pub journal_low : 64 ≤ plan.journal
  pub journal_high : plan.journal ≤ 536870912
  pub base_meets : (words : List ℕ) → plan.base ≡ Some words → Meets b plan (has words)

-- what a caller knows of a problem
pub record IsWellMade (P : Problem) : Type 0 where
  pub bank : IsBank P.bank
  pub plan : IsPlanFor P.bank P.plan
  pub point : P.theta < P.bank.grid
  pub given_items : HoldsItems P.bank P.given
  pub barred_items : HoldsItems P.bank P.barred
  pub apart : (i : ℕ) → IsTrue (P.given i) → IsFalse (P.barred i)
  pub last_given : (item : ℕ) → P.last ≡ Some item → IsTrue (P.given item)
  pub last_none : P.last ≡ None → (i : ℕ) → IsFalse (P.given i)
  pub start_items : (X : Set) → P.start ≡ Some X → HoldsItems P.bank X

-- P is the problem that has only the plan, at the mode of the prior
pub record IsWhole (b : Tables) (plan : Plan) (P : Problem) : Type 0 where
  pub theta : ℕ
  pub mode : IsPosteriorMode b plan.prior [] theta
  pub is : P ≡ whole b plan theta
