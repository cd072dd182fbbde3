-- Forms, their objective, and the best form (van der Linden, Linear Models for Optimal Test Design,
-- 2005).
use Rattle.std.specs.Prelude.{◌≡◌, ℕ, suc, ◌≤◌, ◌<◌, ◌⊎◌, true, cond, ◌&&◌, ◌==◌, length, nat_lt, IsTrue, IsFalse}
use Rattle.bank_tables.specs.Items.{Set, has}
use Rattle.bank_tables.specs.Tables.{Tables, size, info, stimulus, quantity}
use Rattle.bank_tables.specs.Sums.{sum_in, count_in, any_below, greatest_below}
use Rattle.form_model.specs.declared.row.Row.{Row}
use Rattle.form_model.specs.declared.row.Row.TheVariants.{Count, Quantity, Enemies, Stimuli}
use Rattle.form_model.specs.Plan.{Plan, row_at, bound_at}
use Rattle.form_model.specs.Problem.{Problem}

-- the number of stimuli: they are numbered from 1 to the greatest number in the bank
abbrev pub stimuli_of : Tables → ℕ
stimuli_of b = greatest_below (size b) (stimulus b)

-- how many items of the bank X has
abbrev pub size_in : Tables → Set → ℕ
size_in b X = count_in (size b) X (λ _. true)

-- how many items of X have stimulus s
abbrev pub items_of : Tables → ℕ → Set → ℕ
items_of b s X = count_in (size b) X (λ i. stimulus b i == s)

-- stimulus s has an item in X; 0 is no stimulus
abbrev pub used : Tables → Set → Set
used b X s = nat_lt 0 s && any_below (size b) (λ i. X i && stimulus b i == s)

-- how many of the stimuli from 1 to top are in Z
abbrev pub stimuli_in : ℕ → Set → ℕ
stimuli_in top Z = sum_in top (λ k. Z (suc k)) (λ _. 1)

-- the activity of a row: the number or the sum that items X and stimuli Z have on it
abbrev pub activity : Tables → Row → Set → Set → ℕ
activity b (Count set low high) X Z = count_in (size b) X (has set)
activity b (Quantity which set low high) X Z =
    sum_in (size b) X (λ i. cond (has set i) (quantity b i which) 0)
activity b (Enemies set) X Z = count_in (size b) X (has set)
activity b (Stimuli low high) X Z = stimuli_in (stimuli_of b) Z

-- the bounds of a row: of enemies at most one is chosen
abbrev pub lower_bound : Row → ℕ
lower_bound (Count set low high) = low
lower_bound (Quantity which set low high) = low
lower_bound (Enemies set) = 0
lower_bound (Stimuli low high) = low

abbrev pub upper_bound : Row → ℕ
upper_bound (Count set low high) = high
upper_bound (Quantity which set low high) = high
upper_bound (Enemies set) = 1
upper_bound (Stimuli low high) = high

-- X has as many items as the test, all of the bank
pub record HasLength (b : Tables) (plan : Plan) (X : Set) : Type 0 where
  pub in_bank : (i : ℕ) → IsTrue (X i) → i < size b
  pub n_items : size_in b X ≡ plan.length

-- the activity of row r lies between its bounds
pub record RowHolds (b : Tables) (plan : Plan) (X : Set) (r : ℕ) : Type 0 where
  pub low : lower_bound (row_at plan r) ≤ activity b (row_at plan r) X (used b X)
  pub high : activity b (row_at plan r) X (used b X) ≤ upper_bound (row_at plan r)

-- stimulus s has no item in X, or a number of items within its bounds
pub record StimulusHolds (b : Tables) (plan : Plan) (X : Set) (s : ℕ) : Type 0 where
  pub low : (items_of b s X ≡ 0) ⊎ ((bound_at plan s).low ≤ items_of b s X)
  pub high : items_of b s X ≤ (bound_at plan s).high

-- X meets the plan
pub record Meets (b : Tables) (plan : Plan) (X : Set) : Type 0 where
  pub right_length : HasLength b plan X
  pub rows : (r : ℕ) → r < length plan.rows → RowHolds b plan X r
  pub stimuli : (s : ℕ) → 0 < s → s ≤ stimuli_of b → StimulusHolds b plan X s

-- X is a form of P: it meets the plan, holds every item given and no item barred
pub record Form (P : Problem) (X : Set) : Type 0 where
  pub meets : Meets P.bank P.plan X
  pub holds_given : (i : ℕ) → IsTrue (P.given i) → IsTrue (X i)
  pub holds_no_barred : (i : ℕ) → IsTrue (P.barred i) → IsFalse (X i)

-- the information of X at the estimate
abbrev pub objective : Problem → Set → ℕ
objective P X = sum_in (size P.bank) X (λ i. info P.bank i P.theta)

-- X is a form, and no form has a greater objective
pub record Best (P : Problem) (X : Set) : Type 0 where
  pub form : Form P X
  pub greatest : (Y : Set) → Form P Y → objective P Y ≤ objective P X

-- no set is a form
pub record HasNoForm (P : Problem) : Type 0 where
  pub none : (Y : Set) → Form P Y → ⊥

-- Y holds all items of X but one
pub record HoldsAllButOne (X Y : Set) : Type 0 where
  pub exchanged : ℕ
  pub others : (i : ℕ) → IsTrue (X i) → (i ≡ exchanged → ⊥) → IsTrue (Y i)

-- X is a form that no exchange of one item betters
pub record Firm (P : Problem) (X : Set) : Type 0 where
  pub form : Form P X
  pub exchanges : (Y : Set) → Form P Y → HoldsAllButOne X Y → objective P Y ≤ objective P X
