-- A bank with stimuli and a quantity, under a plan with a row of each kind: what holds and what
-- fails, on each side.
use Rattle.std.proofs.Common.{◌≡◌, ℕ, zero, suc, ◌<◌, inl, inr, Bool, true, false, List, [], ◌∷◌, pos, negsuc, None, Some, refl, sym, ◌∙◌, arith}
use Rattle.std.specs.Prelude.{replicate}
use Rattle.std.proofs.Math.Dec.{lit≤}
use Rattle.std.proofs.Math.Bool.{true≢false}
use Rattle.bank_tables.specs.Items.{has}
use Rattle.bank_tables.specs.Faults.{bank_fault, item_fault}
use Rattle.bank_tables.specs.Tables.{Tables, Item, loglik}
use Rattle.bank_tables.specs.Validity.{IsBank}
use Rattle.bank_tables.proofs.BankLaws.{bank_is}
use Rattle.form_model.specs.declared.row.Row.TheVariants.{Count, Quantity, Enemies, Stimuli}
use Rattle.form_model.specs.declared.breach.Breach.TheVariants.{Stimulus, Given, Row as RowBreach}
use Rattle.form_model.specs.Plan.{Plan, row_at, no_row}
use Rattle.form_model.specs.Problem.{Problem, whole}
use Rattle.form_model.specs.Forms.{RowHolds, StimulusHolds, Form, used, activity}
use Rattle.form_model.specs.Breaches.{IsFirstBreach}
use Rattle.form_model.proofs.Computed.{these, these_below, one_word, row_test, stimulus_test, row_is, row_from, stimulus_is, stimulus_from, form_is, meets_is}

-- stimulus, quantity, information
unfoldable pub item_r : ℕ → ℕ → ℕ → Item
item_r stimulus quantity info = record { stimulus = stimulus; categories = 2; quantities = quantity ∷ []; info = info ∷ []; loglik = negsuc 0 ∷ negsuc 1 ∷ [] }

unfoldable pub bank_r : Tables
unfolding item_r
bank_r = record { grid = 1; quantities = 1; items = item_r 1 10 9 ∷ item_r 1 20 3 ∷ item_r 1 30 2 ∷ item_r 0 40 8 ∷ item_r 0 50 7 ∷ item_r 2 60 1 ∷ [] }

is_bank_r : IsBank bank_r
unfolding bank_r item_r bank_fault item_fault
is_bank_r = bank_is bank_r refl

unfoldable pub plan_r : Plan
plan_r =
    record {
      length = 3;
      prior = pos 0 ∷ [];
      rows = Count (one_word 7) 1 2 ∷ Quantity 0 (one_word 63) 60 100 ∷ Enemies (one_word 24) ∷ Stimuli 1 1 ∷ [];
      bounds = record { low = 2; high = 2 } ∷ record { low = 1; high = 1 } ∷ [];
      rate = record { num = 1; den = 1 };
      key = replicate 32 0;
      bands = [];
      budget = 2001;
      base_budget = 4095;
      sessions = 1000;
      journal = 67108864;
      base = None;
    }

unfoldable pub problem_r : Problem
problem_r = whole bank_r plan_r 0

-- ---- rows hold and fail, on each side
-- row r holds of a set of items, or fails
abbrev holds : List ℕ → ℕ → Bool
holds items = row_test bank_r plan_r (these items)

-- from 1 to 2 of items 0, 1 and 2
count_rows : (holds (0 ∷ []) 0 ≡ true) × (holds (0 ∷ 1 ∷ []) 0 ≡ true) × (holds (0 ∷ 1 ∷ 2 ∷ []) 0 ≡ false) × (holds (3 ∷ []) 0 ≡ false)
unfolding bank_r item_r plan_r has
count_rows = (refl, refl, refl, refl)

-- from 60 to 100 of the quantity
quantity_rows : (holds (0 ∷ 4 ∷ []) 1 ≡ true) × (holds (3 ∷ 5 ∷ []) 1 ≡ true) × (holds (4 ∷ 5 ∷ []) 1 ≡ false) × (holds (0 ∷ 3 ∷ []) 1 ≡ false)
unfolding bank_r item_r plan_r has
quantity_rows = (refl, refl, refl, refl)

-- at most one of items 3 and 4
enemies_rows : (holds [] 2 ≡ true) × (holds (3 ∷ []) 2 ≡ true) × (holds (3 ∷ 4 ∷ []) 2 ≡ false)
unfolding bank_r item_r plan_r has
enemies_rows = (refl, refl, refl)

-- one stimulus; items of no stimulus count for none
stimuli_rows : (holds (0 ∷ 1 ∷ []) 3 ≡ true) × (holds (0 ∷ 5 ∷ []) 3 ≡ false) × (holds (3 ∷ 4 ∷ []) 3 ≡ false)
unfolding bank_r item_r plan_r
stimuli_rows = (refl, refl, refl)

-- a row holds exactly where its test is true
two_enemies : RowHolds bank_r plan_r (these (3 ∷ 4 ∷ [])) 2 → ⊥
two_enemies h = true≢false (sym (row_from bank_r plan_r (these (3 ∷ 4 ∷ [])) 2 h) ∙ enemies_rows.2)

at_upper_bound : RowHolds bank_r plan_r (these (3 ∷ 5 ∷ [])) 1
at_upper_bound = row_is bank_r plan_r (these (3 ∷ 5 ∷ [])) 1 quantity_rows.1

one_enemy : RowHolds bank_r plan_r (these (3 ∷ [])) 2
one_enemy = row_is bank_r plan_r (these (3 ∷ [])) 2 enemies_rows.1

-- past the last row is one that every set meets
no_row_is_met : (activity bank_r no_row (these (0 ∷ 5 ∷ [])) (used bank_r (these (0 ∷ 5 ∷ []))) ≡ 0) × (row_at plan_r 9 ≡ no_row)
unfolding bank_r item_r plan_r has
no_row_is_met = (refl, refl)

-- ---- a stimulus has no items, or a number within its bounds
stimulus_rows : (stimulus_test bank_r plan_r (these (3 ∷ [])) 1 ≡ true) × (stimulus_test bank_r plan_r (these (0 ∷ [])) 1 ≡ false) × (stimulus_test bank_r plan_r (these (0 ∷ 2 ∷ [])) 1 ≡ true) × (stimulus_test bank_r plan_r (these (0 ∷ 1 ∷ 2 ∷ [])) 1 ≡ false)
unfolding bank_r item_r plan_r
stimulus_rows = (refl, refl, refl, refl)

without_items : StimulusHolds bank_r plan_r (these (3 ∷ [])) 1
without_items = stimulus_is bank_r plan_r (these (3 ∷ [])) 1 stimulus_rows.0

too_few_items : StimulusHolds bank_r plan_r (these (0 ∷ [])) 1 → ⊥
too_few_items h = true≢false (sym (stimulus_from bank_r plan_r (these (0 ∷ [])) 1 h) ∙ stimulus_rows.1)

-- ---- a form with a whole stimulus, and sets that fail at the stimulus or at the row before
form_r : Form problem_r (these (0 ∷ 1 ∷ 3 ∷ []))
unfolding problem_r bank_r item_r plan_r has
form_r = form_is problem_r (these (0 ∷ 1 ∷ 3 ∷ [])) (these_below 6 (0 ∷ 1 ∷ 3 ∷ []) refl) (λ i e. absurd (cc)) refl

-- items 1, 2 and 5 have 110 of the quantity, 10 too many
breach_row : IsFirstBreach problem_r (these (1 ∷ 2 ∷ 5 ∷ [])) (Some (RowBreach 1 110))
unfolding problem_r bank_r item_r plan_r has
breach_row = (
  record { in_bank = these_below 6 (1 ∷ 2 ∷ 5 ∷ []) refl; n_items = refl },
  before,
  lit≤ tt,
  λ h. let high = h.high in omega arith,
  refl,
)
  where
    before : (q : ℕ) → q < 1 → RowHolds bank_r plan_r (these (1 ∷ 2 ∷ 5 ∷ [])) q
    before zero w = row_is bank_r plan_r (these (1 ∷ 2 ∷ 5 ∷ [])) 0 refl
    before (suc q) w = absurd (omega arith)

-- a plan without rows leaves the bounds of the stimuli: item 0 alone of stimulus 1 is the first
-- breach
unfoldable pub plan_bounds : Plan
unfolding plan_r
plan_bounds = record plan_r { rows = [] }

breach_stimulus : IsFirstBreach (whole bank_r plan_bounds 0) (these (0 ∷ 3 ∷ 5 ∷ [])) (Some (Stimulus 1 1))
unfolding bank_r item_r plan_r plan_bounds
breach_stimulus = (
  record { in_bank = these_below 6 (0 ∷ 3 ∷ 5 ∷ []) refl; n_items = refl },
  λ q w. absurd (omega arith),
  λ t first before. absurd (omega arith),
  lit≤ tt,
  lit≤ tt,
  λ h. elim h.low [ inl none ↦ omega arith | inr low ↦ omega arith ],
  refl,
)

-- a set that meets the plan but lacks an item given
breach_given : IsFirstBreach (record (whole bank_r plan_r 0) { given = these (4 ∷ []) }) (these (0 ∷ 1 ∷ 3 ∷ [])) (Some (Given 4))
unfolding bank_r item_r plan_r has
breach_given = (meets_is bank_r plan_r (these (0 ∷ 1 ∷ 3 ∷ [])) (these_below 6 (0 ∷ 1 ∷ 3 ∷ []) refl) refl, before, refl, refl)
  where
    before : (j : ℕ) → j < 4 → these (4 ∷ []) j ≡ true → these (0 ∷ 1 ∷ 3 ∷ []) j ≡ true
    before zero w e = refl
    before (suc zero) w e = refl
    before (suc (suc zero)) w e = absurd (true≢false (sym e))
    before (suc (suc (suc zero))) w e = refl
    before (suc (suc (suc (suc j)))) w e = absurd (omega arith)

-- past the grid a log-likelihood is that of the next response: it is read below the grid alone
past_the_grid : loglik bank_r 0 0 1 ≡ loglik bank_r 0 1 0
unfolding bank_r item_r
past_the_grid = refl
