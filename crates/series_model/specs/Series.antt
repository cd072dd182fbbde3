-- Series of test forms that have no item in common, and the best series: the weakest form, by
-- weighted information, is as strong as any series allows (van der Linden, Linear Models for
-- Optimal Test Design, 2005, chapter 6).
use Rattle.std.specs.Prelude.{◌≡◌, ℕ, ◌*◌, ◌≤◌, ◌<◌, List, [], length, get_or, IsTrue}
use Rattle.bank_tables.specs.Items.{Set, has}
use Rattle.bank_tables.specs.Tables.{Tables, size, info}
use Rattle.bank_tables.specs.Sums.{sum_in}
use Rattle.form_model.specs.Plan.{Plan}
use Rattle.bank_tables.specs.Validity.{IsBank}
use Rattle.form_model.specs.Forms.{Meets}
use Rattle.form_model.specs.Validity.{IsPlanFor}

-- what a series is assembled for: an item bank, a plan, the weight of each grid point, and the
-- number of forms
pub record SeriesProblem : Type 0 where
  pub bank : Tables
  pub plan : Plan
  pub weights : List ℕ
  pub forms : ℕ

-- the set of items of each form, by number from 0 on; those past the last form count for nothing
abbrev pub Forms : Type 0
Forms = ℕ → Set

-- the weight of a grid point; a point of weight 0 doesn't count
abbrev pub weight_of : SeriesProblem → ℕ → ℕ
weight_of Q g = get_or Q.weights g 0

-- the information of a set of items at a grid point, times the weight of the point
abbrev pub weighted_information : SeriesProblem → Set → ℕ → ℕ
weighted_information Q X g = weight_of Q g * sum_in (size Q.bank) X (λ i. info Q.bank i g)

-- each set meets the plan, and no item is in two of them
pub record IsSeries (Q : SeriesProblem) (S : Forms) : Type 0 where
  pub meets : (f : ℕ) → f < Q.forms → Meets Q.bank Q.plan (S f)
  pub apart : (f g i : ℕ) → f < Q.forms → g < Q.forms → IsTrue (S f i) → IsTrue (S g i) → f ≡ g

-- V is the least weighted information of a form at a point that counts
pub record IsValue (Q : SeriesProblem) (S : Forms) (V : ℕ) : Type 0 where
  pub least : (f g : ℕ) → f < Q.forms → 0 < weight_of Q g → V ≤ weighted_information Q (S f) g
  pub reached : (f : ℕ) × (g : ℕ) × (f < Q.forms) × (0 < weight_of Q g) × (V ≡ weighted_information Q (S f) g)

-- no series has a value above U
abbrev pub NoneAbove : SeriesProblem → ℕ → Type 0
NoneAbove Q U = (S : Forms) (V : ℕ) → IsSeries Q S → IsValue Q S V → V ≤ U

-- S is a series, and no series has a greater value
pub record BestSeries (Q : SeriesProblem) (S : Forms) : Type 0 where
  pub series : IsSeries Q S
  pub greatest : (V : ℕ) → IsValue Q S V → NoneAbove Q V

-- there is no series
pub record HasNoSeries (Q : SeriesProblem) : Type 0 where
  pub none : (S : Forms) → IsSeries Q S → ⊥

-- ---- what a caller gives

-- the plan is valid for the bank, there are one to four forms, and each grid point has a weight, of
-- which one is above 0
pub record IsSeriesProblem (Q : SeriesProblem) : Type 0 where
  pub bank : IsBank Q.bank
  pub plan : IsPlanFor Q.bank Q.plan
  pub some_forms : 0 < Q.forms
  pub few_forms : Q.forms ≤ 4
  pub each_point : length Q.weights ≡ Q.bank.grid
  pub weights_high : (g : ℕ) → weight_of Q g ≤ 1000
  pub some_weight : (g : ℕ) × (0 < weight_of Q g)

-- the forms of a list of sets, each given as its words
abbrev pub forms_of : List (List ℕ) → Forms
forms_of sets f = has (get_or sets f [])

-- the list has as many sets as there are forms, and they are a series
pub record IsSeriesList (Q : SeriesProblem) (sets : List (List ℕ)) : Type 0 where
  pub number : length sets ≡ Q.forms
  pub series : IsSeries Q (forms_of sets)
