-- Reduced weights as the code adds them up, and how far from 0 they may be.
use Rattle.std.specs.Prelude.{◌≡◌, ℕ, Bool, if◌then◌else◌, List, ℤ, pos, ◌+ℤ◌, Some}
use Rattle.bank_tables.specs.Sums.{total_z}
use Rattle.bank_tables.specs.Tables.{stimulus}
use Rattle.form_model.specs.Problem.{Problem}
use Rattle.certificate_model.specs.Paths.{Path}
use Rattle.certificate_model.specs.Ranges.{IsWithin, at}
use Rattle.certificate_model.specs.Weights.{price, weight, item_share, price_of_stimulus}
use Rattle.certificate_model.specs.Relaxed.{cap_side, excess_over, is_linked}

-- the new number is the old one with some added, that lies within so much of 0
pub record IsAdded (top : ℕ) (old some new : ℤ) : Type 0 where
  pub within : IsWithin top some
  pub sum : new ≡ old +ℤ some

-- no weight of an item, and none of a stimulus, is further from 0
abbrev pub item_top : ℕ
item_top = 141835091722240

abbrev pub stimulus_top : ℕ
stimulus_top = 703676704358400

-- nor is what the items of a stimulus have above the cap
abbrev pub excess_top : ℕ
excess_top = 72619575551721472

-- nor is what a stimulus adds
abbrev pub gain_top : ℕ
gain_top = 73323252256079872

-- nor is a relaxed maximum
abbrev pub maximum_top : ℕ
maximum_top = 4909983772838985728

-- the weight of an item with the first rows alone
abbrev pub weight_up_to : Problem → (ℕ → ℕ) → Bool → ℕ → ℕ → ℤ
weight_up_to P M ray n i = pos (weight P ray i) +ℤ (total_z n (item_share P M i) +ℤ price_of_stimulus P M (stimulus P.bank i))

-- what an item has above the cap in an array of weights, where it is a free item of an open
-- stimulus
abbrev pub excess_at : Problem → Path → (ℕ → ℕ) → List ℤ → ℕ → ℤ
excess_at P p M weights i = if is_linked P p i then excess_over (Some (price M cap_side)) (at weights i) else pos 0
