-- The item served from a form.
use Rattle.std.specs.Prelude.{ℕ, ◌≤◌, ◌<◌, true, not, ◌&&◌, ◌==◌, IsTrue, Option, Some, None, Bool, if◌then◌else◌}
use Rattle.bank_tables.specs.Items.{Set}
use Rattle.bank_tables.specs.Sums.{any_below}
use Rattle.bank_tables.specs.Tables.{Tables, size, info, stimulus}
use Rattle.form_model.specs.Problem.{Problem}

-- an item of X not yet given
abbrev pub is_not_given : Problem → Set → Set
is_not_given P X i = X i && not (P.given i)

-- the stimulus of the item given last, or 0
abbrev pub last_stimulus : Tables → Option ℕ → ℕ
last_stimulus b None = 0
last_stimulus b (Some item) = stimulus b item

-- the item given last has a stimulus, and X has an item of it not yet given
abbrev pub stimulus_goes_on : Problem → Set → Bool
stimulus_goes_on P X =
    not (last_stimulus P.bank P.last == 0) && any_below (size P.bank) (λ i. is_not_given P X i
    && stimulus P.bank i == last_stimulus P.bank P.last)

-- the items of X not yet given: those of the stimulus that goes on, if one does
abbrev pub is_candidate : Problem → Set → Set
is_candidate P X i = is_not_given P X i
    && (if stimulus_goes_on P X then stimulus P.bank i == last_stimulus P.bank P.last else true)

-- the next item: of the candidates those of the greatest information at the estimate, of these the
-- lowest number
pub record IsNext (P : Problem) (X : Set) (item : ℕ) : Type 0 where
  pub candidate : IsTrue (is_candidate P X item)
  pub greatest : (i : ℕ) → IsTrue (is_candidate P X i)
      → info P.bank i P.theta ≤ info P.bank item P.theta
  pub lowest : (i : ℕ) → IsTrue (is_candidate P X i) → i < item
      → info P.bank i P.theta < info P.bank item P.theta
