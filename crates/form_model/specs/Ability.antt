-- The estimate of the ability: the posterior mode over the grid.
use Rattle.std.specs.Prelude.{◌≡◌, ℕ, zero, suc, ◌-◌, ◌<◌, ◌↔◌, List, ℤ, pos, ◌+ℤ◌, ◌≤ℤ◌, ◌<ℤ◌, int_le, get_or, if◌then◌else◌}
use Rattle.std.specs.List.{fold}
use Rattle.bank_tables.specs.Tables.{Tables, loglik}

-- items with the responses to them
abbrev pub AnswerList : Type 0
AnswerList = List (ℕ × ℕ)

-- the logarithm of the posterior at a grid point, up to a constant: the prior there, plus the
-- log-likelihood of each answer
abbrev pub log_posterior : Tables → List ℤ → AnswerList → ℕ → ℤ
log_posterior b prior answers point = fold (λ sum answer. sum
    +ℤ loglik b answer.0 answer.1 point) (get_or prior point (pos 0)) answers

-- the lowest grid point at which the posterior is greatest
pub record IsPosteriorMode (b : Tables) (prior : List ℤ) (answers : AnswerList)
    (point : ℕ) : Type 0 where
  pub within : point < b.grid
  pub greatest : (g : ℕ) → g < b.grid
      → log_posterior b prior answers g ≤ℤ log_posterior b prior answers point
  pub lowest : (g : ℕ) → g < point
      → log_posterior b prior answers g <ℤ log_posterior b prior answers point

-- the lowest of the numbers 0 to n at which f is greatest
unfoldable pub greatest_at : (ℕ → ℤ) → ℕ → ℕ
greatest_at f zero = 0
greatest_at f (suc n) = if int_le (f (suc n)) (f (greatest_at f n)) then greatest_at f n else suc n

-- the posterior mode as a function, of a grid that has a point
unfoldable pub mode_of : Tables → List ℤ → AnswerList → ℕ
mode_of b prior answers = greatest_at (log_posterior b prior answers) (b.grid - 1)

-- the posterior mode of a grid with points is the value of that function, and nothing else is
abbrev pub ModeIsModeOf : Type 0
ModeIsModeOf = (b : Tables) (prior : List ℤ) (answers : AnswerList) (point : ℕ) → 0 < b.grid
    → IsPosteriorMode b prior answers point ↔ (point ≡ mode_of b prior answers)
