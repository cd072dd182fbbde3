-- Running sums over the ability grid.
use Rattle.std.specs.Prelude.{◌≡◌, ℕ, ◌+◌, ◌*◌, ◌≤◌, ◌<◌, List, length, get_or, ℤ, pos, negsuc, ◌≤ℤ◌, ◌<ℤ◌}
use Rattle.bank_tables.specs.Tables.{Tables}
use Rattle.form_model.specs.Ability.{AnswerList, log_posterior}

-- a grid of so many points, how many answers were added, and a sum at each point; the values past
-- the grid are not read
pub record Running : Type 0 where
  pub grid : ℕ
  pub additions : ℕ
  pub values : List ℤ

-- read only at a point of the grid
abbrev pub sum_at : Running → ℕ → ℤ
sum_at running point = get_or running.values point (pos 0)

-- a prior is in the range of 32 bits, and an answer takes away at most 10,000,000
pub record IsRunning (running : Running) : Type 0 where
  pub some_points : 0 < running.grid
  pub few_points : running.grid ≤ 61
  pub room : running.grid ≤ length running.values
  pub few_additions : running.additions ≤ 512
  pub low : (point : ℕ) → point < running.grid → negsuc (2147483647 + running.additions * 10000000) ≤ℤ sum_at running point
  pub high : (point : ℕ) → point < running.grid → sum_at running point ≤ℤ pos 2147483647

-- the sums are those of the prior and the answers
pub record IsSumsOf (b : Tables) (prior : List ℤ) (answers : AnswerList) (running : Running) : Type 0 where
  pub same_grid : running.grid ≡ b.grid
  pub number : running.additions ≡ length answers
  pub sums : (point : ℕ) → point < b.grid → sum_at running point ≡ log_posterior b prior answers point

-- the lowest point of the grid at which the sum is greatest
pub record IsLowestGreatest (running : Running) (point : ℕ) : Type 0 where
  pub within : point < running.grid
  pub greatest : (g : ℕ) → g < running.grid → sum_at running g ≤ℤ sum_at running point
  pub lowest : (g : ℕ) → g < point → sum_at running g <ℤ sum_at running point
