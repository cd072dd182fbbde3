-- What counting finds on a path.
use Rattle.std.specs.Prelude.{◌≡◌, ℕ, ◌+◌, ◌<◌, ◌≤◌, true, false, IsTrue, IsFalse, Option, Some, None}
use Rattle.bank_tables.specs.Items.{Set}
use Rattle.form_model.specs.Problem.{Problem}
use Rattle.certificate_model.specs.Paths.{Path, is_free}
use Rattle.form_model.specs.Forms.{size_in}
use Rattle.certificate_model.specs.Counting.{length_impossible}

-- so many free items fill the test, and there are as many; or the length is impossible by counting
abbrev pub IsWanted : Problem → Path → Option ℕ → Type 0
IsWanted P p None = IsTrue (length_impossible P p)
IsWanted P p (Some k) = IsFalse (length_impossible P p) × (size_in P.bank p.taken + k ≡ P.plan.length) × (k ≤ size_in P.bank (is_free P p))

-- the first of the numbers below n that pass, or none
abbrev pub IsFirstWhere : ℕ → Set → Option ℕ → Type 0
IsFirstWhere n test None = (k : ℕ) → k < n → test k ≡ false
IsFirstWhere n test (Some k) = (k < n) × (test k ≡ true) × ((j : ℕ) → j < k → test j ≡ false)
