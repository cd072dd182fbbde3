-- When one vector is no worse than another.
use Rattle.std.specs.Prelude.{Bool, ℤ, ◌≤ℤ◌, Option, Some, None}
use Rattle.form_model.specs.Problem.{Problem}
use Rattle.certificate_model.specs.Paths.{Path}
use Rattle.certificate_model.specs.Relaxed.{Multipliers, IsRelaxedMaximum}

-- the relaxed maximum of the vector `to` is at most that of `from`
abbrev pub IsNoHigher : Problem → Path → Bool → Multipliers → Multipliers → Type 0
IsNoHigher P p ray from to = (r q : ℤ) → IsRelaxedMaximum P p from ray r → IsRelaxedMaximum P p to ray q → q ≤ℤ r

-- both numbers are there, and the first is at most the second
abbrev pub AreInOrder : Option ℤ → Option ℤ → Type 0
AreInOrder None to = ⊥
AreInOrder (Some q) None = ⊥
AreInOrder (Some q) (Some r) = q ≤ℤ r
