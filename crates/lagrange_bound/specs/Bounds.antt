-- Bounds on the forms of a path.
use Rattle.std.specs.Prelude.{◌*◌, Bool, true, false, IsTrue, ℤ, pos, ◌≤ℤ◌, Option, Some, None}
use Rattle.bank_tables.specs.Items.{Set}
use Rattle.form_model.specs.Problem.{Problem}
use Rattle.form_model.specs.Forms.{objective}
use Rattle.certificate_model.specs.Paths.{Path, Under}
use Rattle.certificate_model.specs.Relaxed.{Multipliers, IsRelaxedMaximum}
use Rattle.certificate_model.specs.Counting.{length_impossible}

-- the number is the relaxed maximum; there is none exactly where the length is impossible by
-- counting
abbrev pub IsBound : Problem → Path → Multipliers → Bool → Option ℤ → Type 0
IsBound P p v ray None = IsTrue (length_impossible P p)
IsBound P p v ray (Some r) = IsRelaxedMaximum P p v ray r

-- the number that a bound must be at least: 256 times the objective of a form, or 0 for a ray
abbrev pub bounded_value : Problem → Bool → Set → ℤ
bounded_value P true X = pos 0
bounded_value P false X = pos (256 * objective P X)

-- no form on the path exceeds it
abbrev pub IsAboveForms : Problem → Path → Bool → ℤ → Type 0
IsAboveForms P p ray r = (X : Set) → Under P p X → bounded_value P ray X ≤ℤ r
