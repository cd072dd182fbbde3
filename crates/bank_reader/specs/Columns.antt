-- The columns of a bank text.
use Rattle.std.specs.Prelude.{ℕ, ◌+◌, ◌*◌, ◌/◌, ◌%◌, ◌-◌, ◌≤◌, ◌==◌, nat_lt, if◌then◌else◌, List, [], ◌∷◌, ◌++◌, get_or, codes}
use Rattle.std.specs.Fmt.{decimal}
use Rattle.bank_reader.specs.declared.item.Shape.{Shape}

-- the text of a column
abbrev pub field : List (List ℕ) → ℕ → List ℕ
field fields c = get_or fields c []

abbrev pub nine_digits : ℕ
nine_digits = 999999999

-- the first column of the log-likelihoods
abbrev pub first_loglik : Shape → ℕ
first_loglik s = 3 + s.quantities + s.grid

-- how many columns there are
abbrev pub width : Shape → ℕ
width s = first_loglik s + s.responses * s.grid

-- what a header may have: up to 8 quantities, 1 to 61 grid points, 2 to 5 responses
pub record IsShape (s : Shape) : Type 0 where
  pub quantities : s.quantities ≤ 8
  pub grid_low : 1 ≤ s.grid
  pub grid : s.grid ≤ 61
  pub responses_low : 2 ≤ s.responses
  pub responses : s.responses ≤ 5

-- the names of the columns of a quantity (`q0`), of the information at a grid point (`i0`), and of
-- the log-likelihood of a response at a grid point (`l0_0`)
abbrev pub quantity_name : ℕ → List ℕ
quantity_name k = (113 ∷ []) ++ decimal k

abbrev pub point_name : ℕ → List ℕ
point_name g = (105 ∷ []) ++ decimal g

abbrev pub loglik_name : ℕ → ℕ → List ℕ
loglik_name r g = (108 ∷ (48 + r) ∷ 95 ∷ []) ++ decimal g

-- the name that a column has under a shape
abbrev pub name_of : Shape → ℕ → List ℕ
name_of s c =
    if (c == 0) then codes "item"
    else if (c == 1) then codes "stimulus"
    else if (c == 2) then codes "categories"
    else if nat_lt c (3 + s.quantities) then quantity_name (c - 3)
    else if nat_lt c (first_loglik s) then point_name (c - (3 + s.quantities))
    else loglik_name ((c - first_loglik s) / s.grid) ((c - first_loglik s) % s.grid)
