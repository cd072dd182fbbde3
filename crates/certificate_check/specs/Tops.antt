-- The items of greatest weight.
use Rattle.std.specs.Prelude.{◌≡◌, ℕ, ◌+◌, ◌*◌, ◌<◌, ◌≤◌, List, length, get_or, ◌≤ℤ◌, ℤ, true, IsTrue, IsFalse, Option, Some, None}
use Rattle.bank_tables.specs.Items.{Set}
use Rattle.bank_tables.specs.Sums.{count_in}
use Rattle.certificate_model.specs.Ranges.{at}

-- a member of F outside T below n with the greatest weight of these, or none
abbrev pub IsNextBest : ℕ → List ℤ → Set → Set → Option ℕ → Type 0
IsNextBest n weights F T None = (i : ℕ) → i < n → IsTrue (F i) → IsTrue (T i)
IsNextBest n weights F T (Some i) = (i < n) × IsTrue (F i) × IsFalse (T i) × ((j : ℕ) → j < n → IsTrue (F j) → IsFalse (T j) → at weights j ≤ℤ at weights i)

-- the same of the numbers from one on and below another
abbrev pub IsBest : ℕ → ℕ → ℕ → List ℤ → Set → Set → Option ℕ → Type 0
IsBest from to n weights F T None = (i : ℕ) → from ≤ i → i < to → i < n → IsTrue (F i) → IsTrue (T i)
IsBest from to n weights F T (Some i) =
    (from ≤ i) × (i < to) × (i < n) × IsTrue (F i) × IsFalse (T i) × ((j : ℕ) → from ≤ j → j < to → j < n → IsTrue (F j) → IsFalse (T j) → at weights j ≤ℤ at weights i)

-- so they are of each block of 16 numbers
pub record AreLeaders (n : ℕ) (weights : List ℤ) (F T : Set) (leaders : List (Option ℕ)) : Type 0 where
  pub number : length leaders ≡ 32
  pub best : (b : ℕ) → b < 32 → IsBest (16 * b) (16 * b + 16) n weights F T (get_or leaders b None)

-- T are k members of F below n, and no other one has a greater weight than one of them
pub record IsTopOf (n : ℕ) (weights : List ℤ) (F : Set) (k : ℕ) (T : Set) : Type 0 where
  pub below : (i : ℕ) → IsTrue (T i) → i < n
  pub within : (i : ℕ) → IsTrue (T i) → IsTrue (F i)
  pub number : count_in n T (λ _. true) ≡ k
  pub greatest : (i j : ℕ) → IsTrue (T i) → j < n → IsTrue (F j) → IsFalse (T j) → at weights j ≤ℤ at weights i
