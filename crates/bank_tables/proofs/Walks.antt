-- A walk over the members of a set, from the lowest on.
use Rattle.std.proofs.Common.{◌≡◌, ℕ, ◌+◌, ◌<◌, ◌≤◌, inl, inr, true, false, not, ◌&&◌, ◌==◌, nat_lt, refl, arith}
use Rattle.std.proofs.lemmas.Bool.{cases_lt, cases_eq, lt-ltb, le-ltb, eq-eqb, ne_eqb, and_right}
use Rattle.bank_tables.specs.Items.{Set, IsLowestFrom}

-- the members of X from a number on: those that the walk has yet to look at
abbrev pub rest_from : ℕ → Set → Set
rest_from at X h = not (nat_lt h at) && X h

pub all_rest : (X : Set) (h : ℕ) → rest_from 0 X h ≡ X h
all_rest X h = rw (le-ltb h 0 (omega arith)) refl

pub none_rest : (at : ℕ) (X : Set) → ((i : ℕ) → at ≤ i → X i ≡ false) → (h : ℕ) → rest_from at X h ≡ false
none_rest at X none h =
    elim (cases_lt h at) [
      | inl low ↦ rw (lt-ltb h at low) refl
      | inr high ↦ and_right (not (nat_lt h at)) (X h) (none h high)
    ]

-- the lowest member from `at` on is past n, so none is left below n
pub none_rest_below : (at i n : ℕ) (X : Set) → n ≤ i → IsLowestFrom X at i → (h : ℕ) → h < n → rest_from at X h ≡ false
none_rest_below at i n X past lowest h w =
    elim (cases_lt h at) [
      | inl low ↦ rw (lt-ltb h at low) refl
      | inr high ↦ and_right (not (nat_lt h at)) (X h) (lowest.below h high (omega arith))
    ]

pub in_rest : (at i : ℕ) (X : Set) → IsLowestFrom X at i → rest_from at X i ≡ true
in_rest at i X lowest = rw (le-ltb i at lowest.high, lowest.member) refl

-- a member is taken, and the walk goes on after it
pub next_rest : (at i : ℕ) (X : Set) → IsLowestFrom X at i → (h : ℕ) → rest_from (i + 1) X h ≡ (not (h == i) && rest_from at X h)
next_rest at i X lowest h =
    elim (cases_lt h at) [
      | inl low ↦ rw (lt-ltb h at low, lt-ltb h (i + 1) (omega (arith, lowest.high)), ne_eqb h i (omega (arith, lowest.high))) refl
      | inr high ↦
          elim (cases_lt h i) [
            | inl before ↦ rw (lt-ltb h (i + 1) (omega arith), ne_eqb h i (omega arith), le-ltb h at high, lowest.below h high before) refl
            | inr past ↦
                elim (cases_eq h i) [
                  | inl this ↦ rw (lt-ltb h (i + 1) (omega arith), eq-eqb h i this) refl
                  | inr ne ↦ rw (le-ltb h (i + 1) (omega arith), ne_eqb h i ne, le-ltb h at high) refl
                ]
          ]
    ]
