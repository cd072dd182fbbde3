-- Histories, lists that only grow: their beginnings, and places in them, counted from 0.
use Rattle.std.specs.Prelude.{◌≡◌, ◌⊎◌, ℕ, zero, suc, ◌<◌, ◌≤◌, ltb, if◌then◌else◌, List, [], ◌∷◌, ◌++◌, length, All, Contains}

-- xs begins with ys
abbrev pub StartsWith : {E : Type 0} → List E → List E → Type 0
StartsWith {E} xs ys = (rest : List E) × (xs ≡ ys ++ rest)

-- a history after a move: at most two entries more
abbrev pub Grows : {E : Type 0} → List E → List E → Type 0
Grows {E} before after = (more : List E) × (after ≡ before ++ more) × (length more ≤ 2)

-- the places of n entries from the place k on
abbrev pub places : ℕ → ℕ → List ℕ
places k zero = []
places k (suc n) = k ∷ places (suc k) n

-- each place is one of a list
abbrev pub ArePlacesIn : {E : Type 0} → List ℕ → List E → Type 0
ArePlacesIn ks xs = All (λ k. k < length xs) ks

-- no place is in both lists
abbrev pub AreDisjoint : List ℕ → List ℕ → Type 0
AreDisjoint ks ls = (k : ℕ) → Contains ks k → Contains ls k → ⊥

-- one of the two begins with the other
abbrev pub AreComparable : {E : Type 0} → List E → List E → Type 0
AreComparable xs ys = StartsWith xs ys ⊎ StartsWith ys xs

-- the longer of two lists, the first where they are of one length
abbrev pub longer_of : {E : Type 0} → List E → List E → List E
longer_of xs ys = if ltb (length xs) (length ys) then ys else xs
