-- What turns of its own do to a pass.
use Rattle.std.specs.Prelude.{◌≡◌, ℕ, suc, ◌<◌, ◌≤◌, List, [], ◌∷◌, ◌++◌, length, slice_get, filter_map, All}
use Rattle.turn_lock.specs.Histories.{StartsWith}
use Rattle.turn_lock.specs.Passes.{Known}

-- numbers that rise, from n on
abbrev pub Rising : ℕ → List ℕ → Type 0
Rising n [] = Unit {0}
Rising n (p ∷ ps) = (n ≤ p) × Rising (suc p) ps

-- the elements at places
abbrev pub taken : {E : Type 0} → List E → List ℕ → List E
taken S ps = filter_map (λ p. slice_get S p) ps

-- lengths that don't fall, from n on; the last is m
abbrev pub GrowsTo : ℕ → List ℕ → ℕ → Type 0
GrowsTo n [] m = m ≡ n
GrowsTo n (k ∷ ks) m = (n ≤ k) × GrowsTo k ks m

-- the pass took turns: what it had seen begins what it has seen now; `fronts` has the length after
-- each turn, the last of all that it has seen now, `ps` the places of what these turns added, each
-- once and in order, after all that it had seen before
pub record Went {E : Type 0} (old new : Known E) (fronts ps : List ℕ) : Type 0 where
  pub turn : new.turn ≡ old.turn
  pub number : new.number ≡ old.number
  pub splits : new.splits ≡ old.splits
  pub seen : StartsWith new.seen old.seen
  pub turns : new.fronts ≡ old.fronts ++ fronts
  pub lengths : GrowsTo (length old.seen) fronts (length new.seen)
  pub own : new.mine ≡ old.mine ++ ps
  pub rising : Rising (length old.seen) ps
  pub below : All (λ p. p < length new.seen) ps
