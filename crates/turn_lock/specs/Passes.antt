-- What contracts see of a pass, and what a turn and a join do to it.
use Rattle.std.specs.Prelude.{◌≡◌, ◌⊎◌, ℕ, ◌+◌, ◌-◌, ◌<◌, ◌≤◌, List, [], ◌∷◌, ◌++◌, length, Contains}
use Rattle.atomic_table.specs.Seated.{TableId}
use Rattle.turn_lock.specs.Histories.{StartsWith, Grows, places, ArePlacesIn, AreDisjoint}

-- which lock it is
abbrev pub LockId : Type 0
LockId = TableId

-- `turn` is the lock that the pass is of; `start` is the length of the history when the lock was
-- made; `joined` is how many passes were joined into it, with those that were joined into these;
-- `seen` is a beginning of the history; `mine` has the places in it of the entries of the pass's
-- own turns, and of those of the passes joined into it; `fronts` has the length of `seen` after
-- each of its turns
pub record Known (E : Type 0) : Type 0 where
  pub turn : LockId
  pub number : ℕ
  pub splits : ℕ
  pub start : ℕ
  pub joined : ℕ
  pub seen : List E
  pub mine : List ℕ
  pub fronts : List ℕ

-- a new pass
abbrev pub new_pass : {E : Type 0} → LockId → ℕ → ℕ → List E → Known E
new_pass turn number start seen = record {
  turn = turn;
  number = number;
  splits = 0;
  start = start;
  joined = 0;
  seen = seen;
  mine = [];
  fronts = [];
}

-- what one turn does to a pass: its move was made on a value with the history `before`, which
-- begins with all that the pass had seen; afterwards the pass has seen the whole history, and what
-- the move added is its own
pub record TakesTurn {E : Type 0} (old new : Known E) (before : List E) : Type 0 where
  pub turn : new.turn ≡ old.turn
  pub number : new.number ≡ old.number
  pub splits : new.splits ≡ old.splits
  pub start : new.start ≡ old.start
  pub joined : new.joined ≡ old.joined
  pub begins : StartsWith before old.seen
  pub grows : Grows before new.seen
  pub mine : new.mine ≡ old.mine ++ places (length before) (length new.seen - length before)
  pub within : ArePlacesIn new.mine new.seen
  pub fronts : new.fronts ≡ old.fronts ++ length new.seen ∷ []

-- what a join does to a pass: of what the two had seen one begins the other, and the longer is
-- kept; no place was the own of both, and all of them are the pass's own now
pub record TakesIn {E : Type 0} (old other new : Known E) : Type 0 where
  pub turn : new.turn ≡ old.turn
  pub number : new.number ≡ old.number
  pub splits : new.splits ≡ old.splits
  pub start : new.start ≡ old.start
  pub joined : new.joined ≡ old.joined + other.joined + 1
  pub seen : (StartsWith old.seen other.seen × (new.seen ≡ old.seen)) ⊎ (StartsWith other.seen old.seen × (new.seen ≡ other.seen))
  pub apart : AreDisjoint old.mine other.mine
  pub mine : new.mine ≡ old.mine ++ other.mine
  pub within : ArePlacesIn new.mine new.seen
  pub fronts : new.fronts ≡ old.fronts

-- the first pass at the end, if as many passes were joined into it as were split from it: it has
-- seen the whole history, and each entry after the start is its own
abbrev pub KnowsAll : {E : Type 0} → List E → Known E → Type 0
KnowsAll history pass = pass.number ≡ 0 → pass.splits ≤ pass.joined
    → (history ≡ pass.seen) × ((place : ℕ) → pass.start ≤ place → place < length history → Contains pass.mine place)
