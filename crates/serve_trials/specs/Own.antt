-- Lists of numbers that passes append, and the places of each pass.
use Rattle.std.specs.Prelude.{◌≡◌, ℕ, ◌+◌, Bool, List, [], ◌∷◌, ◌++◌, length, slice_get, Some, All, IsTrue, MatchBool}
use Rattle.turn_lock.specs.Histories.{AreDisjoint}
use Rattle.turn_lock.specs.Passes.{LockId, Known}

-- the number was appended, or there was no memory
abbrev pub Appends : ℕ → List ℕ → List ℕ → Bool → Type 0
Appends n before after answer = MatchBool answer (after ≡ before ++ n ∷ []) (after ≡ before)

-- the list has the number n at each of these places
abbrev pub HasAt : ℕ → List ℕ → List ℕ → Type 0
HasAt n items places = All (λ k. slice_get items k ≡ Some n) places

-- the passes 0 and 1 have so many places each, at which the list has their numbers, and no place in
-- common
pub record HasBoth (count : ℕ) (items : List ℕ) : Type 0 where
  pub first : List ℕ
  pub second : List ℕ
  pub apart : AreDisjoint first second
  pub counts : (length first ≡ count) × (length second ≡ count)
  pub firsts : HasAt 0 items first
  pub seconds : HasAt 1 items second

-- a pass between its turns, which has appended nothing but its number
pub record IsReady (turn : LockId) (pass : Known ℕ) : Type 0 where
  pub of : pass.turn ≡ turn
  pub own : HasAt pass.number pass.seen pass.mine

-- some turns of a pass, which so many entries of its own came of, if `all` of the turns appended
pub record AppendsOwn (turn : LockId) (count : ℕ) (old new : Known ℕ) (all : Bool) : Type 0 where
  pub ready : IsReady turn new
  pub number : new.number ≡ old.number
  pub longer : IsTrue all → length new.mine ≡ length old.mine + count

-- such a pass with a number, which has so many places where `all` of its turns appended
pub record HasRun (turn : LockId) (number count : ℕ) (pass : Known ℕ) (all : Bool) : Type 0 where
  pub of : pass.turn ≡ turn
  pub own : HasAt number pass.seen pass.mine
  pub count_is : IsTrue all → length pass.mine ≡ count
