-- What holds of the lock's table between any two steps.
use Rattle.std.specs.Prelude.{◌≡◌, ◌⊎◌, ◌≢◌, ℕ, ◌+◌, ◌%◌, ◌^◌, ◌<◌, ◌≤◌, true, false, if◌then◌else◌, List, [], ◌∷◌, length, slice_index, sum_by, Option, Some, None, Contains}
use mathlib.Core.Option.{none, some}
use lib.ListN.{get_elem?}
use Rattle.atomic_table.specs.Table.{State}
use Rattle.turn_lock.specs.declared.view.View.{View}
use Rattle.turn_lock.specs.declared.view.BeforeJoin.{BeforeJoin}
use Rattle.turn_lock.specs.Histories.{AreDisjoint, ArePlacesIn, StartsWith}
use Rattle.turn_lock.specs.Seats.{Agrees}

-- 1 for a ticket
abbrev pub one_ticket : Option ℕ → ℕ
one_ticket None = 0
one_ticket (Some t) = 1

abbrev pub tickets_of : {E : Type 0} → View E → ℕ
tickets_of v = one_ticket v.ticket

-- each view meets a fact about its number in the list; each two views meet one about both
abbrev pub Each : {A : Type 0} → (ℕ → A → Type 0) → List A → Type 0
Each {A} P views = (id : ℕ) (v : A) → get_elem? views id ≡ some v → P id v

abbrev pub Pairs : {A : Type 0} → (A → A → Type 0) → List A → Type 0
Pairs {A} P views = (i j : ℕ) (v w : A) → i ≢ j → get_elem? views i ≡ some v → get_elem? views j ≡ some w → P v w

-- one view beside the history, the ticket `from` that is served and the next ticket `to`: it has
-- seen a beginning, in which its own places are; its ticket is one of those between; the value is
-- out with it only while its ticket is served, and it has then seen the whole history
pub record Fits {E : Type 0} (log : List E) (from to id : ℕ) (v : View E) : Type 0 where
  pub seen : StartsWith log v.seen
  pub mine : ArePlacesIn v.mine v.seen
  pub ticket : (t : ℕ) → v.ticket ≡ Some t → (from ≤ t) × (t < to)
  pub served : v.served ≡ true → v.ticket ≡ Some from
  pub out : v.out ≡ true → (v.served ≡ true) × (v.seen ≡ log)
  pub number : v.live ≡ true → v.number ≡ id
  pub join : (j : BeforeJoin E) → v.join ≡ Some j → Agrees j

-- two views have no ticket and no place in common
pub record AreApart {E : Type 0} (v w : View E) : Type 0 where
  pub tickets : (t : ℕ) → v.ticket ≡ Some t → w.ticket ≡ Some t → ⊥
  pub places : AreDisjoint v.mine w.mine

-- a pass and those joined into it; none where it was joined into another
abbrev pub passes_in : {E : Type 0} → View E → ℕ
passes_in v = if v.live then 1 + v.joined else 0

-- one view of a lock that was made at a history of `start` entries: it has seen these, and has a
-- ticket only while it is live
pub record IsSince {E : Type 0} (start id : ℕ) (v : View E) : Type 0 where
  pub began : v.live ≡ true → (v.start ≡ start) × (start ≤ length v.seen)
  pub alive : (t : ℕ) → v.ticket ≡ Some t → v.live ≡ true

-- the place is the own of a live view
abbrev pub IsOwned : {E : Type 0} → List (View E) → ℕ → Type 0
IsOwned {E} views place = (id : ℕ) × (v : View E) × (get_elem? views id ≡ some v) × (v.live ≡ true) × Contains v.mine place

-- no pass and no entry is lost: each view was joined into a live one, or is live, and each entry
-- after the start is the own of one
pub record AreAllThere {E : Type 0} (log : List E) (views : List (View E)) : Type 0 where
  pub start : ℕ
  pub each : Each (IsSince start) views
  pub many : sum_by passes_in views ≡ length views
  pub owned : (place : ℕ) → start ≤ place → place < length log → IsOwned views place

module _ {V E : Type 0} (history : V → List E) where
  -- the value is at home with the whole history, or out with one view
  abbrev pub IsPlaced : List E → State (Option V) (View E) → Type 0
  IsPlaced log s =
      ((x : V) × (s.homes ≡ some (Some x) ∷ []) × (history x ≡ log) × Each (λ _ v. v.out ≡ false) s.views)
      ⊎ ((id : ℕ) × (v : View E) × (get_elem? s.views id ≡ some v) × (v.out ≡ true) × (s.homes ≡ none ∷ []))

  -- `log` is the history, `from` the ticket that is served, `to` the next ticket: both unbounded,
  -- the words have their rests modulo 2^64. Each ticket from the one on and before the other is in
  -- one view (`busy` counts them, `each` and `pairs` keep them in range and apart). While the first
  -- pass is live, there is one view more than it was split (`first`)
  pub record AreInTurn (s : State (Option V) (View E)) : Type 0 where
    pub log : List E
    pub from : ℕ
    pub to : ℕ
    pub long : length s.words ≡ 3
    pub ticket : slice_index s.words 0 ≡ to % 2 ^ 64
    pub serving : slice_index s.words 1 ≡ from % 2 ^ 64
    pub count : slice_index s.words 2 ≡ length log
    pub busy : to ≡ from + sum_by tickets_of s.views
    pub few : length s.views ≤ 65536
    pub first : (v : View E) → get_elem? s.views 0 ≡ some v → v.live ≡ true → length s.views ≡ v.splits + 1
    pub each : Each (Fits log from to) s.views
    pub pairs : Pairs AreApart s.views
    pub place : IsPlaced log s

  pub record Holds (s : State (Option V) (View E)) : Type 0 where
    pub turns : AreInTurn s
    pub passes : AreAllThere turns.log s.views
