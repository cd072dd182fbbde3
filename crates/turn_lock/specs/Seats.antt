-- What the seats of the lock's table know, and how a split and a join change it.
use Rattle.std.specs.Prelude.{◌≡◌, ℕ, ◌+◌, ◌-◌, ◌%◌, ◌^◌, true, false, List, [], ◌∷◌, ◌++◌, length, Option, Some, None}
use Rattle.atomic_table.specs.Table.{Me}
use Rattle.atomic_table.specs.Seated.{TableId}
use Rattle.turn_lock.specs.declared.view.View.{View}
use Rattle.turn_lock.specs.declared.view.BeforeJoin.{BeforeJoin}
use Rattle.turn_lock.specs.Histories.{AreComparable, AreDisjoint, longer_of, places}
use Rattle.turn_lock.specs.Passes.{Known}

-- a table with three words and one slot
abbrev pub IsLockTable : TableId → Type 0
IsLockTable t = (t.words ≡ 3) × (t.slots ≡ 1)

-- a seat's table is this lock's
abbrev pub IsSeatOf : TableId → TableId → Type 0
IsSeatOf seat t = (seat ≡ t) × IsLockTable t

-- what contracts see of a pass with this view
abbrev pub known_of : {E : Type 0} → TableId → View E → Known E
known_of t v = record { turn = t; number = v.number; splits = v.splits; start = v.start; joined = v.joined; seen = v.seen; mine = v.mine; fronts = v.fronts }

-- the view of a pass between its turns
pub record IsIdle {E : Type 0} (v : View E) : Type 0 where
  pub live : v.live ≡ true
  pub ticket : v.ticket ≡ None
  pub served : v.served ≡ false
  pub out : v.out ≡ false

-- the first pass, of a value with this history
abbrev pub first_view : {E : Type 0} → List E → View E
first_view log = record {
  live = true;
  number = 0;
  splits = 0;
  start = length log;
  joined = 0;
  seen = log;
  mine = [];
  fronts = [];
  ticket = None;
  served = false;
  out = false;
  join = None;
}

-- the first pass after a split, and the pass that is split from it
abbrev pub split_view : {E : Type 0} → View E → View E
split_view v = record v { splits = v.splits + 1 }

abbrev pub new_view : {E : Type 0} → View E → View E
new_view v = record {
  live = true;
  number = v.splits + 1;
  splits = 0;
  start = v.start;
  joined = 0;
  seen = v.seen;
  mine = [];
  fronts = [];
  ticket = None;
  served = false;
  out = false;
  join = None;
}

-- a pass after a join, and the pass that was joined into it
abbrev pub joined_view : {E : Type 0} → View E → View E → View E
joined_view v w = record v {
  joined = v.joined + w.joined + 1;
  seen = longer_of v.seen w.seen;
  mine = v.mine ++ w.mine;
  join = Some (record { seen = v.seen; other_seen = w.seen; mine = v.mine; other_mine = w.mine });
}

abbrev pub spent_view : {E : Type 0} → View E
spent_view = record {
  live = false;
  number = 0;
  splits = 0;
  start = 0;
  joined = 0;
  seen = [];
  mine = [];
  fronts = [];
  ticket = None;
  served = false;
  out = false;
  join = None;
}

-- of what two joined passes had seen one began the other, and no place was the own of both
abbrev pub Agrees : {E : Type 0} → BeforeJoin E → Type 0
Agrees j = AreComparable j.seen j.other_seen × AreDisjoint j.mine j.other_mine

-- a pass that has the value with the history `after` in its slot, and has stored its length
abbrev pub raised_view : {E : Type 0} → View E → List E → View E
raised_view v after = record v {
  seen = after;
  mine = v.mine ++ places (length v.seen) (length after - length v.seen);
  fronts = v.fronts ++ length after ∷ [];
}

-- a pass whose turn is over
abbrev pub ended_view : {E : Type 0} → View E → View E
ended_view v = record v { ticket = None; served = false; out = false }

-- a seat that waits with a ticket, of which the number is the rest modulo 2^64, and holds no slot
pub record Waits {V E : Type 0} (me : Me (Option V) (View E)) (number : ℕ) : Type 0 where
  pub ticket : ℕ
  pub has : me.0.ticket ≡ Some ticket
  pub is : ticket % 2 ^ 64 ≡ number
  pub empty : me.1 ≡ []
  pub home : me.0.out ≡ false

-- a seat has the value x in its slot, which is out with it
abbrev pub Carries : {V E : Type 0} → Me (Option V) (View E) → V → Type 0
Carries me x = me.1 ≡ (0, Some x) ∷ []
