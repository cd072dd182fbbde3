-- What the caller of each kind of step learns: the seat before and after, and the number found.
use Rattle.std.specs.Prelude.{◌≡◌, ℕ, ◌%◌, ◌^◌, ◌==◌, Bool, true, List, ◌∷◌, Option, Some, MatchBool}
use Rattle.atomic_table.specs.Table.{Me, rest}
use Rattle.turn_lock.specs.declared.view.View.{View}
use Rattle.turn_lock.specs.declared.view.BeforeJoin.{BeforeJoin}
use Rattle.turn_lock.specs.Histories.{ArePlacesIn, StartsWith}
use Rattle.turn_lock.specs.Seats.{Agrees, Carries, raised_view, ended_view}

module _ {V E : Type 0} where
  -- a ticket is drawn, of which the number found is the rest modulo 2^64
  abbrev pub Draws : Me (Option V) (View E) → ℕ → Me (Option V) (View E) → Type 0
  Draws me found after = (t : ℕ) × (t % 2 ^ 64 ≡ found) × (after ≡ (record me.0 { ticket = Some t }, me.1))

  -- the ticket is served, and the value stays at home
  abbrev pub IsServed : Me (Option V) (View E) → Me (Option V) (View E) → Type 0
  IsServed me after = after ≡ (record me.0 { served = true }, me.1)

  -- a look that leaves the value at home: the ticket is served, or nothing changed
  abbrev pub LooksOn : Me (Option V) (View E) → Bool → Me (Option V) (View E) → Type 0
  LooksOn me served after = MatchBool served (IsServed me after) (after ≡ me)

  -- such a look with the ticket t, at the number found
  abbrev pub Reaches : ℕ → Me (Option V) (View E) → ℕ → Me (Option V) (View E) → Type 0
  Reaches t me found after = LooksOn me (found == t % 2 ^ 64) after

  -- the turn is over, and the slot is at home
  abbrev pub Leaves : Me (Option V) (View E) → Me (Option V) (View E) → Type 0
  Leaves me after = after ≡ (ended_view me.0, rest me.1)

  -- nothing changes; the two passes of the last join, if there was one, agree, and the places are
  -- places in what was seen
  abbrev pub Learns : Me (Option V) (View E) → Me (Option V) (View E) → Type 0
  Learns me after = (after ≡ me) × ((j : BeforeJoin E) → me.0.join ≡ Some j → Agrees j) × ArePlacesIn me.0.mine me.0.seen

module _ {V E : Type 0} (history : V → List E) where
  -- the value x is out with the pass, which has seen its whole history
  abbrev pub IsTaken : Me (Option V) (View E) → V → Me (Option V) (View E) → Type 0
  IsTaken me x after =
      StartsWith (history x) me.0.seen × (after ≡ (record me.0 { seen = history x; served = true; out = true }, (0, Some x) ∷ me.1))

  -- a look that takes the value: the ticket is served, and the value is out with the pass, or
  -- nothing changed
  abbrev pub Looks : Me (Option V) (View E) → Bool → Me (Option V) (View E) → Type 0
  Looks me served after = MatchBool served ((x : V) × IsTaken me x after) (after ≡ me)

  -- such a look with the ticket t, at the number found
  abbrev pub Serves : ℕ → Me (Option V) (View E) → ℕ → Me (Option V) (View E) → Type 0
  Serves t me found after = Looks me (found == t % 2 ^ 64) after

  -- the pass has seen the history of the value that it has in its slot, and what is new in it is
  -- its own
  abbrev pub Raises : Me (Option V) (View E) → Me (Option V) (View E) → Type 0
  Raises me after =
      (x : V) → Carries me x → (after ≡ (raised_view me.0 (history x), me.1)) × ArePlacesIn after.0.mine after.0.seen
