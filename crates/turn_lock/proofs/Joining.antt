-- What contracts see of a pass that another was joined into, and of the last pass.
use Rattle.std.proofs.Common.{◌≡◌, ℕ, List, true, Option, Some, refl, sym, ap, ◌∙◌, subst}
use Rattle.atomic_table.specs.Seated.{TableId}
use Rattle.atomic_table.specs.Table.{Me}
use Rattle.turn_lock.specs.declared.view.View.{View}
use Rattle.turn_lock.specs.Histories.{ArePlacesIn}
use Rattle.turn_lock.specs.Passes.{Known, TakesIn, KnowsAll}
use Rattle.turn_lock.specs.Seats.{known_of, joined_view, Agrees}
use Rattle.turn_lock.proofs.Lists.{longer_is}

pub takes_in : {E : Type 0} (v w u : View E) (x y z : TableId) (a b : Known E) → known_of z v ≡ a → known_of y w ≡ b → x ≡ z
    → u ≡ joined_view v w → Agrees (record { seen = v.seen; other_seen = w.seen; mine = v.mine; other_mine = w.mine })
    → ArePlacesIn (joined_view v w).mine (joined_view v w).seen → TakesIn a b (known_of x u)
takes_in v w u x y z a b p q same is agrees within =
    let done : TakesIn (known_of z v) (known_of y w) (known_of z (joined_view v w)) = record {
      turn = refl;
      number = refl;
      splits = refl;
      start = refl;
      joined = refl;
      seen = longer_is v.seen w.seen agrees.0;
      apart = agrees.1;
      mine = refl;
      within = within;
      fronts = refl;
    } in
    let to : known_of z (joined_view v w) ≡ known_of x u = ap (λ i. known_of i (joined_view v w)) (sym same)
    ∙ ap (λ m. known_of x m) (sym is) in
    let moved : TakesIn (known_of z v) (known_of y w) (known_of x u) = subst (λ k. TakesIn (known_of z v) (known_of y w) k) to done in
    subst (λ k. TakesIn k b (known_of x u)) p (subst (λ k. TakesIn (known_of z v) k (known_of x u)) q moved)

-- a last turn changes nothing that is told of the pass
pub knows_still : {V E : Type 0} (log : List E) (me drawn last : Me (Option V) (View E)) (t : ℕ) (x y : TableId) (pass : Known E) → known_of x me.0 ≡ pass
    → drawn ≡ (record me.0 { ticket = Some t }, me.1) → last ≡ (record drawn.0 { served = true }, drawn.1)
    → KnowsAll log (known_of y last.0) → KnowsAll log pass
knows_still log me drawn last t x y pass view is_drawn is_last all =
    let served : KnowsAll log (known_of y (record drawn.0 { served = true })) = subst (λ m. KnowsAll log (known_of y m.0)) is_last all in
    let before : KnowsAll log (known_of x me.0) = subst (λ m. KnowsAll log (known_of y (record m.0 { served = true }))) is_drawn served in
    subst (λ k. KnowsAll log k) view before
