use Rattle.std.proofs.Common.{◌≡◌, ◌∙◌, sym, subst, refl, Some}
use mathlib.Core.Option.{some-injective}
use Rattle.turn_lock.proofs.Keeping.{closes}
use Rattle.turn_lock.specs.Histories.{StartsWith}
use Rattle.turn_lock.specs.Passes.{KnowsAll}
use Rattle.turn_lock.specs.Seats.{known_of}
use Rattle.turn_lock.proofs.steps.keep.Goals as goal

some_is : {A : Type 0} {a b : A} → Some a ≡ Some b → a ≡ b
some_is e = cc

pub unwrap-value-requires : goal.unwrap-value-requires
unwrap-value-requires g c =
    let has = c.requires.has in
    let served = c.requires.served in
    let p = closes g.V.Kept.history c.args.seat.id c.args.seat.me.0 has.0 has.1 served.0 served.1 _ _
    c.close_with-closed.ensures.values.2 in
    rw (some-injective c.take.result (Some p.0) (sym c.take.ensures.value ∙ p.1)) refl

pub returns : goal.returns
returns g c =
    let has = c.requires.has in
    let served = c.requires.served in
    let p = closes g.V.Kept.history c.args.seat.id c.args.seat.me.0 has.0 has.1 served.0 served.1 _ _
    c.close_with-closed.ensures.values.2 in
    let same : c.unwrap-value.result ≡ p.0 = some_is (sym c.unwrap-value.ensures
    ∙ some-injective c.take.result (Some p.0) (sym c.take.ensures.value ∙ p.1)) in
    record {
      begins = subst (λ x. StartsWith (g.V.Kept.history x) c.args.seat.me.0.seen) (sym same) p.2;
      all = subst (λ x. KnowsAll (g.V.Kept.history x) (known_of c.args.seat.table_id c.args.seat.me.0)) (sym same) (p.3 c.args.seat.table_id);
    }
