use Rattle.std.proofs.Common.{arith, ◌∙◌, sym, ap, subst}
use Rattle.turn_lock.proofs.Keeping.{joins, learns}
use Rattle.turn_lock.proofs.Joining.{takes_in}
use Rattle.turn_lock.specs.Histories.{ArePlacesIn}
use Rattle.turn_lock.proofs.turn.Turn.join.Goals as goal

pub join_seat-requires : goal.join_seat-requires
join_seat-requires g c =
    let i = c.pass.invariant in
    let o = c.other.invariant in (
      ap (λ k. k.turn) c.pass.view_is ∙ (c.requires.of.0 ∙ sym c.self.view_is),
      ap (λ k. k.turn) c.other.view_is ∙ (c.requires.of.1 ∙ sym c.self.view_is),
      o.3,
      omega (arith, c.self.invariant.0),
      joins g.V.Kept.history c.pass.inside.seat.id c.pass.inside.seat.me.0 c.other.inside.seat.id c.other.inside.seat.me.0 i.2.live o.2.live i.2.out
          o.2.out o.2.ticket,
    )

pub load-requires : goal.load-requires
load-requires g c =
    let e = c.join_seat.ensures in (
      e.0 ∙ (ap (λ k. k.turn) c.pass.view_is ∙ (c.requires.of.0 ∙ sym c.self.view_is)),
      omega (arith, c.self.invariant.0),
      learns g.V.Kept.history _ c.join_seat.new.seat.id c.join_seat.new.seat.me,
    )

pub returns : goal.returns
returns g c =
    let v = c.pass.inside.seat.me.0 in
    let w = c.other.inside.seat.me.0 in
    let j = c.join_seat.ensures in
    let l = c.load.ensures in
    record {
      joined = takes_in v w c.load.new.seat.me.0 c.load.new.seat.table_id c.other.inside.seat.table_id c.pass.inside.seat.table_id
          c.args.pass.now c.args.other c.pass.view_is c.other.view_is (l.0 ∙ j.0) (ap (λ m. m.0) (l.2.0 ∙ j.2))
          (l.2.1 (record { seen = v.seen; other_seen = w.seen; mine = v.mine; other_mine = w.mine }) (ap (λ m. m.0.join) j.2))
          (subst (λ m. ArePlacesIn m.0.mine m.0.seen) j.2 l.2.2);
    }
