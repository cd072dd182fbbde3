use Rattle.std.proofs.Common.{arith, ◌∙◌, sym, ap}
use Rattle.turn_lock.proofs.Keeping.{splits}
use Rattle.turn_lock.proofs.turn.Turn.split.Goals as goal

pub split_seat-seat-requires : goal.split_seat-seat-requires
split_seat-seat-requires g c =
    let i = c.pass.invariant in
    let z = ap (λ k. k.number) c.pass.view_is in
    let few = ap (λ k. k.splits) c.pass.view_is in (
      ap (λ k. k.turn) c.pass.view_is ∙ (c.requires.of ∙ sym c.self.view_is),
      omega (arith, c.self.invariant.0),
      splits g.V.Kept.history c.pass.inside.seat.id c.pass.inside.seat.me.0 i.2.live (z
          ∙ c.requires.first.0) (omega (arith, c.requires.first.1, few)) i.2.out,
    )
