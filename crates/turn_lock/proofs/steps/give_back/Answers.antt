use Rattle.std.proofs.Common.{arith, ◌∙◌, sym, ap, ◌++◌}
use Rattle.turn_lock.proofs.Keeping.{raises}
use Rattle.turn_lock.proofs.steps.give_back.Goals as goal

pub store-requires : goal.store-requires
store-requires g c =
    let p = c.put.ensures in
    let view = p.view in
    let slots = p.full in
    let grown = c.requires.grown in (
      p.of ∙ c.requires.of.0,
      omega (arith, c.requires.of.1.0),
      raises g.V.Kept.history _ c.put.new.seat.id c.put.new.seat.me (ap (λ v. v.out) view ∙ c.requires.empty.1)
          c.args.value grown.0 slots (grown.1
          ∙ ap (λ v. v.seen ++ grown.0) (sym view)) c.history_len-count.result c.history_len-count.ensures,
    )
