use Rattle.std.proofs.Common.{◌∙◌, sym, ap, Some, ◌∷◌}
use Rattle.atomic_table.specs.Table.{rest}
use Rattle.turn_lock.proofs.steps.take.Goals as goal

pub exchange-requires : goal.exchange-requires
exchange-requires g c =
    let k = c.requires.has in
    (c.requires.of.0, (Some k.0, k.1 ∙ ap (λ l. (0, Some k.0) ∷ rest l) (sym k.1)))
