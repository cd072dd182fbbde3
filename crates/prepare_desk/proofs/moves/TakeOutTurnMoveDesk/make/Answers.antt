use Rattle.std.proofs.Common.{[], ◌∷◌, refl, ap}
use Rattle.prepare_desk.specs.Desks.{DeskKnown}
use Rattle.prepare_desk.proofs.moves.TakeOutTurnMoveDesk.make.Goals as goal

pub returns-clause-makes : goal.returns-clause-makes
returns-clause-makes c = record {
  keeps = record {
    purpose = c.args.value.now.purpose;
    from = refl;
    to = ap (λ (d : DeskKnown). d.purpose ∷ []) c.take.ensures.left;
  };
  prepared = c.take.ensures.prepared;
}
