use Rattle.bank_tables.specs.Items.{has}
use Rattle.history_model.specs.Draws.{AreDrawn, IsNotDrawn}
use Rattle.exam_session.proofs.DrawNotes.{not_as_many, is_not_drawn, all_drawn, if_lowest, if_none}
use Rattle.exam_session.proofs.drawing.first_difference.Goals as goal

pub returns-then-eligible-drawn-clause-differ : goal.returns-then-eligible-drawn-clause-differ
returns-then-eligible-drawn-clause-differ c = λ b plan H s drawn. not_as_many b plan H s c.args.eligible.now c.args.drawn.now drawn c.if-eligible-drawn.true

pub returns-clause-differ : goal.returns-clause-differ
returns-clause-differ c = λ b plan H s drawn.
    let found = has c.differences.result in
    if_lowest found (IsNotDrawn b plan H s c.args.eligible.now) c.first.result c.first.ensures.lowest
    (is_not_drawn b plan H s c.args.eligible.now c.args.drawn.now found drawn c.if-eligible-drawn.false c.differences.ensures.lengths c.differences.ensures.same c.differences.ensures.differ)

pub returns-clause-same : goal.returns-clause-same
returns-clause-same c = λ b plan H s drawn.
    let found = has c.differences.result in
    if_none found (AreDrawn b plan H s c.args.eligible.now) c.first.result c.first.ensures.lowest
    (all_drawn b plan H s c.args.eligible.now c.args.drawn.now found drawn c.if-eligible-drawn.false c.differences.ensures.lengths c.differences.ensures.same c.differences.ensures.differ)
