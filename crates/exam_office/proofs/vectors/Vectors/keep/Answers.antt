use Rattle.std.proofs.Common.{◌∙◌, sym, subst}
use Rattle.exam_office.specs.KeptVectors.{HasRoom}
use Rattle.exam_office.proofs.VectorLaws.{kept_new}
use Rattle.exam_office.proofs.vectors.Vectors.keep.Goals as goal

pub returns-in-Some-clause-each : goal.returns-in-Some-clause-each
returns-in-Some-clause-each c = λ b plan r e R are. kept_new b plan R r c.args.self.now.each.items are c.in-Some.found (sym c.in-Some.is ∙ e)
    (subst (HasRoom c.args.self.now.each.items) c.in-Some.is c.requires)
