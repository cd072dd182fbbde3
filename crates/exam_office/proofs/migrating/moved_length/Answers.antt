use Rattle.std.proofs.Common.{length, ◌∙◌, sym, subst}
use Rattle.bank_tables.specs.Tables.{Tables}
use Rattle.form_model.specs.Plan.{Plan}
use Rattle.exam_office.specs.Migrating.{AreMeasured}
use Rattle.exam_office.proofs.MigratingPassing.{old_sized}
use Rattle.exam_office.proofs.migrating.moved_length.Goals as goal

pub returns-in-Ok-measure_records-clause-old : goal.returns-in-Ok-measure_records-clause-old
returns-in-Ok-measure_records-clause-old g c = λ told.
    let walk = c.args.walk.now in
    let new = c.measure_records.new.walk in
    let tells = g.D.Disk.tells walk.disk in
    let file = g.D.Disk.content walk.disk in
    let entries = c.measure_records.new.book.entries in
    let total = c.in-Ok-measure_records.total in
    let all : AreMeasured c.args.bank.now c.args.spec.now walk.at tells file new.given new.at entries total =
    subst (λ (b : Tables). AreMeasured b c.args.spec.now walk.at tells file new.given new.at entries total) c.in-Ok.ensures.bank
    (subst (λ (p : Plan). AreMeasured c.in-Ok.book.bank p walk.at tells file new.given new.at entries total) c.in-Ok.ensures.plan c.in-Ok-measure_records.ensures.measured) in
    old_sized c.args.bank.now c.args.spec.now walk.at tells file entries new.given new.at total c.length-length.result all told
    (c.requires.place told) (c.requires.first told) (c.requires.gives told) (c.in-Ok-measure_records.ensures.last told)
    (c.in-Ok-measure_records.ensures.whole told ∙ (c.measure_records.ensures.size ∙ sym c.length-length.ensures.length))
