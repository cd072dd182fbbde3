use Rattle.exam_office.proofs.MigratingFiles.{only_unmoved}
use Rattle.exam_office.proofs.migrating.add_record.Goals as goal

pub returns-in-Ok-clause-moments : goal.returns-in-Ok-clause-moments
returns-in-Ok-clause-moments g c = λ told ps qs moving.
    only_unmoved ps (g.D.Disk.accounts c.args.moving.now.disk) (g.D.Disk.accounts c.add.new.self.disk) (c.add.ensures.moments told ps qs moving)

pub returns-in-Err-Disk-clause-moments : goal.returns-in-Err-Disk-clause-moments
returns-in-Err-Disk-clause-moments g c = λ told ps qs moving.
    only_unmoved ps (g.D.Disk.accounts c.args.moving.now.disk) (g.D.Disk.accounts c.add.new.self.disk) (c.add.ensures.moments told ps qs moving)
