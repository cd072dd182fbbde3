use Rattle.std.proofs.Common.{ℕ, inr, ◌∙◌, sym, ap, subst}
use Rattle.exam_edge.specs.Images.{latest}
use Rattle.exam_edge.specs.ImageLaws.{only}
use Rattle.answer_journal.specs.OpenFault.{IsWalkAnswer}
use Rattle.exam_office.specs.Files.{Stands}
use Rattle.exam_office.specs.Migrating.{migrate_fault}
use Rattle.exam_office.proofs.MigratingEnds.{both_err, both_ok, if_err, if_ok, images_on, left_stands, walk_refused}
use Rattle.exam_office.proofs.MigratingFiles.{after_reading, images_read, settled_moments, while_read}
use Rattle.exam_office.proofs.MigratingSwitch.{switching_first}
use Rattle.exam_office.proofs.Opened.{aside_on, aside_read}
use Rattle.exam_office.proofs.migrating.migrate.Goals as goal

-- the file is no journal
pub returns-in-Err-clause-why : goal.returns-in-Err-clause-why
returns-in-Err-clause-why g c = λ told.
    let file = g.D.Disk.content c.args.disk in
    walk_refused c.args.bank.now c.args.spec.now file c.in-Err.fault c.migrate_fault.result (c.migrate_fault.ensures ∙ ap migrate_fault c.journal_fault.ensures)
    (subst (λ (limit : ℕ). IsWalkAnswer limit file c.in-Err.fault) c.journal.ensures (c.in-Err.ensures.why told))

pub returns-in-Err-clause-aside_kept : goal.returns-in-Err-clause-aside_kept
returns-in-Err-clause-aside_kept g c = λ of_content told. c.in-Err.ensures.aside_err told

-- it is of the first version
pub returns-then-record_version-eq1-clause-stands : goal.returns-then-record_version-eq1-clause-stands
returns-then-record_version-eq1-clause-stands g c =
    if_ok c.move_old.result c.move_old.ensures.stands
    (λ done so told H s. so (c.in-Ok.ensures.frame.tells ∙ told) H (subst (Stands c.args.bank.now c.args.spec.now H) (sym (c.in-Ok.ensures.untouched told)) s))

pub returns-then-record_version-eq1-clause-images : goal.returns-then-record_version-eq1-clause-images
returns-then-record_version-eq1-clause-images g c =
    if_ok c.move_old.result c.move_old.ensures.moved
    (λ done so told clean file i. only (latest (g.D.Disk.accounts done.1)) (g.D.Disk.content done.1) file (so (c.in-Ok.ensures.frame.tells ∙ told)).settled i)

pub returns-then-record_version-eq1-clause-settled : goal.returns-then-record_version-eq1-clause-settled
returns-then-record_version-eq1-clause-settled g c =
    let b = c.args.bank.now in
    let plan = c.args.spec.now in
    let a0 = g.D.Disk.accounts c.args.disk in
    if_ok c.move_old.result c.move_old.ensures.moments
    (λ done so told settled H s. settled_moments b plan H (g.D.Disk.content c.args.disk) a0 (g.D.Disk.accounts done.1) settled s
    (after_reading b plan H a0 (g.D.Disk.accounts c.in-Ok.walk.disk) (g.D.Disk.accounts done.1) (c.in-Ok.ensures.moments told)
    (so (c.in-Ok.ensures.frame.tells ∙ told) H (subst (Stands b plan H) (sym (c.in-Ok.ensures.untouched told)) s))))

pub returns-then-record_version-eq1-clause-settled_err : goal.returns-then-record_version-eq1-clause-settled_err
returns-then-record_version-eq1-clause-settled_err g c =
    let b = c.args.bank.now in
    let plan = c.args.spec.now in
    let a0 = g.D.Disk.accounts c.args.disk in
    if_err c.move_old.result c.move_old.ensures.moments_err
    (λ e so told settled H s. settled_moments b plan H (g.D.Disk.content c.args.disk) a0 (g.D.Disk.accounts e.0) settled s
    (after_reading b plan H a0 (g.D.Disk.accounts c.in-Ok.walk.disk) (g.D.Disk.accounts e.0) (c.in-Ok.ensures.moments told)
    (so (c.in-Ok.ensures.frame.tells ∙ told) H (subst (Stands b plan H) (sym (c.in-Ok.ensures.untouched told)) s))))

pub returns-then-record_version-eq1-clause-moments : goal.returns-then-record_version-eq1-clause-moments
returns-then-record_version-eq1-clause-moments g c =
    let b = c.args.bank.now in
    let plan = c.args.spec.now in
    if_ok c.move_old.result c.move_old.ensures.moments
    (λ done so told H s. after_reading b plan H (g.D.Disk.accounts c.args.disk) (g.D.Disk.accounts c.in-Ok.walk.disk) (g.D.Disk.accounts done.1) (c.in-Ok.ensures.moments told)
    (so (c.in-Ok.ensures.frame.tells ∙ told) H (subst (Stands b plan H) (sym (c.in-Ok.ensures.untouched told)) s)))

pub returns-then-record_version-eq1-clause-moments_err : goal.returns-then-record_version-eq1-clause-moments_err
returns-then-record_version-eq1-clause-moments_err g c =
    let b = c.args.bank.now in
    let plan = c.args.spec.now in
    if_err c.move_old.result c.move_old.ensures.moments_err
    (λ e so told H s. after_reading b plan H (g.D.Disk.accounts c.args.disk) (g.D.Disk.accounts c.in-Ok.walk.disk) (g.D.Disk.accounts e.0) (c.in-Ok.ensures.moments told)
    (so (c.in-Ok.ensures.frame.tells ∙ told) H (subst (Stands b plan H) (sym (c.in-Ok.ensures.untouched told)) s)))

pub returns-then-record_version-eq1-clause-aside_kept : goal.returns-then-record_version-eq1-clause-aside_kept
returns-then-record_version-eq1-clause-aside_kept g c =
    if_err c.move_old.result c.move_old.ensures.aside_kept
    (λ e so of_content told. so of_content (c.in-Ok.ensures.frame.tells ∙ told) ∙ c.in-Ok.ensures.aside told)

pub returns-then-record_version-eq1-clause-switched : goal.returns-then-record_version-eq1-clause-switched
returns-then-record_version-eq1-clause-switched g c =
    if_ok c.move_old.result c.move_old.ensures.moved (λ done so told switching. (so (c.in-Ok.ensures.frame.tells ∙ told)).settled)

pub returns-then-record_version-eq1-clause-aside_err : goal.returns-then-record_version-eq1-clause-aside_err
returns-then-record_version-eq1-clause-aside_err g c =
    let d0 = c.args.disk in
    let d1 = c.in-Ok.walk.disk in
    if_err c.move_old.result c.move_old.ensures.aside_err
    (λ e so told. aside_on (g.D.Disk.content d0) (g.D.Disk.content d1) (g.D.Disk.content e.0) (g.D.Disk.accounts d0) (g.D.Disk.accounts d1) (g.D.Disk.accounts e.0)
    (g.D.Disk.aside d0) (g.D.Disk.aside d1) (g.D.Disk.aside e.0) (c.in-Ok.ensures.untouched told) (c.in-Ok.ensures.moments told) (c.in-Ok.ensures.aside told) (so (c.in-Ok.ensures.frame.tells ∙ told)))

-- its records are of the second version
pub returns-else-record_version-eq1-clause-stands : goal.returns-else-record_version-eq1-clause-stands
returns-else-record_version-eq1-clause-stands g c =
    if_ok c.leave.result c.leave.ensures.left
    (λ done so told H s. left_stands c.args.bank.now c.args.spec.now H (g.D.Disk.content c.args.disk) (g.D.Disk.content c.in-Ok.walk.disk) (g.D.Disk.content done.1) done.0
    (so (c.in-Ok.ensures.frame.tells ∙ told)) (c.in-Ok.ensures.untouched told) s)

pub returns-else-record_version-eq1-clause-images : goal.returns-else-record_version-eq1-clause-images
returns-else-record_version-eq1-clause-images g c =
    if_ok c.leave.result (both_ok c.leave.result _ _ c.leave.ensures.left c.leave.ensures.unwritten)
    (λ done so told clean file i.
    let told1 = c.in-Ok.ensures.frame.tells ∙ told in
    images_read (g.D.Disk.content c.args.disk) (g.D.Disk.accounts c.in-Ok.walk.disk) (g.D.Disk.accounts done.1) (c.in-Ok.ensures.images told clean) (so.1 told1) file i
    ∙ sym ((so.0 told1).same ∙ c.in-Ok.ensures.untouched told))

pub returns-else-record_version-eq1-clause-settled : goal.returns-else-record_version-eq1-clause-settled
returns-else-record_version-eq1-clause-settled g c =
    let b = c.args.bank.now in
    let plan = c.args.spec.now in
    let a0 = g.D.Disk.accounts c.args.disk in
    let a1 = g.D.Disk.accounts c.in-Ok.walk.disk in
    if_ok c.leave.result c.leave.ensures.unwritten
    (λ done so told settled H s. settled_moments b plan H (g.D.Disk.content c.args.disk) a0 (g.D.Disk.accounts done.1) settled s
    (after_reading b plan H a0 a1 (g.D.Disk.accounts done.1) (c.in-Ok.ensures.moments told) (while_read b plan H (latest a1) a1 (g.D.Disk.accounts done.1) (so (c.in-Ok.ensures.frame.tells ∙ told)))))

pub returns-else-record_version-eq1-clause-settled_err : goal.returns-else-record_version-eq1-clause-settled_err
returns-else-record_version-eq1-clause-settled_err g c =
    let b = c.args.bank.now in
    let plan = c.args.spec.now in
    let a0 = g.D.Disk.accounts c.args.disk in
    let a1 = g.D.Disk.accounts c.in-Ok.walk.disk in
    if_err c.leave.result c.leave.ensures.unwritten_err
    (λ e so told settled H s. settled_moments b plan H (g.D.Disk.content c.args.disk) a0 (g.D.Disk.accounts e.0) settled s
    (after_reading b plan H a0 a1 (g.D.Disk.accounts e.0) (c.in-Ok.ensures.moments told) (while_read b plan H (latest a1) a1 (g.D.Disk.accounts e.0) (so (c.in-Ok.ensures.frame.tells ∙ told)))))

pub returns-else-record_version-eq1-clause-moments : goal.returns-else-record_version-eq1-clause-moments
returns-else-record_version-eq1-clause-moments g c =
    let b = c.args.bank.now in
    let plan = c.args.spec.now in
    let a1 = g.D.Disk.accounts c.in-Ok.walk.disk in
    if_ok c.leave.result c.leave.ensures.unwritten
    (λ done so told H s. after_reading b plan H (g.D.Disk.accounts c.args.disk) a1 (g.D.Disk.accounts done.1) (c.in-Ok.ensures.moments told)
    (while_read b plan H (latest a1) a1 (g.D.Disk.accounts done.1) (so (c.in-Ok.ensures.frame.tells ∙ told))))

pub returns-else-record_version-eq1-clause-moments_err : goal.returns-else-record_version-eq1-clause-moments_err
returns-else-record_version-eq1-clause-moments_err g c =
    let b = c.args.bank.now in
    let plan = c.args.spec.now in
    let a1 = g.D.Disk.accounts c.in-Ok.walk.disk in
    if_err c.leave.result c.leave.ensures.unwritten_err
    (λ e so told H s. after_reading b plan H (g.D.Disk.accounts c.args.disk) a1 (g.D.Disk.accounts e.0) (c.in-Ok.ensures.moments told)
    (while_read b plan H (latest a1) a1 (g.D.Disk.accounts e.0) (so (c.in-Ok.ensures.frame.tells ∙ told))))

pub returns-else-record_version-eq1-clause-unwritten : goal.returns-else-record_version-eq1-clause-unwritten
returns-else-record_version-eq1-clause-unwritten g c =
    if_err c.leave.result c.leave.ensures.unwritten_err
    (λ e so of_content told. images_on (g.D.Disk.accounts c.args.disk) (g.D.Disk.accounts c.in-Ok.walk.disk) (g.D.Disk.accounts e.0) (c.in-Ok.ensures.moments told) (so (c.in-Ok.ensures.frame.tells ∙ told)))

pub returns-else-record_version-eq1-clause-unwritten_err : goal.returns-else-record_version-eq1-clause-unwritten_err
returns-else-record_version-eq1-clause-unwritten_err g c =
    if_err c.leave.result (both_err c.leave.result _ _ c.leave.ensures.untouched c.leave.ensures.unwritten_err)
    (λ e so told. inr (
      so.0 (c.in-Ok.ensures.frame.tells ∙ told) ∙ c.in-Ok.ensures.untouched told,
      images_on (g.D.Disk.accounts c.args.disk) (g.D.Disk.accounts c.in-Ok.walk.disk) (g.D.Disk.accounts e.0) (c.in-Ok.ensures.moments told) (so.1 (c.in-Ok.ensures.frame.tells ∙ told)),
    ))

pub returns-else-record_version-eq1-clause-aside_kept : goal.returns-else-record_version-eq1-clause-aside_kept
returns-else-record_version-eq1-clause-aside_kept g c =
    if_err c.leave.result c.leave.ensures.aside_err
    (λ e so of_content told. so (c.in-Ok.ensures.frame.tells ∙ told) ∙ c.in-Ok.ensures.aside told)

pub returns-else-record_version-eq1-clause-switched : goal.returns-else-record_version-eq1-clause-switched
returns-else-record_version-eq1-clause-switched g c =
    if_ok c.leave.result c.leave.ensures.switched
    (λ done so told switching.
    let one = switching_first (g.D.Disk.accounts c.args.disk) (g.D.Disk.content c.args.disk) switching (g.met.D.Disk.is_image c.args.disk told) in
    so (c.in-Ok.ensures.frame.tells ∙ told) ((c.in-Ok.ensures.versions told).0 ∙ one) (c.in-Ok.ensures.switching told switching))

pub returns-else-record_version-eq1-clause-aside_err : goal.returns-else-record_version-eq1-clause-aside_err
returns-else-record_version-eq1-clause-aside_err g c =
    let d0 = c.args.disk in
    if_err c.leave.result (both_err c.leave.result _ _ c.leave.ensures.aside_err (both_err c.leave.result _ _ c.leave.ensures.untouched c.leave.ensures.unwritten_err))
    (λ e so told.
    let told1 = c.in-Ok.ensures.frame.tells ∙ told in
    aside_read (g.D.Disk.content d0) (g.D.Disk.content e.0) (g.D.Disk.accounts d0) (g.D.Disk.accounts e.0) (g.D.Disk.aside d0) (g.D.Disk.aside e.0)
    (so.1.0 told1 ∙ c.in-Ok.ensures.untouched told)
    (images_on (g.D.Disk.accounts d0) (g.D.Disk.accounts c.in-Ok.walk.disk) (g.D.Disk.accounts e.0) (c.in-Ok.ensures.moments told) (so.1.1 told1))
    (so.0 told1 ∙ c.in-Ok.ensures.aside told))
