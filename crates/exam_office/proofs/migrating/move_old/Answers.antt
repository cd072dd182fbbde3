use Rattle.std.proofs.Common.{◌≤◌, inr, ℕ, List, length, ◌∙◌, sym, ap, subst, arith}
use Rattle.std.proofs.lemmas.Result.{IfOk-weaker}
use Rattle.answer_journal.specs.Moving.{IsUnmoved}
use Rattle.answer_journal.specs.Versions.{counted_in}
use Rattle.exam_office.specs.Files.{Stands}
use Rattle.exam_office.specs.Migrating.{IsOldFile, moved_file}
use Rattle.exam_office.proofs.MigratingEnds.{first_unmoved, puts_nothing, read_moments, read_refused}
use Rattle.exam_office.proofs.migrating.move_old.Goals as goal

-- a record is refused
pub returns-in-Err-clause-moments_err : goal.returns-in-Err-clause-moments_err
returns-in-Err-clause-moments_err g c = λ told H s.
    read_moments c.args.bank.now c.args.spec.now H (g.D.Disk.accounts c.args.walk.disk) (g.D.Disk.accounts c.stop.result) (ap (λ (d : g.row.D.Denot). g.D.Disk.accounts d) c.stop.ensures ∙ c.moved_length.ensures.accounts told)

pub returns-in-Err-clause-why : goal.returns-in-Err-clause-why
returns-in-Err-clause-why g c = λ told.
    read_refused c.args.bank.now c.args.spec.now (g.D.Disk.content c.args.walk.disk) c.in-Err.fault c.migrate_fault.result c.migrate_fault.ensures (c.in-Err.ensures.why told)

pub returns-in-Err-clause-unwritten_err : goal.returns-in-Err-clause-unwritten_err
returns-in-Err-clause-unwritten_err g c = λ told.
    inr (ap (λ (d : g.row.D.Denot). g.D.Disk.content d) c.stop.ensures ∙ c.moved_length.ensures.content told, ap (λ (d : g.row.D.Denot). g.D.Disk.accounts d) c.stop.ensures ∙ c.moved_length.ensures.accounts told)

pub returns-in-Err-clause-kept : goal.returns-in-Err-clause-kept
returns-in-Err-clause-kept g c = λ other told.
    let file = g.D.Disk.content c.args.walk.disk in
    subst (IsUnmoved (counted_in file).payloads) (sym (ap (λ (d : g.row.D.Denot). g.D.Disk.content d) c.stop.ensures ∙ c.moved_length.ensures.content told))
    (first_unmoved file (c.requires.gives told) (c.requires.first told))

pub returns-in-Err-clause-aside_kept : goal.returns-in-Err-clause-aside_kept
returns-in-Err-clause-aside_kept g c = λ of_content told.
    ap (λ (d : g.row.D.Denot). g.D.Disk.aside d) c.stop.ensures ∙ c.moved_length.ensures.aside told

pub returns-in-Err-clause-aside_err : goal.returns-in-Err-clause-aside_err
returns-in-Err-clause-aside_err g c = λ told.
    puts_nothing (g.D.Disk.content c.args.walk.disk) (g.D.Disk.content c.stop.result) (g.D.Disk.accounts c.args.walk.disk) (g.D.Disk.accounts c.stop.result) (g.D.Disk.aside c.args.walk.disk) (g.D.Disk.aside c.stop.result)
    (ap (λ (d : g.row.D.Denot). g.D.Disk.content d) c.stop.ensures ∙ c.moved_length.ensures.content told)
    (ap (λ (d : g.row.D.Denot). g.D.Disk.accounts d) c.stop.ensures ∙ c.moved_length.ensures.accounts told)
    (ap (λ (d : g.row.D.Denot). g.D.Disk.aside d) c.stop.ensures ∙ c.moved_length.ensures.aside told)

-- it would be too long
pub returns-then-journal-length-clause-why : goal.returns-then-journal-length-clause-why
returns-then-journal-length-clause-why g c = λ told. record {
  old = (c.in-Ok.ensures.old told).0;
  size_is = (c.in-Ok.ensures.old told).1;
  above = omega (arith, c.if-journal-length.true, c.journal.ensures);
}

-- it is moved
pub move_judged-requires-clause-old : goal.move_judged-requires-clause-old
move_judged-requires-clause-old g c = λ here.
    let b = c.args.bank.now in
    let plan = c.args.spec.now in
    let told = sym c.moved_length.ensures.frame.tells ∙ here in
    let old = c.in-Ok.ensures.old told in
    let within : length (moved_file b plan old.0.records) ≤ c.moved_length.new.walk.limit = omega (arith, old.1, c.if-journal-length.false, c.journal.ensures, c.moved_length.ensures.limit, c.requires.limit) in
    subst (λ (f : List ℕ). (is : IsOldFile b plan f) × (length (moved_file b plan is.records) ≤ c.moved_length.new.walk.limit)) (sym (c.moved_length.ensures.content told)) (old.0, within)

pub returns-clause-stands : goal.returns-clause-stands
returns-clause-stands g c =
    IfOk-weaker c.move_judged.result _ _
    (λ done so told H s. so (c.moved_length.ensures.frame.tells ∙ told) H (subst (Stands c.args.bank.now c.args.spec.now H) (sym (c.moved_length.ensures.content told)) s)) c.move_judged.ensures.stands

pub returns-clause-limit : goal.returns-clause-limit
returns-clause-limit g c =
    IfOk-weaker c.move_judged.result _ _
    (λ done so told. omega (arith, so (c.moved_length.ensures.frame.tells ∙ told), c.moved_length.ensures.limit, c.requires.limit)) c.move_judged.ensures.limit
