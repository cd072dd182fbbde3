use Rattle.std.proofs.Common.{ℕ, List, ◌∙◌, refl, sym, ap, subst}
use Rattle.exam_edge.specs.Images.{Account, IsSettled}
use Rattle.answer_journal.specs.Standing.{IsBeingSwitched}
use Rattle.exam_office.proofs.MigratingEnds.{not_err, read_refused, same_moments}
use Rattle.exam_office.proofs.Opened.{stands_second}
use Rattle.exam_office.proofs.migrating.leave.Goals as goal

-- a record is refused
pub returns-in-Err-clause-why : goal.returns-in-Err-clause-why
returns-in-Err-clause-why g c = λ told.
    read_refused c.args.bank.now c.args.spec.now (g.D.Disk.content c.args.walk.disk) c.in-Err.fault c.migrate_fault.result c.migrate_fault.ensures (c.in-Err.ensures.why told)

pub returns-in-Err-clause-unwritten_err : goal.returns-in-Err-clause-unwritten_err
returns-in-Err-clause-unwritten_err g c = λ told.
    same_moments (g.D.Disk.accounts c.args.walk.disk) (g.D.Disk.accounts c.stop.result) (ap (λ (d : g.row.D.Denot). g.D.Disk.accounts d) c.stop.ensures ∙ c.take_history.ensures.accounts told)

-- the file is left
pub returns-in-Ok-len-clause-left : goal.returns-in-Ok-len-clause-left
returns-in-Ok-len-clause-left g c = λ told.
    let file = g.D.Disk.content c.args.walk.disk in
    let told1 = c.take_history.ensures.frame.tells ∙ told in
    let told2 = c.settle_mark.ensures.frame.tells ∙ told1 in
    record {
      H = c.in-Ok.field-0.0.entries;
      stands = stands_second c.args.bank.now c.args.spec.now c.in-Ok.field-0.0.entries file (c.requires.second told) (c.in-Ok.ensures.stands told);
      same = c.len.ensures.content (ap (λ (d : g.row.D.Denot). g.D.Disk.tells d) c.stop-disk.ensures ∙ told2)
          ∙ (ap (λ (d : g.row.D.Denot). g.D.Disk.content d) c.stop-disk.ensures ∙ (c.settle_mark.ensures.untouched told1 ∙ c.take_history.ensures.content told));
      none = refl;
    }

-- the gate of the mark is on the disk
pub returns-in-Ok-len-clause-switched : goal.returns-in-Ok-len-clause-switched
returns-in-Ok-len-clause-switched g c = λ told one switching.
    let done = sym c.is_err.ensures.value ∙ c.if-is_err.false in
    let told1 = c.take_history.ensures.frame.tells ∙ told in
    let told2 = ap (λ (d : g.row.D.Denot). g.D.Disk.tells d) c.stop-disk.ensures ∙ (c.settle_mark.ensures.frame.tells ∙ told1) in
    let versions = c.take_history.ensures.versions in
    let settled = not_err c.settle_mark.result done c.settle_mark.ensures.settled told1 (versions.0 ∙ one) (versions.1 ∙ c.requires.version)
    (subst IsBeingSwitched (sym (c.take_history.ensures.accounts told)) switching) in
    subst (λ (a : List Account). IsSettled (g.D.Disk.content c.len.new.self) a) (sym (c.len.ensures.crash told2 ∙ ap (λ (d : g.row.D.Denot). g.D.Disk.accounts d) c.stop-disk.ensures))
    (subst (λ (f : List ℕ). IsSettled f (g.D.Disk.accounts c.settle_mark.new.self.disk)) (sym (c.len.ensures.content told2 ∙ ap (λ (d : g.row.D.Denot). g.D.Disk.content d) c.stop-disk.ensures)) settled)
