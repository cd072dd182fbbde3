use Rattle.std.proofs.Common.{◌≡◌, ◌∙◌, ℕ, List, Some, None, IsTrue, sym, ap, subst}
use Rattle.bank_tables.specs.Tables.{Tables}
use Rattle.form_model.specs.Plan.{Plan}
use Rattle.history_model.specs.Judging.{Record}
use Rattle.answer_journal.specs.Journal.{tells_of, payloads_of}
use Rattle.answer_journal.specs.Versions.{contents, second}
use Rattle.exam_office.specs.Files.{Stands}
use Rattle.exam_office.specs.Marks.{history}
use Rattle.exam_office.specs.Running.{HandedDisk}
use Rattle.exam_follower.specs.Followers.{IsFollower}
use Rattle.exam_follower.proofs.Keeping.{opened_follower}
use Rattle.exam_follower.proofs.follower.Follower.open.Goals as goal

pub invariant_of-result : goal.invariant_of-result
invariant_of-result g c =
    let o = c.in-Ok.office in
    let e = c.in-Ok.ensures in
    let file : o.opened.content ≡ g.D.Disk.content c.args.disk = ap (λ (h : HandedDisk). h.content) e.opened in
    let told_then : IsTrue (tells_of o.journal) → IsTrue (g.D.Disk.tells c.args.disk) = λ told. sym e.tells ∙ told in
    subst (λ (T : List Record). IsFollower (record { office = o; taken = T; doubt = None })) (sym c.new.ensures)
    (opened_follower o e.marks e.sure
    (λ told. subst (λ (f : List ℕ). contents f ≡ Some (second (payloads_of o.journal))) (sym file) (e.payloads (told_then told)))
    (λ told.
    subst (λ (b : Tables). Stands b o.plan (history o.marks) o.opened.content) (sym e.bank)
    (subst (λ (p : Plan). Stands c.args.bank.now p (history o.marks) o.opened.content) (sym e.plan)
    (subst (λ (f : List ℕ). Stands c.args.bank.now c.args.spec.now (history o.marks) f) (sym file) (e.stands (told_then told))))))
