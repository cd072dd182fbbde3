use Rattle.std.proofs.Common.{List, ℕ, length, ◌∙◌, ap, subst, arith}
use Rattle.exam_edge.specs.Images.{latest, IsImage, IsSettled}
use Rattle.answer_journal.specs.Versions.{header}
use Rattle.answer_journal.proofs.Ends.{read_list}
use Rattle.answer_journal.proofs.OpeningMoments.{renewed_once, renewed_on, synced_on}
use Rattle.answer_journal.proofs.Settling.{gates_settled}
use Rattle.answer_journal.proofs.opening.settle_gates.Goals as goal

pub returns-in_err-renew_mark-clause-moments : goal.returns-in_err-renew_mark-clause-moments
returns-in_err-renew_mark-clause-moments g c = λ told. renewed_once _ _ (c.renew_mark.ensures.crash told)

pub returns-in_err-renew_byte-clause-moments : goal.returns-in_err-renew_byte-clause-moments
returns-in_err-renew_byte-clause-moments g c = λ told.
    renewed_on _ _ _ (renewed_once _ _ (c.renew_mark.ensures.crash told)) (c.renew_byte.ensures.crash (c.renew_mark.ensures.frame.tells ∙ told))

pub returns-in_err-renew_byte-2-clause-moments : goal.returns-in_err-renew_byte-2-clause-moments
returns-in_err-renew_byte-2-clause-moments g c = λ told.
    let told0 = c.renew_mark.ensures.frame.tells ∙ told in
    let told1 = c.renew_byte.ensures.frame.tells ∙ told0 in
    renewed_on _ _ _ (renewed_on _ _ _ (renewed_once _ _ (c.renew_mark.ensures.crash told)) (c.renew_byte.ensures.crash told0)) (c.renew_byte-2.ensures.crash told1)

pub returns-in_err-sync-clause-moments : goal.returns-in_err-sync-clause-moments
returns-in_err-sync-clause-moments g c = λ told.
    let told0 = c.renew_mark.ensures.frame.tells ∙ told in
    let told1 = c.renew_byte.ensures.frame.tells ∙ told0 in
    let told2 = c.renew_byte-2.ensures.frame.tells ∙ told1 in
    synced_on _ _ _ (renewed_on _ _ _ (renewed_on _ _ _ (renewed_once _ _ (c.renew_mark.ensures.crash told)) (c.renew_byte.ensures.crash told0)) (c.renew_byte-2.ensures.crash told1)) (c.sync.ensures.crash told2)

pub returns-clause-moments : goal.returns-clause-moments
returns-clause-moments g c = λ told.
    let told0 = c.renew_mark.ensures.frame.tells ∙ told in
    let told1 = c.renew_byte.ensures.frame.tells ∙ told0 in
    let told2 = c.renew_byte-2.ensures.frame.tells ∙ told1 in
    synced_on _ _ _ (renewed_on _ _ _ (renewed_on _ _ _ (renewed_once _ _ (c.renew_mark.ensures.crash told)) (c.renew_byte.ensures.crash told0)) (c.renew_byte-2.ensures.crash told1)) (c.sync.ensures.crash told2)

pub returns-clause-gates : goal.returns-clause-gates
returns-clause-gates g c = λ told.
    let disk = c.args.disk.now in
    let marked = c.renew_mark.new.disk in
    let c0 = g.D.Disk.content disk in
    let x = c.requires.extent in
    let v = c.args.extent.version in
    let a3 = g.D.Disk.accounts c.sync.new.self in
    let told0 = c.renew_mark.ensures.frame.tells ∙ told in
    let told1 = c.renew_byte.ensures.frame.tells ∙ told0 in
    let told2 = c.renew_byte-2.ensures.frame.tells ∙ told1 in
    let same0 = c.renew_mark.ensures.content told in
    let same1 = c.renew_byte.ensures.content told0 ∙ same0 in
    let same2 = c.renew_byte-2.ensures.content told1 ∙ same1 in
    let long = c.requires.long in
    let found = x.read told long in
    let image0 = subst (λ (f : List ℕ). IsImage (latest (g.D.Disk.accounts marked)) f) same0 (g.met.D.Disk.is_image marked told0) in
    gates_settled v c0 c.args.extent.start c.args.extent.end c.args.last (read_list (header v) c0 found.0 c.args.extent.end found.1) (x.versions told).start (c.requires.last told)
    _ _ _ _ a3 (g.met.D.Disk.is_image disk told) image0
    (c.renew_mark.ensures.crash told) (λ far lt. c.in_ok-renew_mark.ensures.cleared told far lt)
    (c.renew_byte.ensures.crash told0) (λ lt. c.in_ok-renew_byte.ensures.cleared told0 (omega (arith, lt, ap length same0)))
    (c.renew_byte-2.ensures.crash told1) (λ lt. c.in_ok-renew_byte-2.ensures.cleared told1 (omega (arith, lt, ap length same1)))
    (c.in_ok-sync.ensures.kept told2) (λ clean. subst (λ (f : List ℕ). IsSettled f a3) same2 (c.in_ok-sync.ensures.settled told2 clean))
    (omega (arith, long, x.size_is told)) (x.left told)
