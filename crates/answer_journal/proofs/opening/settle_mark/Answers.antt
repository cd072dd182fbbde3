use Rattle.std.proofs.Common.{List, ℕ, sym, ◌∙◌, ap, subst, arith}
use Rattle.exam_edge.specs.Images.{IsSettled}
use Rattle.answer_journal.specs.Standing.{payload_list, IsSettledOrInterrupted}
use Rattle.answer_journal.specs.Versions.{header, first_place, uncounted}
use Rattle.answer_journal.proofs.OpeningMoments.{renewed_once, synced_on}
use Rattle.answer_journal.proofs.Settling.{left_kept, left_still, mark_clean}
use Rattle.answer_journal.proofs.opening.settle_mark.Goals as goal

pub returns-in_err-renew_mark-clause-moments : goal.returns-in_err-renew_mark-clause-moments
returns-in_err-renew_mark-clause-moments g c = λ told. renewed_once _ _ (c.renew_mark.ensures.crash told)

pub returns-in_err-sync-clause-moments : goal.returns-in_err-sync-clause-moments
returns-in_err-sync-clause-moments g c = λ told.
    synced_on _ _ _ (renewed_once _ _ (c.renew_mark.ensures.crash told)) (c.sync.ensures.crash (c.renew_mark.ensures.frame.tells ∙ told))

pub returns-clause-moments : goal.returns-clause-moments
returns-clause-moments g c = λ told.
    synced_on _ _ _ (renewed_once _ _ (c.renew_mark.ensures.crash told)) (c.sync.ensures.crash (c.renew_mark.ensures.frame.tells ∙ told))

pub returns-in_err-renew_mark-clause-left : goal.returns-in_err-renew_mark-clause-left
returns-in_err-renew_mark-clause-left g c = λ told.
    let a1 = g.D.Disk.accounts c.renew_mark.new.disk in
    subst (λ (f : List ℕ). IsSettledOrInterrupted f a1) (sym (c.renew_mark.ensures.content told))
    (left_kept _ _ a1 (c.requires.extent.left told) (c.renew_mark.ensures.crash told))

pub returns-in_err-sync-clause-left : goal.returns-in_err-sync-clause-left
returns-in_err-sync-clause-left g c = λ told.
    let a1 = g.D.Disk.accounts c.renew_mark.new.disk in
    let a2 = g.D.Disk.accounts c.sync.new.self in
    let told1 = c.renew_mark.ensures.frame.tells ∙ told in
    subst (λ (f : List ℕ). IsSettledOrInterrupted f a2) (sym (c.sync.ensures.content told1 ∙ c.renew_mark.ensures.content told))
    (left_still _ a1 a2 (left_kept _ _ a1 (c.requires.extent.left told) (c.renew_mark.ensures.crash told)) (c.sync.ensures.crash told1))

pub returns-clause-left : goal.returns-clause-left
returns-clause-left g c = λ told.
    let a1 = g.D.Disk.accounts c.renew_mark.new.disk in
    let a2 = g.D.Disk.accounts c.sync.new.self in
    let told1 = c.renew_mark.ensures.frame.tells ∙ told in
    subst (λ (f : List ℕ). IsSettledOrInterrupted f a2) (sym (c.sync.ensures.content told1 ∙ c.renew_mark.ensures.content told))
    (left_still _ a1 a2 (left_kept _ _ a1 (c.requires.extent.left told) (c.renew_mark.ensures.crash told)) (c.sync.ensures.crash told1))

pub returns-clause-settled : goal.returns-clause-settled
returns-clause-settled g c = λ told one some s.
    let disk = c.args.disk.now in
    let c0 = g.D.Disk.content disk in
    let extent = c.args.extent in
    let versions = c.requires.extent.versions told in
    let told1 = c.renew_mark.ensures.frame.tells ∙ told in
    let start_is = versions.start ∙ ap (λ (v : ℕ). first_place v (payload_list (header v) c0)) one in
    let skipped_is = versions.skipped ∙ ap (λ (v : ℕ). uncounted v (payload_list (header v) c0)) one in
    let clean = mark_clean c0 extent.start start_is _ (g.D.Disk.accounts c.renew_mark.new.disk) (g.met.D.Disk.is_image disk told) s (λ far lt. c.in_ok-renew_mark.ensures.cleared told far lt) (omega (arith, some, skipped_is)) in
    subst (λ (f : List ℕ). IsSettled f (g.D.Disk.accounts c.sync.new.self)) (sym (c.sync.ensures.content told1)) (c.in_ok-sync.ensures.settled told1 clean)
