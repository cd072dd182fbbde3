use Rattle.std.proofs.Common.{List, ℕ, sym, ◌∙◌, subst}
use Rattle.exam_edge.specs.Images.{latest, renewed, IsSettled}
use Rattle.exam_edge.specs.ImageLaws.{within_refl, clean_within}
use Rattle.answer_journal.proofs.Syncing.{changed_dropped, synced_dropped, synced_within}
use Rattle.answer_journal.proofs.appending.settle_gate.Goals as goal

pub returns-in_err-gate-clause-crash : goal.returns-in_err-gate-clause-crash
returns-in_err-gate-clause-crash g c = λ told.
    let a0 = g.D.Disk.accounts c.args.disk.now in
    changed_dropped (latest a0) a0 (g.D.Disk.accounts c.renew_byte.new.disk) (c.renew_byte.ensures.crash told)

pub returns-in_err-sync-clause-crash : goal.returns-in_err-sync-clause-crash
returns-in_err-sync-clause-crash g c = λ told.
    let a0 = g.D.Disk.accounts c.args.disk.now in
    synced_dropped (latest a0) a0 (g.D.Disk.accounts c.renew_byte.new.disk) (g.D.Disk.accounts c.sync.new.self) (within_refl (latest a0)) (c.renew_byte.ensures.crash told) (c.sync.ensures.crash (c.renew_byte.ensures.frame.tells ∙ told))

pub returns-clause-crash : goal.returns-clause-crash
returns-clause-crash g c = λ told.
    let a0 = g.D.Disk.accounts c.args.disk.now in
    synced_dropped (latest a0) a0 (g.D.Disk.accounts c.renew_byte.new.disk) (g.D.Disk.accounts c.sync.new.self) (within_refl (latest a0)) (c.renew_byte.ensures.crash told) (c.sync.ensures.crash (c.renew_byte.ensures.frame.tells ∙ told))

pub returns-clause-kept : goal.returns-clause-kept
returns-clause-kept g c = λ told.
    let a0 = g.D.Disk.accounts c.args.disk.now in
    synced_within (latest a0) a0 (g.D.Disk.accounts c.renew_byte.new.disk) (g.D.Disk.accounts c.sync.new.self) (within_refl (latest a0)) (c.renew_byte.ensures.crash told) (c.in_ok-sync.ensures.kept (c.renew_byte.ensures.frame.tells ∙ told))

pub returns-clause-settled : goal.returns-clause-settled
returns-clause-settled g c = λ told in_file clean.
    let told1 = c.renew_byte.ensures.frame.tells ∙ told in
    let a1 = g.D.Disk.accounts c.renew_byte.new.disk in
    let here = clean_within (latest a1) (renewed c.args.at 1 (latest (g.D.Disk.accounts c.args.disk.now))) (c.in_ok-gate.ensures.cleared told in_file) clean in
    subst (λ (f : List ℕ). IsSettled f (g.D.Disk.accounts c.sync.new.self)) (sym (c.sync.ensures.content told1)) (c.in_ok-sync.ensures.settled told1 here)
