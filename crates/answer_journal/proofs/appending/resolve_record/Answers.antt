use Rattle.std.proofs.Common.{◌≡◌, ◌-◌, ◌<◌, ◌==◌, inl, inr, length, get_or, sym, refl, ◌∙◌, ap, subst, arith, List, ℕ}
use Rattle.exam_edge.specs.Images.{latest, cut_to, dropped as dropped_account, AllImages, IsSettled}
use Rattle.exam_edge.specs.ImageLaws.{all_of_dropped, still, goes_on, settled_clean, shortened_clean}
use Rattle.answer_journal.specs.Standing.{IsEither, Unopened}
use Rattle.answer_journal.proofs.Mending.{at_start, long, kept, shut, shut_images, cut_leaves, written_not_open, dropped}
use Rattle.answer_journal.proofs.Staging.{dropped_moments, written_still, opened_still, gate_clean, cut_clean, cut_still, cut_images, closed_still, kept_written, kept_opened}
use Rattle.answer_journal.proofs.appending.resolve_record.Goals as goal

pub returns-in_err-settle_gate-clause-moments : goal.returns-in_err-settle_gate-clause-moments
returns-in_err-settle_gate-clause-moments g c = λ told h ps p n d.
    let c0 = g.D.Disk.content c.args.disk.now in
    let a0 = g.D.Disk.accounts c.args.disk.now in
    let size = c.args.size in
    let image = g.met.D.Disk.is_image c.args.disk.now told in
    dropped_moments (IsEither h ps p) a0 a0 (g.D.Disk.accounts c.settle_gate.new.disk) (at_start h c0 a0 image size ps p n d) d.each (c.settle_gate.ensures.crash told)

pub returns-in_err-settle_gate-clause-stage : goal.returns-in_err-settle_gate-clause-stage
returns-in_err-settle_gate-clause-stage g c = λ told h ps p n d.
    let a0 = g.D.Disk.accounts c.args.disk.now in
    let size = c.args.size in
    let a1 = g.D.Disk.accounts c.settle_gate.new.disk in
    elim d.stage [
      | inl w ↦ inl (written_still h ps size d.size_is a0 w a1 (c.settle_gate.ensures.crash told))
      | inr o ↦ inr (opened_still h ps p size d.size_is a0 o a1 (c.settle_gate.ensures.crash told))
    ]

pub returns-then-branch-clause-moments : goal.returns-then-branch-clause-moments
returns-then-branch-clause-moments g c = λ told h ps p n d.
    let c0 = g.D.Disk.content c.args.disk.now in
    let a0 = g.D.Disk.accounts c.args.disk.now in
    let size = c.args.size in
    let image = g.met.D.Disk.is_image c.args.disk.now told in
    let a1 = g.D.Disk.accounts c.settle_gate.new.disk in
    let synced = still (IsEither h ps p) a0 a0 a1 (at_start h c0 a0 image size ps p n d) (c.in_ok-settle_gate.ensures.kept told) in
    synced

pub returns-then-branch-clause-rest : goal.returns-then-branch-clause-rest
returns-then-branch-clause-rest g c = λ told h ps p n d.
    let c0 = g.D.Disk.content c.args.disk.now in
    let a0 = g.D.Disk.accounts c.args.disk.now in
    let size = c.args.size in
    let image = g.met.D.Disk.is_image c.args.disk.now told in
    let bounds = long h c0 a0 image size ps p n d in
    let in_file : size - 1 < length c0 = omega (arith, bounds, c.requires.some) in
    let gate_is : c.in_ok-settle_gate.field-0 ≡ (get_or c0 (size - 1) 0 == 1) = c.in_ok-settle_gate.ensures.gate told in_file in
    let is_open = sym gate_is ∙ c.if-branch.true in
    let c1 = g.D.Disk.content c.settle_gate.new.disk in
    let a1 = g.D.Disk.accounts c.settle_gate.new.disk in
    let same1 = c.settle_gate.ensures.content told in
    elim d.stage [
      | inl w ↦ absurd (written_not_open h c0 a0 image size ps p n d w is_open)
      | inr o ↦
          let settles = c.in_ok-settle_gate.ensures.settled told in_file (gate_clean h ps p size d.size_is a0 o) in
          kept h c0 a0 image size ps p n d is_open c1 a1 same1 settles
    ]

pub returns-then-branch-clause-gate : goal.returns-then-branch-clause-gate
returns-then-branch-clause-gate g c = λ told.
    let some = c.requires.doubt told in
    let h = some.0 in
    let ps = some.1 in
    let p = some.2 in
    let n = some.3 in
    let d = some.4 in
    let c0 = g.D.Disk.content c.args.disk.now in
    let a0 = g.D.Disk.accounts c.args.disk.now in
    let size = c.args.size in
    let image = g.met.D.Disk.is_image c.args.disk.now told in
    let bounds = long h c0 a0 image size ps p n d in
    let in_file : size - 1 < length c0 = omega (arith, bounds, c.requires.some) in
    let gate_is : c.in_ok-settle_gate.field-0 ≡ (get_or c0 (size - 1) 0 == 1) = c.in_ok-settle_gate.ensures.gate told in_file in
    (λ is. refl, λ is. sym gate_is ∙ c.if-branch.true)

pub cut_durably-requires-clause-place : goal.cut_durably-requires-clause-place
cut_durably-requires-clause-place g c = λ told1.
    let told = sym c.settle_gate.ensures.frame.tells ∙ told1 in
    let some = c.requires.doubt told in
    let h = some.0 in
    let ps = some.1 in
    let p = some.2 in
    let n = some.3 in
    let d = some.4 in
    let c0 = g.D.Disk.content c.args.disk.now in
    let a0 = g.D.Disk.accounts c.args.disk.now in
    let size = c.args.size in
    let image = g.met.D.Disk.is_image c.args.disk.now told in
    let bounds = long h c0 a0 image size ps p n d in
    omega (arith, bounds, ap length (c.settle_gate.ensures.content told))

pub returns-in_err-cut_durably-clause-moments : goal.returns-in_err-cut_durably-clause-moments
returns-in_err-cut_durably-clause-moments g c = λ told h ps p n d.
    let c0 = g.D.Disk.content c.args.disk.now in
    let a0 = g.D.Disk.accounts c.args.disk.now in
    let size = c.args.size in
    let image = g.met.D.Disk.is_image c.args.disk.now told in
    let bounds = long h c0 a0 image size ps p n d in
    let in_file : size - 1 < length c0 = omega (arith, bounds, c.requires.some) in
    let gate_is : c.in_ok-settle_gate.field-0 ≡ (get_or c0 (size - 1) 0 == 1) = c.in_ok-settle_gate.ensures.gate told in_file in
    let a1 = g.D.Disk.accounts c.settle_gate.new.disk in
    let synced = still (IsEither h ps p) a0 a0 a1 (at_start h c0 a0 image size ps p n d) (c.in_ok-settle_gate.ensures.kept told) in
    let c1 = g.D.Disk.content c.settle_gate.new.disk in
    let told1 = c.settle_gate.ensures.frame.tells ∙ told in
    let same1 = c.settle_gate.ensures.content told in
    let a2 = g.D.Disk.accounts c.cut_durably.new.disk in
    let crash = c.cut_durably.ensures.crash told1 in
    elim d.stage [
      | inl w ↦
          let w1 = kept_written h ps size d.size_is a0 w a1 (c.in_ok-settle_gate.ensures.kept told) in
          goes_on (IsEither h ps p) _ a0 a1 a2 synced crash (λ file i. inl (cut_images h ps size d.size_is a1 w1 file i))
      | inr o ↦
          let settles = c.in_ok-settle_gate.ensures.settled told in_file (gate_clean h ps p size d.size_is a0 o) in
          let u = shut h c0 a0 image size ps p n d (sym gate_is ∙ c.if-branch.false) in
          cut_leaves h c0 a0 image size ps p n d u c1 a1 a2 same1 settles synced crash
    ]

pub returns-clause-moments : goal.returns-clause-moments
returns-clause-moments g c = λ told h ps p n d.
    let c0 = g.D.Disk.content c.args.disk.now in
    let a0 = g.D.Disk.accounts c.args.disk.now in
    let size = c.args.size in
    let image = g.met.D.Disk.is_image c.args.disk.now told in
    let bounds = long h c0 a0 image size ps p n d in
    let in_file : size - 1 < length c0 = omega (arith, bounds, c.requires.some) in
    let gate_is : c.in_ok-settle_gate.field-0 ≡ (get_or c0 (size - 1) 0 == 1) = c.in_ok-settle_gate.ensures.gate told in_file in
    let a1 = g.D.Disk.accounts c.settle_gate.new.disk in
    let synced = still (IsEither h ps p) a0 a0 a1 (at_start h c0 a0 image size ps p n d) (c.in_ok-settle_gate.ensures.kept told) in
    let c1 = g.D.Disk.content c.settle_gate.new.disk in
    let told1 = c.settle_gate.ensures.frame.tells ∙ told in
    let same1 = c.settle_gate.ensures.content told in
    let a2 = g.D.Disk.accounts c.cut_durably.new.disk in
    let crash = c.cut_durably.ensures.crash told1 in
    elim d.stage [
      | inl w ↦
          let w1 = kept_written h ps size d.size_is a0 w a1 (c.in_ok-settle_gate.ensures.kept told) in
          goes_on (IsEither h ps p) _ a0 a1 a2 synced crash (λ file i. inl (cut_images h ps size d.size_is a1 w1 file i))
      | inr o ↦
          let settles = c.in_ok-settle_gate.ensures.settled told in_file (gate_clean h ps p size d.size_is a0 o) in
          let u = shut h c0 a0 image size ps p n d (sym gate_is ∙ c.if-branch.false) in
          cut_leaves h c0 a0 image size ps p n d u c1 a1 a2 same1 settles synced crash
    ]

pub returns-in_err-cut_durably-clause-stage : goal.returns-in_err-cut_durably-clause-stage
returns-in_err-cut_durably-clause-stage g c = λ told h ps p n d.
    let c0 = g.D.Disk.content c.args.disk.now in
    let a0 = g.D.Disk.accounts c.args.disk.now in
    let size = c.args.size in
    let image = g.met.D.Disk.is_image c.args.disk.now told in
    let bounds = long h c0 a0 image size ps p n d in
    let in_file : size - 1 < length c0 = omega (arith, bounds, c.requires.some) in
    let gate_is : c.in_ok-settle_gate.field-0 ≡ (get_or c0 (size - 1) 0 == 1) = c.in_ok-settle_gate.ensures.gate told in_file in
    let a1 = g.D.Disk.accounts c.settle_gate.new.disk in
    let synced = still (IsEither h ps p) a0 a0 a1 (at_start h c0 a0 image size ps p n d) (c.in_ok-settle_gate.ensures.kept told) in
    let c1 = g.D.Disk.content c.settle_gate.new.disk in
    let told1 = c.settle_gate.ensures.frame.tells ∙ told in
    let same1 = c.settle_gate.ensures.content told in
    let a2 = g.D.Disk.accounts c.cut_durably.new.disk in
    let crash = c.cut_durably.ensures.crash told1 in
    elim d.stage [
      | inl w ↦
          let w1 = kept_written h ps size d.size_is a0 w a1 (c.in_ok-settle_gate.ensures.kept told) in
          inl (cut_still h ps size d.size_is a1 w1 a2 crash)
      | inr o ↦
          let settles = c.in_ok-settle_gate.ensures.settled told in_file (gate_clean h ps p size d.size_is a0 o) in
          let u = shut h c0 a0 image size ps p n d (sym gate_is ∙ c.if-branch.false) in
          let settles0 = subst (λ (f : List ℕ). IsSettled f a1) same1 settles in
          inl (closed_still h ps size d.size_is c0 u a1 settles0 a2 crash)
    ]

pub returns-clause-stage : goal.returns-clause-stage
returns-clause-stage g c = λ told h ps p n d.
    let c0 = g.D.Disk.content c.args.disk.now in
    let a0 = g.D.Disk.accounts c.args.disk.now in
    let size = c.args.size in
    let image = g.met.D.Disk.is_image c.args.disk.now told in
    let bounds = long h c0 a0 image size ps p n d in
    let in_file : size - 1 < length c0 = omega (arith, bounds, c.requires.some) in
    let gate_is : c.in_ok-settle_gate.field-0 ≡ (get_or c0 (size - 1) 0 == 1) = c.in_ok-settle_gate.ensures.gate told in_file in
    let a1 = g.D.Disk.accounts c.settle_gate.new.disk in
    let synced = still (IsEither h ps p) a0 a0 a1 (at_start h c0 a0 image size ps p n d) (c.in_ok-settle_gate.ensures.kept told) in
    let c1 = g.D.Disk.content c.settle_gate.new.disk in
    let told1 = c.settle_gate.ensures.frame.tells ∙ told in
    let same1 = c.settle_gate.ensures.content told in
    let a2 = g.D.Disk.accounts c.cut_durably.new.disk in
    let crash = c.cut_durably.ensures.crash told1 in
    elim d.stage [
      | inl w ↦
          let w1 = kept_written h ps size d.size_is a0 w a1 (c.in_ok-settle_gate.ensures.kept told) in
          inl (cut_still h ps size d.size_is a1 w1 a2 crash)
      | inr o ↦
          let settles = c.in_ok-settle_gate.ensures.settled told in_file (gate_clean h ps p size d.size_is a0 o) in
          let u = shut h c0 a0 image size ps p n d (sym gate_is ∙ c.if-branch.false) in
          let settles0 = subst (λ (f : List ℕ). IsSettled f a1) same1 settles in
          inl (closed_still h ps size d.size_is c0 u a1 settles0 a2 crash)
    ]

pub returns-then-branch-clause-stage : goal.returns-then-branch-clause-stage
returns-then-branch-clause-stage g c = λ told h ps p n d.
    let a0 = g.D.Disk.accounts c.args.disk.now in
    let size = c.args.size in
    let a1 = g.D.Disk.accounts c.settle_gate.new.disk in
    elim d.stage [
      | inl w ↦ inl (kept_written h ps size d.size_is a0 w a1 (c.in_ok-settle_gate.ensures.kept told))
      | inr o ↦ inr (kept_opened h ps p size d.size_is a0 o a1 (c.in_ok-settle_gate.ensures.kept told))
    ]

pub returns-clause-rest : goal.returns-clause-rest
returns-clause-rest g c = λ told h ps p n d.
    let c0 = g.D.Disk.content c.args.disk.now in
    let a0 = g.D.Disk.accounts c.args.disk.now in
    let size = c.args.size in
    let image = g.met.D.Disk.is_image c.args.disk.now told in
    let bounds = long h c0 a0 image size ps p n d in
    let in_file : size - 1 < length c0 = omega (arith, bounds, c.requires.some) in
    let gate_is : c.in_ok-settle_gate.field-0 ≡ (get_or c0 (size - 1) 0 == 1) = c.in_ok-settle_gate.ensures.gate told in_file in
    let a1 = g.D.Disk.accounts c.settle_gate.new.disk in
    let synced = still (IsEither h ps p) a0 a0 a1 (at_start h c0 a0 image size ps p n d) (c.in_ok-settle_gate.ensures.kept told) in
    let c1 = g.D.Disk.content c.settle_gate.new.disk in
    let told1 = c.settle_gate.ensures.frame.tells ∙ told in
    let same1 = c.settle_gate.ensures.content told in
    let c2 = g.D.Disk.content c.cut_durably.new.disk in
    let a2 = g.D.Disk.accounts c.cut_durably.new.disk in
    let u = shut h c0 a0 image size ps p n d (sym gate_is ∙ c.if-branch.false) in
    elim d.stage [
      | inl w ↦
          let w1 = kept_written h ps size d.size_is a0 w a1 (c.in_ok-settle_gate.ensures.kept told) in
          let clean = cut_clean h ps size d.size_is a1 w1 in
          dropped h c0 a0 image size ps p n d u c1 c2 a2 same1 (c.in_ok-cut_durably.ensures.content told1) (c.in_ok-cut_durably.ensures.settled told1 clean)
      | inr o ↦
          let settles = c.in_ok-settle_gate.ensures.settled told in_file (gate_clean h ps p size d.size_is a0 o) in
          let clean = shortened_clean size (latest a1) (settled_clean (latest a1) c1 settles) in
          dropped h c0 a0 image size ps p n d u c1 c2 a2 same1 (c.in_ok-cut_durably.ensures.content told1) (c.in_ok-cut_durably.ensures.settled told1 clean)
    ]

pub returns-clause-gate : goal.returns-clause-gate
returns-clause-gate g c = λ told.
    let some = c.requires.doubt told in
    let h = some.0 in
    let ps = some.1 in
    let p = some.2 in
    let n = some.3 in
    let d = some.4 in
    let c0 = g.D.Disk.content c.args.disk.now in
    let a0 = g.D.Disk.accounts c.args.disk.now in
    let size = c.args.size in
    let image = g.met.D.Disk.is_image c.args.disk.now told in
    let bounds = long h c0 a0 image size ps p n d in
    let in_file : size - 1 < length c0 = omega (arith, bounds, c.requires.some) in
    let gate_is : c.in_ok-settle_gate.field-0 ≡ (get_or c0 (size - 1) 0 == 1) = c.in_ok-settle_gate.ensures.gate told in_file in
    (λ is. let clash = sym is ∙ sym gate_is ∙ c.if-branch.false in cc, λ is. cc)

-- what the cut may leave
pub cut_durably-requires-clause-comes : goal.cut_durably-requires-clause-comes
cut_durably-requires-clause-comes g c = λ told1.
    let told = sym c.settle_gate.ensures.frame.tells ∙ told1 in
    let some = c.requires.doubt told in
    let h = some.0 in
    let ps = some.1 in
    let p = some.2 in
    let n = some.3 in
    let d = some.4 in
    let c0 = g.D.Disk.content c.args.disk.now in
    let a0 = g.D.Disk.accounts c.args.disk.now in
    let size = c.args.size in
    let image = g.met.D.Disk.is_image c.args.disk.now told in
    let bounds = long h c0 a0 image size ps p n d in
    let in_file : size - 1 < length c0 = omega (arith, bounds, c.requires.some) in
    let gate_is : c.in_ok-settle_gate.field-0 ≡ (get_or c0 (size - 1) 0 == 1) = c.in_ok-settle_gate.ensures.gate told in_file in
    let c1 = g.D.Disk.content c.settle_gate.new.disk in
    let a1 = g.D.Disk.accounts c.settle_gate.new.disk in
    let same1 = c.settle_gate.ensures.content told in
    let u = shut h c0 a0 image size ps p n d (sym gate_is ∙ c.if-branch.false) in
    let here : Unopened h ps c1 = subst (Unopened h ps) (sym same1) u in
    let leaves : AllImages (Unopened h ps) (dropped_account (cut_to size (latest a1))) = elim d.stage [
      | inl w ↦ cut_images h ps size d.size_is a1 (kept_written h ps size d.size_is a0 w a1 (c.in_ok-settle_gate.ensures.kept told))
      | inr o ↦ shut_images h c0 a0 image size ps p n d u c1 a1 same1 (c.in_ok-settle_gate.ensures.settled told in_file (gate_clean h ps p size d.size_is a0 o))
    ] in
    λ file i. inr (some.5 c1 file here (all_of_dropped (Unopened h ps) (cut_to size (latest a1)) leaves file i))
