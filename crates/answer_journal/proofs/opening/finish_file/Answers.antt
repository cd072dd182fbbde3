use Rattle.std.proofs.Common.{◌≡◌, ◌+◌, ℕ, Some, inl, inr, List, sym, ◌∙◌, ap, subst, arith}
use Rattle.exam_edge.specs.Images.{Account, AtEachMoment, IsImage, latest}
use Rattle.answer_journal.specs.Frames.{FileHeader, shadowj2, payloads}
use Rattle.answer_journal.specs.Opening.{AllowsSame}
use Rattle.answer_journal.specs.Standing.{payload_list, IsAtRest, IsImageOrGives}
use Rattle.answer_journal.specs.Versions.{header}
use Rattle.answer_journal.proofs.OpeningMoments.{finished_moments, left_moments}
use Rattle.answer_journal.proofs.Tails.{extent_over, none_aside, short_second, on_err_any, on_ok_any, one_aside, only_read, weaker_on_ok}
use Rattle.answer_journal.proofs.opening.finish_file.Goals as goal

pub returns-in_ok-settle_short-clause-moments : goal.returns-in_ok-settle_short-clause-moments
returns-in_ok-settle_short-clause-moments g c = λ told.
    let c0 = g.D.Disk.content c.args.disk.now in
    let short = c.settle_short.new.disk in
    let second = short_second _ _ _ c.args.extent c.requires.extent told c.if-extent-le9.true in
    subst (λ (h : FileHeader). AtEachMoment (g.D.Disk.accounts c.args.disk.now) (g.D.Disk.accounts c.write_header.new.disk) (IsImageOrGives h (latest (g.D.Disk.accounts c.args.disk.now)) c0)) (sym second)
    (finished_moments (payloads shadowj2) c0 (g.D.Disk.content short) _ (g.D.Disk.accounts short) _
    (c.settle_short.ensures.moments told) (c.write_header.ensures.moments (c.settle_short.ensures.frame.tells ∙ told)) (c.in_ok-settle_short.ensures.content told))

pub returns-in_ok-settle_gates-clause-moments : goal.returns-in_ok-settle_gates-clause-moments
returns-in_ok-settle_gates-clause-moments g c = λ told.
    let a0 = g.D.Disk.accounts c.args.disk.now in
    let settled = c.settle_gates.new.disk in
    let a2 = g.D.Disk.accounts settled in
    let told1 = c.put_tail_aside.ensures.frame.tells ∙ told in
    let told2 = c.settle_gates.ensures.frame.tells ∙ told1 in
    let reading = subst (λ (a : List Account). AtEachMoment a a2 (IsImage (latest a))) (c.put_tail_aside.ensures.accounts told) (c.settle_gates.ensures.moments told1) in
    finished_moments (payloads (header c.args.extent.version)) (g.D.Disk.content c.args.disk.now) (g.D.Disk.content settled) a0 a2 (g.D.Disk.accounts c.cut_file.new.disk)
    reading (c.cut_file.ensures.moments told2) (c.settle_gates.ensures.content told1 ∙ c.put_tail_aside.ensures.content told)

pub returns-in_err-settle_gates-clause-moments : goal.returns-in_err-settle_gates-clause-moments
returns-in_err-settle_gates-clause-moments g c = λ told.
    let a2 = g.D.Disk.accounts c.settle_gates.new.disk in
    let reading = c.settle_gates.ensures.moments (c.put_tail_aside.ensures.frame.tells ∙ told) in
    left_moments (payloads (header c.args.extent.version)) _ _ a2 (subst (λ (a : List Account). AtEachMoment a a2 (IsImage (latest a))) (c.put_tail_aside.ensures.accounts told) reading)

-- a short file is to have the second header
pub returns-in_ok-settle_short-clause-rest : goal.returns-in_ok-settle_short-clause-rest
returns-in_ok-settle_short-clause-rest g c = weaker_on_ok c.write_header.result c.write_header.ensures.rest (λ rests told.
    let new = c.write_header.new.disk in
    let x = c.requires.extent in
    let second = short_second _ _ _ c.args.extent x told c.if-extent-le9.true in
    let nine : 9 ≡ c.args.extent.end + 1 = omega (arith, c.if-extent-le9.true, x.after_header, x.starts_in, x.in_file) in
    subst (λ (n : ℕ). IsAtRest (header c.args.extent.version) (g.D.Disk.content new) (g.D.Disk.accounts new) n) nine
    (subst (λ (h : FileHeader). IsAtRest h (g.D.Disk.content new) (g.D.Disk.accounts new) 9) (sym second) (rests (c.settle_short.ensures.frame.tells ∙ told))))

pub returns-in_ok-settle_short-clause-keeps : goal.returns-in_ok-settle_short-clause-keeps
returns-in_ok-settle_short-clause-keeps g c = weaker_on_ok c.write_header.result c.write_header.ensures.keeps (λ keeps told.
    let c0 = g.D.Disk.content c.args.disk.now in
    let c2 = g.D.Disk.content c.write_header.new.disk in
    let second = short_second _ _ _ c.args.extent c.requires.extent told c.if-extent-le9.true in
    subst (λ (h : FileHeader). payloads h c0 ≡ Some (payload_list h c2)) (sym second)
    (ap (payloads shadowj2) (sym (c.in_ok-settle_short.ensures.content told)) ∙ keeps (c.settle_short.ensures.frame.tells ∙ told)))

-- the file is as it was
pub settle_gates-requires-clause-extent : goal.settle_gates-requires-clause-extent
settle_gates-requires-clause-extent g c =
    extent_over _ _ _ _ c.args.extent c.requires.extent _ _ c.put_tail_aside.ensures.frame.tells c.put_tail_aside.ensures.content c.put_tail_aside.ensures.accounts

-- nothing is put aside of a short file
pub returns-in_err-settle_short-clause-aside_err : goal.returns-in_err-settle_short-clause-aside_err
returns-in_err-settle_short-clause-aside_err g c = on_err_any c.from_residual.result (λ told.
    inr (none_aside _ _ _ c.args.extent c.requires.extent told _ _ c.if-extent-le9.true (c.settle_short.ensures.aside told)))

pub returns-in_ok-settle_short-clause-aside : goal.returns-in_ok-settle_short-clause-aside
returns-in_ok-settle_short-clause-aside g c = on_ok_any c.write_header.result (λ told.
    none_aside _ _ _ c.args.extent c.requires.extent told _ _ c.if-extent-le9.true
    (c.write_header.ensures.aside (c.settle_short.ensures.frame.tells ∙ told) ∙ c.settle_short.ensures.aside told))

pub returns-in_ok-settle_short-clause-aside_err : goal.returns-in_ok-settle_short-clause-aside_err
returns-in_ok-settle_short-clause-aside_err g c = on_err_any c.write_header.result (λ told.
    inr (none_aside _ _ _ c.args.extent c.requires.extent told _ _ c.if-extent-le9.true
    (c.write_header.ensures.aside (c.settle_short.ensures.frame.tells ∙ told) ∙ c.settle_short.ensures.aside told)))

-- the tail of a longer one is
pub returns-in_err-put_tail_aside-clause-aside_err : goal.returns-in_err-put_tail_aside-clause-aside_err
returns-in_err-put_tail_aside-clause-aside_err g c = on_err_any c.from_residual-in_err-put_tail_aside.result (λ told.
    inl (only_read _ _ _ _ (c.put_tail_aside.ensures.content told) (c.put_tail_aside.ensures.accounts told), c.in_err-put_tail_aside.ensures.kept told))

pub returns-in_err-settle_gates-clause-aside_err : goal.returns-in_err-settle_gates-clause-aside_err
returns-in_err-settle_gates-clause-aside_err g c = on_err_any c.from_residual-in_err-settle_gates.result (λ told.
    inr (one_aside _ _ _ c.args.extent c.requires.extent told _ _
    (c.settle_gates.ensures.aside (c.put_tail_aside.ensures.frame.tells ∙ told) ∙ c.in_ok-put_tail_aside.ensures.aside told)))

pub returns-in_ok-settle_gates-clause-aside : goal.returns-in_ok-settle_gates-clause-aside
returns-in_ok-settle_gates-clause-aside g c = on_ok_any c.cut_file.result (λ told.
    let told1 = c.put_tail_aside.ensures.frame.tells ∙ told in
    let told2 = c.settle_gates.ensures.frame.tells ∙ told1 in
    one_aside _ _ _ c.args.extent c.requires.extent told _ _
    (c.cut_file.ensures.aside told2 ∙ c.settle_gates.ensures.aside told1 ∙ c.in_ok-put_tail_aside.ensures.aside told))

pub returns-in_ok-settle_gates-clause-aside_err : goal.returns-in_ok-settle_gates-clause-aside_err
returns-in_ok-settle_gates-clause-aside_err g c = on_err_any c.cut_file.result (λ told.
    let told1 = c.put_tail_aside.ensures.frame.tells ∙ told in
    let told2 = c.settle_gates.ensures.frame.tells ∙ told1 in
    inr (one_aside _ _ _ c.args.extent c.requires.extent told _ _
    (c.cut_file.ensures.aside told2 ∙ c.settle_gates.ensures.aside told1 ∙ c.in_ok-put_tail_aside.ensures.aside told)))

-- what is written or cut may come of the same content
pub write_header-requires-clause-comes : goal.write_header-requires-clause-comes
write_header-requires-clause-comes g c = λ told1.
    let told = sym c.settle_short.ensures.frame.tells ∙ told1 in
    let c0 = g.D.Disk.content c.args.disk.now in
    let second = short_second _ _ _ c.args.extent c.requires.extent told c.if-extent-le9.true in
    let same = c.in_ok-settle_short.ensures.content told in
    subst (AllowsSame g.D.Disk.may_become (payloads shadowj2)) (sym same)
    (subst (λ (h : FileHeader). AllowsSame g.D.Disk.may_become (payloads h) c0) second (c.requires.comes told))

pub cut_file-requires-clause-comes : goal.cut_file-requires-clause-comes
cut_file-requires-clause-comes g c = λ told2.
    let told1 = sym c.settle_gates.ensures.frame.tells ∙ told2 in
    let told = sym c.put_tail_aside.ensures.frame.tells ∙ told1 in
    let same = c.settle_gates.ensures.content told1 ∙ c.put_tail_aside.ensures.content told in
    subst (AllowsSame g.D.Disk.may_become (payloads (header c.args.extent.version))) (sym same) (c.requires.comes told)
