use Rattle.std.proofs.Common.{◌≡◌, ◌+◌, Some, sym, ◌∙◌, ap, arith}
use Rattle.exam_edge.specs.ImageLaws.{may_leave_dropped}
use Rattle.answer_journal.specs.Frames.{payloads}
use Rattle.answer_journal.specs.Standing.{payload_list}
use Rattle.answer_journal.specs.Versions.{header}
use Rattle.answer_journal.proofs.Tidying.{cut_keeps, cut_rests, tail_clean, opened_file-long}
use Rattle.answer_journal.proofs.opening.cut_file.Goals as goal

pub cut_durably-requires-clause-place : goal.cut_durably-requires-clause-place
cut_durably-requires-clause-place g c = λ told. let in_file = (c.requires.read told).in_file in omega (arith, in_file)

pub returns-in_err-cut_durably-clause-moments : goal.returns-in_err-cut_durably-clause-moments
returns-in_err-cut_durably-clause-moments g c = λ told.
    let c0 = g.D.Disk.content c.args.disk.now in
    cut_keeps (header c.args.extent.version) c0 (payload_list (header c.args.extent.version) c0) c.args.extent.end (c.requires.read told) (g.D.Disk.accounts c.args.disk.now) (g.D.Disk.accounts c.cut_durably.new.disk) (c.cut_durably.ensures.crash told) (c.requires.gates told)

pub returns-clause-moments : goal.returns-clause-moments
returns-clause-moments g c = λ told.
    let c0 = g.D.Disk.content c.args.disk.now in
    cut_keeps (header c.args.extent.version) c0 (payload_list (header c.args.extent.version) c0) c.args.extent.end (c.requires.read told) (g.D.Disk.accounts c.args.disk.now) (g.D.Disk.accounts c.cut_durably.new.disk) (c.cut_durably.ensures.crash told) (c.requires.gates told)

pub returns-clause-rest : goal.returns-clause-rest
returns-clause-rest g c = λ told.
    let c0 = g.D.Disk.content c.args.disk.now in
    let ps = payload_list (header c.args.extent.version) c0 in
    let read = c.requires.read told in
    let clean = tail_clean (header c.args.extent.version) c0 ps c.args.extent.end read (g.D.Disk.accounts c.args.disk.now) (c.requires.gates told) in
    (cut_rests (header c.args.extent.version) c0 ps c.args.extent.end read (g.D.Disk.content c.cut_durably.new.disk) (g.D.Disk.accounts c.cut_durably.new.disk) (c.in_ok-cut_durably.ensures.content told) (c.in_ok-cut_durably.ensures.settled told clean)).0

pub returns-clause-keeps : goal.returns-clause-keeps
returns-clause-keeps g c = λ told.
    let c0 = g.D.Disk.content c.args.disk.now in
    let ps = payload_list (header c.args.extent.version) c0 in
    let read = c.requires.read told in
    let clean = tail_clean (header c.args.extent.version) c0 ps c.args.extent.end read (g.D.Disk.accounts c.args.disk.now) (c.requires.gates told) in
    let rests = cut_rests (header c.args.extent.version) c0 ps c.args.extent.end read (g.D.Disk.content c.cut_durably.new.disk) (g.D.Disk.accounts c.cut_durably.new.disk) (c.in_ok-cut_durably.ensures.content told) (c.in_ok-cut_durably.ensures.settled told clean) in
    read.gives ∙ ap Some (sym rests.1)

pub returns-clause-content : goal.returns-clause-content
returns-clause-content g c = λ told.
    let c0 = g.D.Disk.content c.args.disk.now in
    c.in_ok-cut_durably.ensures.content told ∙ sym (opened_file-long c0 (c.args.extent.end + 1) (c.requires.long told))

-- what the cut may leave
pub cut_durably-requires-clause-comes : goal.cut_durably-requires-clause-comes
cut_durably-requires-clause-comes g c = λ told.
    let c0 = g.D.Disk.content c.args.disk.now in
    let a0 = g.D.Disk.accounts c.args.disk.now in
    let h = header c.args.extent.version in
    may_leave_dropped g.D.Disk.may_become (λ file. payloads h file ≡ payloads h c0) c0 _ a0
    (c.requires.comes told) (λ a1 crash. cut_keeps h c0 (payload_list h c0) c.args.extent.end (c.requires.read told) a0 a1 crash (c.requires.gates told))
