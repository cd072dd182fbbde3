use Rattle.std.proofs.Common.{◌≡◌, Some, sym, ◌∙◌, ap}
use Rattle.exam_edge.specs.ImageLaws.{may_leave_dropped}
use Rattle.answer_journal.specs.Frames.{shadowj2, payloads}
use Rattle.answer_journal.proofs.Settling.{header_moments, header_clean}
use Rattle.answer_journal.proofs.Tidying.{begun_is, begun_rests, opened_file-short, short_gives}
use Rattle.answer_journal.proofs.opening.write_header.Goals as goal

pub returns-in_err-write_durably-clause-moments : goal.returns-in_err-write_durably-clause-moments
returns-in_err-write_durably-clause-moments g c = λ told.
    header_moments shadowj2 (g.D.Disk.content c.args.disk.now) (g.D.Disk.accounts c.args.disk.now) (c.requires.short told) (g.D.Disk.accounts c.write_durably.new.disk) (c.requires.left told) (c.write_durably.ensures.crash told)

pub returns-clause-moments : goal.returns-clause-moments
returns-clause-moments g c = λ told.
    header_moments shadowj2 (g.D.Disk.content c.args.disk.now) (g.D.Disk.accounts c.args.disk.now) (c.requires.short told) (g.D.Disk.accounts c.write_durably.new.disk) (c.requires.left told) (c.write_durably.ensures.crash told)

pub returns-clause-rest : goal.returns-clause-rest
returns-clause-rest g c = λ told.
    let c0 = g.D.Disk.content c.args.disk.now in
    let few = c.requires.short told in
    let clean = header_clean shadowj2 c0 (g.D.Disk.accounts c.args.disk.now) few (c.requires.left told) in
    (begun_rests shadowj2 c0 (g.D.Disk.content c.write_durably.new.disk) (g.D.Disk.accounts c.write_durably.new.disk) few (c.in_ok-write_durably.ensures.content told) (c.in_ok-write_durably.ensures.settled told clean)).0

pub returns-clause-keeps : goal.returns-clause-keeps
returns-clause-keeps g c = λ told.
    let c0 = g.D.Disk.content c.args.disk.now in
    let few = c.requires.short told in
    let clean = header_clean shadowj2 c0 (g.D.Disk.accounts c.args.disk.now) few (c.requires.left told) in
    short_gives shadowj2 c0 few
    ∙ ap Some (sym (begun_rests shadowj2 c0 (g.D.Disk.content c.write_durably.new.disk) (g.D.Disk.accounts c.write_durably.new.disk) few (c.in_ok-write_durably.ensures.content told) (c.in_ok-write_durably.ensures.settled told clean)).1)

pub returns-clause-content : goal.returns-clause-content
returns-clause-content g c = λ told.
    let c0 = g.D.Disk.content c.args.disk.now in
    let few = c.requires.short told in
    begun_is shadowj2 c0 (g.D.Disk.content c.write_durably.new.disk) few (c.in_ok-write_durably.ensures.content told) ∙ sym (opened_file-short c0 9 few)

-- what the write may leave
pub write_durably-requires-clause-comes : goal.write_durably-requires-clause-comes
write_durably-requires-clause-comes g c = λ told.
    let c0 = g.D.Disk.content c.args.disk.now in
    let a0 = g.D.Disk.accounts c.args.disk.now in
    may_leave_dropped g.D.Disk.may_become (λ file. payloads shadowj2 file ≡ payloads shadowj2 c0) c0 _ a0
    (c.requires.comes told) (λ a1 crash. header_moments shadowj2 c0 a0 (c.requires.short told) a1 (c.requires.left told) crash)
