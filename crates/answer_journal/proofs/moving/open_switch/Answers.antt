use Rattle.std.proofs.Common.{◌++◌, ◌∷◌, []}
use Rattle.exam_edge.specs.ImageLaws.{may_leave_dropped}
use Rattle.answer_journal.specs.Moving.{IsUnmoved, GivesEither}
use Rattle.answer_journal.specs.Standing.{moved_records}
use Rattle.answer_journal.proofs.MovingMoments.{unopened_unmoved}
use Rattle.answer_journal.proofs.SwitchMoments.{gate_in_file, switch_clean, switch_left, switched_is, switching}
use Rattle.answer_journal.proofs.moving.open_switch.Goals as goal

pub write_durably-requires-clause-place : goal.write_durably-requires-clause-place
write_durably-requires-clause-place g c = λ told.
    let some = c.requires.whole told in
    gate_in_file some.0 some.1 _ _ _ some.2

pub returns-clause-content : goal.returns-clause-content
returns-clause-content g c = λ told ps qs w.
    switched_is ps qs _ _ _ w _ (c.in_ok-write_durably.ensures.content told)

pub returns-clause-settled : goal.returns-clause-settled
returns-clause-settled g c = λ told.
    let some = c.requires.whole told in
    c.in_ok-write_durably.ensures.settled told (switch_clean some.0 some.1 _ _ _ some.2)

pub returns-in_err-write_durably-clause-moments : goal.returns-in_err-write_durably-clause-moments
returns-in_err-write_durably-clause-moments g c = λ told ps qs w.
    switching ps qs _ _ _ w _ (c.write_durably.ensures.crash told)

pub returns-clause-moments : goal.returns-clause-moments
returns-clause-moments g c = λ told ps qs w.
    switching ps qs _ _ _ w _ (c.write_durably.ensures.crash told)

pub returns-in_err-write_durably-clause-left : goal.returns-in_err-write_durably-clause-left
returns-in_err-write_durably-clause-left g c = λ told.
    let some = c.requires.whole told in
    switch_left some.0 some.1 _ _ _ some.2 _ (c.write_durably.ensures.crash told)

pub returns-clause-left : goal.returns-clause-left
returns-clause-left g c = λ told.
    let some = c.requires.whole told in
    switch_left some.0 some.1 _ _ _ some.2 _ (c.write_durably.ensures.crash told)

pub write_durably-requires-clause-comes : goal.write_durably-requires-clause-comes
write_durably-requires-clause-comes g c = λ told.
    let some = c.requires.whole told in
    let ps = some.0 in
    let w = some.2 in
    let c0 = g.D.Disk.content c.args.disk.now in
    let here : IsUnmoved ps c0 = unopened_unmoved ps c0 w.fits w.unmoved (record { gate = w.byte; junk = moved_records some.1 ++ 0 ∷ []; closed = w.closed; is = w.is }) in
    may_leave_dropped g.D.Disk.may_become (GivesEither ps some.1) c0 _ (g.D.Disk.accounts c.args.disk.now) (λ file. some.3 c0 file here)
    (λ a1 crash. switching ps some.1 _ _ _ w a1 crash)
