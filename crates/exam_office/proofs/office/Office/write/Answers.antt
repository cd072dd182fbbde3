use Rattle.std.proofs.Common.{◌≡◌, ◌∙◌, ℕ, List, [], ◌∷◌, ◌++◌, Some, sym, ap, subst}
use Rattle.std.specs.Option.{option_copied}
use Rattle.history_model.specs.declared.entry.Entry.{Entry}
use Rattle.history_model.specs.Judging.{Record}
use Rattle.answer_journal.specs.Journal.{JournalState, accounts_of}
use Rattle.exam_office.specs.declared.mark.Mark.{Mark}
use Rattle.exam_office.specs.declared.mark.Mark.TheVariants.{Own, Fault}
use Rattle.exam_office.specs.Keeping.{IsKept}
use Rattle.exam_office.proofs.Allowing.{appending}
use Rattle.exam_office.specs.Allowing.{AllowsHistories}
use Rattle.exam_office.proofs.Kept.{some_room}
use Rattle.exam_office.specs.KeptVectors.{AreKeptVectors}
use Rattle.exam_office.specs.Marks.{history}
use Rattle.exam_office.proofs.Written.{kept_sure, may_here, moments_before, moments_still, moments_of, kept_written, images_written, kept_faulted, kept_roomy, roomy_vectors, written_vectors, faulted_vectors}
use Rattle.exam_office.specs.Running.{handed}
use Rattle.exam_office.proofs.PayloadLaws.{writing_still, writing_before, writing_left, payloads_written, written_doubtful}
use Rattle.exam_office.proofs.office.Office.write.Goals as goal

pub returns-in-Err-clause-moments : goal.returns-in-Err-clause-moments
returns-in-Err-clause-moments g c =
    let o = c.self.inside in
    let r : Record = record { entry = c.args.entry.now; tree = option_copied c.args.tree } in
    moments_still o.bank.now o.spec.now o.base o.book o.journal o.marks o.doubt (handed g.D.Disk.content g.D.Disk.accounts g.D.Disk.faults o.opened.value) c.self.invariant.0 c.args.self.now c.self.view_is c.requires.sure r c.requires.may

pub returns-in-Err-room_for_mark-clause-moments : goal.returns-in-Err-room_for_mark-clause-moments
returns-in-Err-room_for_mark-clause-moments g c =
    let o = c.self.inside in
    let r : Record = record { entry = c.args.entry.now; tree = option_copied c.args.tree } in
    moments_still o.bank.now o.spec.now o.base o.book o.journal o.marks o.doubt (handed g.D.Disk.content g.D.Disk.accounts g.D.Disk.faults o.opened.value) c.self.invariant.0 c.args.self.now c.self.view_is c.requires.sure r c.requires.may

pub returns-in-Err-reserve-clause-moments : goal.returns-in-Err-reserve-clause-moments
returns-in-Err-reserve-clause-moments g c =
    let o = c.self.inside in
    let r : Record = record { entry = c.args.entry.now; tree = option_copied c.args.tree } in
    moments_before o.bank.now o.spec.now o.base o.book o.journal o.marks o.doubt (handed g.D.Disk.content g.D.Disk.accounts g.D.Disk.faults o.opened.value) c.self.invariant.0 c.args.self.now c.self.view_is c.requires.sure r c.requires.may

pub returns-in-Ok-append-clause-moments : goal.returns-in-Ok-append-clause-moments
returns-in-Ok-append-clause-moments g c =
    let o = c.self.inside in
    let r : Record = record { entry = c.args.entry.now; tree = option_copied c.args.tree } in
    moments_of o.bank.now o.spec.now o.base o.book o.journal o.marks o.doubt (handed g.D.Disk.content g.D.Disk.accounts g.D.Disk.faults o.opened.value) c.self.invariant.0 c.args.self.now c.self.view_is c.requires.sure r c.requires.may (accounts_of c.append.new.self) c.in-Ok.frame c.in-Ok.ensures.frame c.in-Ok.ensures.is_record c.append.ensures.moments

pub returns-in-Err-Full-clause-moments : goal.returns-in-Err-Full-clause-moments
returns-in-Err-Full-clause-moments g c =
    let o = c.self.inside in
    let r : Record = record { entry = c.args.entry.now; tree = option_copied c.args.tree } in
    moments_of o.bank.now o.spec.now o.base o.book o.journal o.marks o.doubt (handed g.D.Disk.content g.D.Disk.accounts g.D.Disk.faults o.opened.value) c.self.invariant.0 c.args.self.now c.self.view_is c.requires.sure r c.requires.may (accounts_of c.append.new.self) c.in-Ok.frame c.in-Ok.ensures.frame c.in-Ok.ensures.is_record c.append.ensures.moments

pub returns-clause-moments : goal.returns-clause-moments
returns-clause-moments g c =
    let o = c.self.inside in
    let r : Record = record { entry = c.args.entry.now; tree = option_copied c.args.tree } in
    moments_of o.bank.now o.spec.now o.base o.book o.journal o.marks o.doubt (handed g.D.Disk.content g.D.Disk.accounts g.D.Disk.faults o.opened.value) c.self.invariant.0 c.args.self.now c.self.view_is c.requires.sure r c.requires.may (accounts_of c.append.new.self) c.in-Ok.frame c.in-Ok.ensures.frame c.in-Ok.ensures.is_record c.append.ensures.moments

pub invariant_of-self-in-Ok-append : goal.invariant_of-self-in-Ok-append
invariant_of-self-in-Ok-append g c =
    let o = c.self.inside in
    let r : Record = record { entry = c.args.entry.now; tree = option_copied c.args.tree } in
    let noted : c.push.new.self ≡ o.marks ++ Own r.entry c.append.new.self.size ∷ [] =
    c.push.ensures ∙ ap (λ (n : ℕ). o.marks ++ Own r.entry n ∷ []) c.length-size.ensures.length in (
      subst (λ (ms : List Mark). IsKept o.bank.now o.spec.now o.base c.apply.new.self c.append.new.self ms o.doubt (handed g.D.Disk.content g.D.Disk.accounts g.D.Disk.faults o.opened.value)) (sym noted)
          (kept_written o.bank.now o.spec.now o.base o.book o.journal o.marks o.doubt (handed g.D.Disk.content g.D.Disk.accounts g.D.Disk.faults o.opened.value) c.self.invariant.0 c.args.self.now c.self.view_is c.requires.sure r c.requires.may c.apply.new.self c.append.new.self c.in-Ok.frame c.in-Ok.ensures.frame c.in-Ok.ensures.is_record
          (c.apply.ensures.bank ∙ c.reserve.ensures.bank) (c.apply.ensures.plan ∙ c.reserve.ensures.plan) (c.apply.ensures.entries ∙ ap (λ (H : List Entry). H ++ r.entry ∷ []) c.reserve.ensures.entries)
          c.in-Ok-append.ensures.ready c.append.ensures.limit c.append.ensures.versions.1 c.append.ensures.frame.grows c.append.ensures.frame.tells c.in-Ok-append.ensures.added c.append.ensures.moments),
      subst (λ (ms : List Mark). AreKeptVectors o.bank.now o.spec.now (history ms) c.append.new.self o.doubt c.keep.new.self.each.items c.keep.new.self.doubt) (sym noted)
          (written_vectors o.bank.now o.spec.now o.base o.book o.journal o.marks o.doubt (handed g.D.Disk.content g.D.Disk.accounts g.D.Disk.faults o.opened.value) c.self.invariant.0 c.args.self.now c.self.view_is c.requires.sure r c.requires.may o.vectors.each.items c.prepare.new.self.each.items o.vectors.doubt c.prepare.new.self.doubt c.prepare.ensures.same c.prepare.ensures.doubt c.self.invariant.1 c.append.new.self c.in-Ok.frame c.in-Ok.ensures.frame c.in-Ok.ensures.is_record c.append.ensures.frame.tells c.in-Ok-prepare.new c.in-Ok-prepare.ensures.new
          c.keep.new.self.each.items c.keep.new.self.doubt c.in-Ok-append.ensures.added c.keep.ensures.each c.keep.ensures.doubt),
      c.self.invariant.2,
    )

pub returns-in-Ok-append-clause-images : goal.returns-in-Ok-append-clause-images
returns-in-Ok-append-clause-images g c =
    let o = c.self.inside in
    let r : Record = record { entry = c.args.entry.now; tree = option_copied c.args.tree } in
    let noted : c.push.new.self ≡ o.marks ++ Own r.entry c.append.new.self.size ∷ [] =
    c.push.ensures ∙ ap (λ (n : ℕ). o.marks ++ Own r.entry n ∷ []) c.length-size.ensures.length in
    images_written o.bank.now o.spec.now o.base o.book o.journal o.marks o.doubt (handed g.D.Disk.content g.D.Disk.accounts g.D.Disk.faults o.opened.value) c.self.invariant.0 c.args.self.now c.self.view_is c.requires.sure r c.requires.may c.append.new.self c.push.new.self c.apply.new.self
    (subst (λ (ms : List Mark). IsKept o.bank.now o.spec.now o.base c.apply.new.self c.append.new.self ms o.doubt (handed g.D.Disk.content g.D.Disk.accounts g.D.Disk.faults o.opened.value)) (sym noted)
    (kept_written o.bank.now o.spec.now o.base o.book o.journal o.marks o.doubt (handed g.D.Disk.content g.D.Disk.accounts g.D.Disk.faults o.opened.value) c.self.invariant.0 c.args.self.now c.self.view_is c.requires.sure r c.requires.may c.apply.new.self c.append.new.self c.in-Ok.frame c.in-Ok.ensures.frame c.in-Ok.ensures.is_record
    (c.apply.ensures.bank ∙ c.reserve.ensures.bank) (c.apply.ensures.plan ∙ c.reserve.ensures.plan) (c.apply.ensures.entries ∙ ap (λ (H : List Entry). H ++ r.entry ∷ []) c.reserve.ensures.entries)
    c.in-Ok-append.ensures.ready c.append.ensures.limit c.append.ensures.versions.1 c.append.ensures.frame.grows c.append.ensures.frame.tells c.in-Ok-append.ensures.added c.append.ensures.moments)) c.append.ensures.frame.tells

pub invariant_of-self-in-Err-Disk : goal.invariant_of-self-in-Err-Disk
invariant_of-self-in-Err-Disk g c =
    let o = c.self.inside in
    let r : Record = record { entry = c.args.entry.now; tree = option_copied c.args.tree } in
    let noted : c.push-in-Err-Disk.new.self ≡ o.marks ++ Fault r.entry ∷ [] =
    c.push-in-Err-Disk.ensures in (
      subst (λ (ms : List Mark). IsKept o.bank.now o.spec.now o.base c.reserve.new.self c.append.new.self ms (Some r.entry) (handed g.D.Disk.content g.D.Disk.accounts g.D.Disk.faults o.opened.value)) (sym noted)
          (kept_faulted o.bank.now o.spec.now o.base o.book o.journal o.marks o.doubt (handed g.D.Disk.content g.D.Disk.accounts g.D.Disk.faults o.opened.value) c.self.invariant.0 c.args.self.now c.self.view_is c.requires.sure r c.requires.may c.reserve.new.self c.append.new.self c.in-Ok.frame c.in-Ok.ensures.frame c.in-Ok.ensures.is_record
          c.reserve.ensures.bank c.reserve.ensures.plan c.reserve.ensures.entries (some_room c.reserve.new.self.room o.book.room c.in-Ok-reserve.ensures.room)
          (rw c.in-Err-Disk.field-0-is at c.in-Err-Disk.ensures.doubt) c.in-Err-Disk.ensures.length_err c.append.ensures.limit c.append.ensures.versions.1 (rw c.in-Err-Disk.field-0-is at c.in-Err-Disk.ensures.cause) c.append.ensures.frame.grows c.append.ensures.frame.tells c.append.ensures.moments),
      subst (λ (ms : List Mark). AreKeptVectors o.bank.now o.spec.now (history ms) c.append.new.self (Some r.entry) c.hold.new.self.each.items c.hold.new.self.doubt) (sym noted)
          (faulted_vectors o.bank.now o.spec.now o.base o.book o.journal o.marks o.doubt (handed g.D.Disk.content g.D.Disk.accounts g.D.Disk.faults o.opened.value) c.self.invariant.0 c.args.self.now c.self.view_is c.requires.sure r c.requires.may o.vectors.each.items c.prepare.new.self.each.items o.vectors.doubt c.prepare.new.self.doubt c.prepare.ensures.same c.prepare.ensures.doubt c.self.invariant.1 c.append.new.self c.in-Ok.frame c.in-Ok.ensures.frame c.in-Ok.ensures.is_record c.append.ensures.frame.tells c.in-Ok-prepare.new c.in-Ok-prepare.ensures.new
          c.hold.new.self.each.items c.hold.new.self.doubt (rw c.in-Err-Disk.field-0-is at c.in-Err-Disk.ensures.doubt) c.in-Ok-prepare.ensures.room c.hold.ensures.each c.hold.ensures.doubt),
      c.self.invariant.2,
    )

-- room was taken, and no more
pub returns-in-Err-prepare-clause-moments : goal.returns-in-Err-prepare-clause-moments
returns-in-Err-prepare-clause-moments g c =
    let o = c.self.inside in
    let r : Record = record { entry = c.args.entry.now; tree = option_copied c.args.tree } in
    moments_before o.bank.now o.spec.now o.base o.book o.journal o.marks o.doubt (handed g.D.Disk.content g.D.Disk.accounts g.D.Disk.faults o.opened.value) c.self.invariant.0 c.args.self.now c.self.view_is c.requires.sure r c.requires.may

pub invariant_of-self-in-Err-Full : goal.invariant_of-self-in-Err-Full
invariant_of-self-in-Err-Full g c =
    let o = c.self.inside in
    let r : Record = record { entry = c.args.entry.now; tree = option_copied c.args.tree } in
    let full = rw c.in-Err-Full.field-0-is at c.in-Err-Full.ensures.full in
    subst (λ (j : JournalState g.row.D.Denot). IsKept o.bank.now o.spec.now o.base c.reserve.new.self j o.marks o.doubt (handed g.D.Disk.content g.D.Disk.accounts g.D.Disk.faults o.opened.value)
    × AreKeptVectors o.bank.now o.spec.now (history o.marks) j o.doubt c.prepare.new.self.each.items c.prepare.new.self.doubt
    × AllowsHistories o.bank.now o.spec.now g.D.Disk.may_become) (sym full.2) (
      kept_roomy o.bank.now o.spec.now o.base o.book o.journal o.marks o.doubt (handed g.D.Disk.content g.D.Disk.accounts g.D.Disk.faults o.opened.value) c.self.invariant.0 c.args.self.now c.self.view_is c.requires.sure r c.requires.may c.reserve.new.self c.reserve.ensures.bank c.reserve.ensures.plan c.reserve.ensures.entries,
      roomy_vectors o.bank.now o.spec.now o.base o.book o.journal o.marks o.doubt (handed g.D.Disk.content g.D.Disk.accounts g.D.Disk.faults o.opened.value) c.self.invariant.0 c.args.self.now c.self.view_is c.requires.sure r c.requires.may o.vectors.each.items c.prepare.new.self.each.items o.vectors.doubt c.prepare.new.self.doubt c.prepare.ensures.same c.prepare.ensures.doubt c.self.invariant.1,
      c.self.invariant.2,
    )

-- by the payloads of the journal

pub returns-in-Err-clause-left : goal.returns-in-Err-clause-left
returns-in-Err-clause-left g c =
    let o = c.self.inside in
    let r : Record = record { entry = c.args.entry.now; tree = option_copied c.args.tree } in
    writing_still o.bank.now o.spec.now o.base o.book o.journal o.marks o.doubt (handed g.D.Disk.content g.D.Disk.accounts g.D.Disk.faults o.opened.value) c.self.invariant.0 c.args.self.now c.self.view_is c.requires.sure r

pub returns-in-Err-room_for_mark-clause-left : goal.returns-in-Err-room_for_mark-clause-left
returns-in-Err-room_for_mark-clause-left g c =
    let o = c.self.inside in
    let r : Record = record { entry = c.args.entry.now; tree = option_copied c.args.tree } in
    writing_still o.bank.now o.spec.now o.base o.book o.journal o.marks o.doubt (handed g.D.Disk.content g.D.Disk.accounts g.D.Disk.faults o.opened.value) c.self.invariant.0 c.args.self.now c.self.view_is c.requires.sure r

pub returns-in-Err-reserve-clause-left : goal.returns-in-Err-reserve-clause-left
returns-in-Err-reserve-clause-left g c =
    let o = c.self.inside in
    let r : Record = record { entry = c.args.entry.now; tree = option_copied c.args.tree } in
    writing_before o.bank.now o.spec.now o.base o.book o.journal o.marks o.doubt (handed g.D.Disk.content g.D.Disk.accounts g.D.Disk.faults o.opened.value) c.self.invariant.0 c.args.self.now c.self.view_is c.requires.sure r

pub returns-in-Err-prepare-clause-left : goal.returns-in-Err-prepare-clause-left
returns-in-Err-prepare-clause-left g c =
    let o = c.self.inside in
    let r : Record = record { entry = c.args.entry.now; tree = option_copied c.args.tree } in
    writing_before o.bank.now o.spec.now o.base o.book o.journal o.marks o.doubt (handed g.D.Disk.content g.D.Disk.accounts g.D.Disk.faults o.opened.value) c.self.invariant.0 c.args.self.now c.self.view_is c.requires.sure r

pub returns-in-Ok-append-clause-left : goal.returns-in-Ok-append-clause-left
returns-in-Ok-append-clause-left g c =
    let o = c.self.inside in
    let r : Record = record { entry = c.args.entry.now; tree = option_copied c.args.tree } in
    writing_left o.bank.now o.spec.now o.base o.book o.journal o.marks o.doubt (handed g.D.Disk.content g.D.Disk.accounts g.D.Disk.faults o.opened.value) c.self.invariant.0 c.args.self.now c.self.view_is c.requires.sure r c.in-Ok.frame c.in-Ok.ensures.frame c.append.new.self c.append.ensures.moments

pub returns-in-Err-Full-clause-left : goal.returns-in-Err-Full-clause-left
returns-in-Err-Full-clause-left g c =
    let o = c.self.inside in
    let r : Record = record { entry = c.args.entry.now; tree = option_copied c.args.tree } in
    writing_left o.bank.now o.spec.now o.base o.book o.journal o.marks o.doubt (handed g.D.Disk.content g.D.Disk.accounts g.D.Disk.faults o.opened.value) c.self.invariant.0 c.args.self.now c.self.view_is c.requires.sure r c.in-Ok.frame c.in-Ok.ensures.frame c.append.new.self c.append.ensures.moments

pub returns-clause-left : goal.returns-clause-left
returns-clause-left g c =
    let o = c.self.inside in
    let r : Record = record { entry = c.args.entry.now; tree = option_copied c.args.tree } in
    writing_left o.bank.now o.spec.now o.base o.book o.journal o.marks o.doubt (handed g.D.Disk.content g.D.Disk.accounts g.D.Disk.faults o.opened.value) c.self.invariant.0 c.args.self.now c.self.view_is c.requires.sure r c.in-Ok.frame c.in-Ok.ensures.frame c.append.new.self c.append.ensures.moments

pub returns-in-Ok-append-clause-payloads : goal.returns-in-Ok-append-clause-payloads
returns-in-Ok-append-clause-payloads g c =
    let o = c.self.inside in
    let r : Record = record { entry = c.args.entry.now; tree = option_copied c.args.tree } in
    payloads_written o.bank.now o.spec.now o.base o.book o.journal o.marks o.doubt (handed g.D.Disk.content g.D.Disk.accounts g.D.Disk.faults o.opened.value) c.self.invariant.0 c.args.self.now c.self.view_is c.requires.sure r c.in-Ok.frame c.in-Ok.ensures.frame c.append.new.self c.in-Ok-append.ensures.added

pub returns-clause-doubtful : goal.returns-clause-doubtful
returns-clause-doubtful g c =
    let o = c.self.inside in
    let r : Record = record { entry = c.args.entry.now; tree = option_copied c.args.tree } in
    λ is. (written_doubtful o.bank.now o.spec.now o.base o.book o.journal o.marks o.doubt (handed g.D.Disk.content g.D.Disk.accounts g.D.Disk.faults o.opened.value) c.self.invariant.0 c.args.self.now c.self.view_is c.requires.sure r c.in-Ok.frame c.in-Ok.ensures.frame c.append.new.self (rw c.in-Err-Disk.field-0-is at c.in-Err-Disk.ensures.doubt), c.in-Ok.ensures.is_record)

-- what the disk allows
pub append-requires-clause-comes : goal.append-requires-clause-comes
append-requires-clause-comes g c =
    let o = c.self.inside in
    let r : Record = record { entry = c.args.entry.now; tree = option_copied c.args.tree } in
    let was = handed g.D.Disk.content g.D.Disk.accounts g.D.Disk.faults o.opened.value in
    let kept = kept_sure o.bank.now o.spec.now o.base o.book o.journal o.marks o.doubt was c.self.invariant.0 c.args.self.now c.self.view_is c.requires.sure r c.requires.may in
    let may = may_here o.bank.now o.spec.now o.base o.book o.journal o.marks o.doubt was c.self.invariant.0 c.args.self.now c.self.view_is c.requires.sure r c.requires.may in
    appending o.bank.now o.spec.now g.D.Disk.may_become c.self.invariant.2 o.journal (history o.marks) r kept.backed c.in-Ok.ensures.is_record may c.in-Ok.frame c.in-Ok.ensures.frame
