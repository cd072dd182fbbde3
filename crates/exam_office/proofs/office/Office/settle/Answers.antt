use Rattle.std.proofs.Common.{◌≡◌, ◌∙◌, ℕ, List, [], ◌∷◌, ◌++◌, map, None, refl, sym, ap, subst}
use Rattle.answer_journal.specs.Journal.{accounts_of}
use Rattle.exam_office.specs.declared.mark.Mark.{Mark}
use Rattle.exam_office.specs.declared.mark.Mark.TheVariants.{Adopted, Fault}
use Rattle.exam_office.specs.Keeping.{IsKept}
use Rattle.exam_office.specs.Writing.{IsMended}
use Rattle.exam_office.proofs.Settled.{unsure, images_settled, mended_none, images_none, moments_none, moments_same, moments_mended, mended_kept, mended_dropped, kept_so, dropped_so, still_so, adopted_vectors, dropped_vectors, unmended_vectors}
use Rattle.exam_office.specs.KeptVectors.{AreKeptVectors}
use Rattle.exam_office.specs.Marks.{history}
use Rattle.exam_office.specs.Running.{handed}
use Rattle.exam_records.specs.Spelling.{payload_of}
use Rattle.exam_office.proofs.Allowing.{mending}
use Rattle.exam_office.proofs.PayloadLaws.{doubtful_left, never_doubtful, some_is_none, resolved_kept, resolved_dropped, still_doubtful, mending_left}
use Rattle.exam_office.proofs.office.Office.settle.Goals as goal

pub returns-in_default-clause-mended : goal.returns-in_default-clause-mended
returns-in_default-clause-mended g c =
    let o = c.self.inside in
    mended_none o.bank.now o.spec.now o.base o.book o.journal o.marks o.doubt (handed g.D.Disk.content g.D.Disk.accounts g.D.Disk.faults o.opened.value) c.self.invariant.0 c.args.self.now c.self.view_is c.in_default.is

pub returns-in_default-clause-images : goal.returns-in_default-clause-images
returns-in_default-clause-images g c =
    let o = c.self.inside in
    images_none o.bank.now o.spec.now o.base o.book o.journal o.marks o.doubt (handed g.D.Disk.content g.D.Disk.accounts g.D.Disk.faults o.opened.value) c.self.invariant.0 c.args.self.now c.self.view_is c.in_default.is

pub returns-in_default-clause-moments : goal.returns-in_default-clause-moments
returns-in_default-clause-moments g c =
    let o = c.self.inside in
    moments_none o.bank.now o.spec.now o.base o.book o.journal o.marks o.doubt (handed g.D.Disk.content g.D.Disk.accounts g.D.Disk.faults o.opened.value) c.self.invariant.0 c.args.self.now c.self.view_is c.in_default.is

-- without room for a mark
-- nothing changes
pub returns-in-Err-clause-moments : goal.returns-in-Err-clause-moments
returns-in-Err-clause-moments g c =
    let o = c.self.inside in
    moments_same o.bank.now o.spec.now o.base o.book o.journal o.marks o.doubt (handed g.D.Disk.content g.D.Disk.accounts g.D.Disk.faults o.opened.value) c.self.invariant.0 c.args.self.now c.self.view_is c.in-Some.entry c.in-Some.is

-- after the journal is mended
-- the entry is kept, dropped or still in doubt
pub returns-in-Ok-Kept-clause-moments : goal.returns-in-Ok-Kept-clause-moments
returns-in-Ok-Kept-clause-moments g c =
    let o = c.self.inside in
    moments_mended o.bank.now o.spec.now o.base o.book o.journal o.marks o.doubt (handed g.D.Disk.content g.D.Disk.accounts g.D.Disk.faults o.opened.value) c.self.invariant.0 c.args.self.now c.self.view_is c.in-Some.entry c.in-Some.is (accounts_of c.mend.new.self) c.mend.ensures.moments

pub returns-in-Ok-Dropped-clause-moments : goal.returns-in-Ok-Dropped-clause-moments
returns-in-Ok-Dropped-clause-moments g c =
    let o = c.self.inside in
    moments_mended o.bank.now o.spec.now o.base o.book o.journal o.marks o.doubt (handed g.D.Disk.content g.D.Disk.accounts g.D.Disk.faults o.opened.value) c.self.invariant.0 c.args.self.now c.self.view_is c.in-Some.entry c.in-Some.is (accounts_of c.mend.new.self) c.mend.ensures.moments

pub returns-in-Err-mend-clause-moments : goal.returns-in-Err-mend-clause-moments
returns-in-Err-mend-clause-moments g c =
    let o = c.self.inside in
    moments_mended o.bank.now o.spec.now o.base o.book o.journal o.marks o.doubt (handed g.D.Disk.content g.D.Disk.accounts g.D.Disk.faults o.opened.value) c.self.invariant.0 c.args.self.now c.self.view_is c.in-Some.entry c.in-Some.is (accounts_of c.mend.new.self) c.mend.ensures.moments

pub invariant_of-self : goal.invariant_of-self
invariant_of-self g c =
    let o = c.self.inside in
    let e = c.in-Some.entry in
    let noted : c.push.new.self ≡ o.marks ++ Adopted e c.mend.new.self.size ∷ [] =
    c.push.ensures ∙ ap (λ (n : ℕ). o.marks ++ Adopted e n ∷ []) c.length-size.ensures.length in (
      subst (λ (ms : List Mark). IsKept o.bank.now o.spec.now o.base c.apply.new.self c.mend.new.self ms None (handed g.D.Disk.content g.D.Disk.accounts g.D.Disk.faults o.opened.value)) (sym noted)
          (kept_so o.bank.now o.spec.now o.base o.book o.journal o.marks o.doubt (handed g.D.Disk.content g.D.Disk.accounts g.D.Disk.faults o.opened.value) c.self.invariant.0 c.args.self.now c.self.view_is c.in-Some.entry c.in-Some.is c.apply.new.self c.mend.new.self c.apply.ensures.bank c.apply.ensures.plan c.apply.ensures.entries
          c.in-Ok-Kept.ensures.ready c.mend.ensures.limit c.mend.ensures.versions.1 c.mend.ensures.frame.grows c.mend.ensures.frame.tells (rw c.in-Ok-Kept.field-0-is at c.in-Ok-Kept.ensures.mended) c.mend.ensures.moments),
      subst (λ (ms : List Mark). AreKeptVectors o.bank.now o.spec.now (history ms) c.mend.new.self None c.adopt.new.self.each.items c.adopt.new.self.doubt) (sym noted)
          (adopted_vectors o.bank.now o.spec.now o.base o.book o.journal o.marks o.doubt (handed g.D.Disk.content g.D.Disk.accounts g.D.Disk.faults o.opened.value) c.self.invariant.0 c.args.self.now c.self.view_is c.in-Some.entry c.in-Some.is o.vectors.each.items o.vectors.doubt c.self.invariant.1 c.mend.new.self c.mend.ensures.frame.tells c.adopt.new.self.each.items c.adopt.new.self.doubt
          (rw c.in-Ok-Kept.field-0-is at c.in-Ok-Kept.ensures.mended) c.adopt.ensures.each c.adopt.ensures.doubt),
      c.self.invariant.2,
    )

pub returns-in-Ok-Kept-clause-mended : goal.returns-in-Ok-Kept-clause-mended
returns-in-Ok-Kept-clause-mended g c =
    let o = c.self.inside in
    let e = c.in-Some.entry in
    let noted : c.push.new.self ≡ o.marks ++ Adopted e c.mend.new.self.size ∷ [] =
    c.push.ensures ∙ ap (λ (n : ℕ). o.marks ++ Adopted e n ∷ []) c.length-size.ensures.length in
    subst (λ (ms : List Mark). IsMended c.args.self.now.marks c.args.self.now.doubt ms) (sym noted) (mended_kept o.bank.now o.spec.now o.base o.book o.journal o.marks o.doubt (handed g.D.Disk.content g.D.Disk.accounts g.D.Disk.faults o.opened.value) c.self.invariant.0 c.args.self.now c.self.view_is c.in-Some.entry c.in-Some.is c.mend.new.self.size)

pub returns-in-Ok-Kept-clause-images : goal.returns-in-Ok-Kept-clause-images
returns-in-Ok-Kept-clause-images g c =
    let o = c.self.inside in
    let e = c.in-Some.entry in
    let noted : c.push.new.self ≡ o.marks ++ Adopted e c.mend.new.self.size ∷ [] =
    c.push.ensures ∙ ap (λ (n : ℕ). o.marks ++ Adopted e n ∷ []) c.length-size.ensures.length in
    images_settled o.bank.now o.spec.now o.base o.book o.journal o.marks o.doubt (handed g.D.Disk.content g.D.Disk.accounts g.D.Disk.faults o.opened.value) c.self.invariant.0 c.args.self.now c.self.view_is c.mend.new.self c.push.new.self c.apply.new.self
    (subst (λ (ms : List Mark). IsKept o.bank.now o.spec.now o.base c.apply.new.self c.mend.new.self ms None (handed g.D.Disk.content g.D.Disk.accounts g.D.Disk.faults o.opened.value)) (sym noted)
    (kept_so o.bank.now o.spec.now o.base o.book o.journal o.marks o.doubt (handed g.D.Disk.content g.D.Disk.accounts g.D.Disk.faults o.opened.value) c.self.invariant.0 c.args.self.now c.self.view_is c.in-Some.entry c.in-Some.is c.apply.new.self c.mend.new.self c.apply.ensures.bank c.apply.ensures.plan c.apply.ensures.entries
    c.in-Ok-Kept.ensures.ready c.mend.ensures.limit c.mend.ensures.versions.1 c.mend.ensures.frame.grows c.mend.ensures.frame.tells (rw c.in-Ok-Kept.field-0-is at c.in-Ok-Kept.ensures.mended) c.mend.ensures.moments)) c.mend.ensures.frame.tells

pub invariant_of-self-in-Ok-Dropped : goal.invariant_of-self-in-Ok-Dropped
invariant_of-self-in-Ok-Dropped g c =
    let o = c.self.inside in (
      dropped_so o.bank.now o.spec.now o.base o.book o.journal o.marks o.doubt (handed g.D.Disk.content g.D.Disk.accounts g.D.Disk.faults o.opened.value) c.self.invariant.0 c.args.self.now c.self.view_is c.in-Some.entry c.in-Some.is o.book c.mend.new.self refl refl refl
          c.in-Ok-Dropped.ensures.ready (rw c.in-Ok-Dropped.field-0-is at c.in-Ok-Dropped.ensures.length) c.mend.ensures.limit c.mend.ensures.versions.1 c.mend.ensures.frame.grows c.mend.ensures.frame.tells (rw c.in-Ok-Dropped.field-0-is at c.in-Ok-Dropped.ensures.mended) c.mend.ensures.moments,
      dropped_vectors o.bank.now o.spec.now o.base o.book o.journal o.marks o.doubt (handed g.D.Disk.content g.D.Disk.accounts g.D.Disk.faults o.opened.value) c.self.invariant.0 c.args.self.now c.self.view_is c.in-Some.entry c.in-Some.is o.vectors.each.items o.vectors.doubt c.self.invariant.1 c.mend.new.self c.mend.ensures.frame.tells c.forget.new.self.each.items c.forget.new.self.doubt
          (rw c.in-Ok-Dropped.field-0-is at c.in-Ok-Dropped.ensures.mended) c.forget.ensures.each c.forget.ensures.doubt,
      c.self.invariant.2,
    )

pub returns-in-Ok-Dropped-clause-mended : goal.returns-in-Ok-Dropped-clause-mended
returns-in-Ok-Dropped-clause-mended g c =
    let o = c.self.inside in
    mended_dropped o.bank.now o.spec.now o.base o.book o.journal o.marks o.doubt (handed g.D.Disk.content g.D.Disk.accounts g.D.Disk.faults o.opened.value) c.self.invariant.0 c.args.self.now c.self.view_is c.in-Some.entry c.in-Some.is

pub returns-in-Ok-Dropped-clause-images : goal.returns-in-Ok-Dropped-clause-images
returns-in-Ok-Dropped-clause-images g c =
    let o = c.self.inside in
    images_settled o.bank.now o.spec.now o.base o.book o.journal o.marks o.doubt (handed g.D.Disk.content g.D.Disk.accounts g.D.Disk.faults o.opened.value) c.self.invariant.0 c.args.self.now c.self.view_is c.mend.new.self o.marks o.book
    (dropped_so o.bank.now o.spec.now o.base o.book o.journal o.marks o.doubt (handed g.D.Disk.content g.D.Disk.accounts g.D.Disk.faults o.opened.value) c.self.invariant.0 c.args.self.now c.self.view_is c.in-Some.entry c.in-Some.is o.book c.mend.new.self refl refl refl
    c.in-Ok-Dropped.ensures.ready (rw c.in-Ok-Dropped.field-0-is at c.in-Ok-Dropped.ensures.length) c.mend.ensures.limit c.mend.ensures.versions.1 c.mend.ensures.frame.grows c.mend.ensures.frame.tells (rw c.in-Ok-Dropped.field-0-is at c.in-Ok-Dropped.ensures.mended) c.mend.ensures.moments) c.mend.ensures.frame.tells

pub invariant_of-self-in-Err-mend : goal.invariant_of-self-in-Err-mend
invariant_of-self-in-Err-mend g c =
    let o = c.self.inside in
    let e = c.in-Some.entry in
    let noted : c.push-in-Err-mend.new.self ≡ o.marks ++ Fault e ∷ [] =
    c.push-in-Err-mend.ensures in (
      subst (λ (ms : List Mark). IsKept o.bank.now o.spec.now o.base o.book c.mend.new.self ms o.doubt (handed g.D.Disk.content g.D.Disk.accounts g.D.Disk.faults o.opened.value)) (sym noted)
          (still_so o.bank.now o.spec.now o.base o.book o.journal o.marks o.doubt (handed g.D.Disk.content g.D.Disk.accounts g.D.Disk.faults o.opened.value) c.self.invariant.0 c.args.self.now c.self.view_is c.in-Some.entry c.in-Some.is o.book c.mend.new.self refl refl refl refl c.in-Err-mend.ensures.length_err c.mend.ensures.limit c.mend.ensures.versions.1 c.in-Err-mend.ensures.cause c.mend.ensures.frame.grows c.mend.ensures.frame.tells c.in-Err-mend.ensures.still c.mend.ensures.moments),
      subst (λ (ms : List Mark). AreKeptVectors o.bank.now o.spec.now (history ms) c.mend.new.self o.doubt o.vectors.each.items o.vectors.doubt) (sym noted)
          (unmended_vectors o.bank.now o.spec.now o.base o.book o.journal o.marks o.doubt (handed g.D.Disk.content g.D.Disk.accounts g.D.Disk.faults o.opened.value) c.self.invariant.0 c.args.self.now c.self.view_is c.in-Some.entry c.in-Some.is o.vectors.each.items o.vectors.doubt c.self.invariant.1 c.mend.new.self c.in-Err-mend.ensures.still),
      c.self.invariant.2,
    )

-- by the payloads of the journal

pub returns-in_default-clause-resolved : goal.returns-in_default-clause-resolved
returns-in_default-clause-resolved g c =
    let o = c.self.inside in
    λ ps payload d. absurd (never_doubtful o.bank.now o.spec.now o.base o.book o.journal o.marks o.doubt (handed g.D.Disk.content g.D.Disk.accounts g.D.Disk.faults o.opened.value) c.self.invariant.0 c.args.self.now c.self.view_is c.in_default.is ps payload d)

pub returns-in_default-clause-left : goal.returns-in_default-clause-left
returns-in_default-clause-left g c =
    let o = c.self.inside in
    λ told ps payload d. absurd (never_doubtful o.bank.now o.spec.now o.base o.book o.journal o.marks o.doubt (handed g.D.Disk.content g.D.Disk.accounts g.D.Disk.faults o.opened.value) c.self.invariant.0 c.args.self.now c.self.view_is c.in_default.is ps payload d)

pub returns-in-Err-clause-left : goal.returns-in-Err-clause-left
returns-in-Err-clause-left g c =
    λ told ps payload d. doubtful_left c.args.self.now.journal ps payload d told

pub returns-in-Ok-Kept-clause-resolved : goal.returns-in-Ok-Kept-clause-resolved
returns-in-Ok-Kept-clause-resolved g c =
    let o = c.self.inside in
    let e = c.in-Some.entry in
    let noted : c.push.new.self ≡ o.marks ++ Adopted e c.mend.new.self.size ∷ [] =
    c.push.ensures ∙ ap (λ (n : ℕ). o.marks ++ Adopted e n ∷ []) c.length-size.ensures.length in
    λ ps payload d. resolved_kept o.bank.now o.spec.now o.base o.book o.journal o.marks o.doubt (handed g.D.Disk.content g.D.Disk.accounts g.D.Disk.faults o.opened.value) c.self.invariant.0 c.args.self.now c.self.view_is c.mend.new.self c.mend.ensures.frame.tells ps payload d e c.push.new.self noted
    (rw c.in-Ok-Kept.field-0-is at c.in-Ok-Kept.ensures.length) (rw c.in-Ok-Kept.field-0-is at c.in-Ok-Kept.ensures.mended)

pub returns-in-Ok-Dropped-clause-resolved : goal.returns-in-Ok-Dropped-clause-resolved
returns-in-Ok-Dropped-clause-resolved g c =
    let o = c.self.inside in
    λ ps payload d. resolved_dropped o.bank.now o.spec.now o.base o.book o.journal o.marks o.doubt (handed g.D.Disk.content g.D.Disk.accounts g.D.Disk.faults o.opened.value) c.self.invariant.0 c.args.self.now c.self.view_is c.mend.new.self c.mend.ensures.frame.tells ps payload d
    (rw c.in-Ok-Dropped.field-0-is at c.in-Ok-Dropped.ensures.mended)

pub returns-in-Ok-Kept-clause-left : goal.returns-in-Ok-Kept-clause-left
returns-in-Ok-Kept-clause-left g c =
    let o = c.self.inside in
    mending_left o.bank.now o.spec.now o.base o.book o.journal o.marks o.doubt (handed g.D.Disk.content g.D.Disk.accounts g.D.Disk.faults o.opened.value) c.self.invariant.0 c.args.self.now c.self.view_is (accounts_of c.mend.new.self) c.mend.ensures.moments

pub returns-in-Ok-Kept-clause-unchanged : goal.returns-in-Ok-Kept-clause-unchanged
returns-in-Ok-Kept-clause-unchanged g c =
    let o = c.self.inside in
    λ none. absurd (some_is_none o.bank.now o.spec.now o.base o.book o.journal o.marks o.doubt (handed g.D.Disk.content g.D.Disk.accounts g.D.Disk.faults o.opened.value) c.self.invariant.0 c.args.self.now c.self.view_is c.in-Some.entry c.in-Some.is none)

pub returns-in-Ok-Dropped-clause-left : goal.returns-in-Ok-Dropped-clause-left
returns-in-Ok-Dropped-clause-left g c =
    let o = c.self.inside in
    mending_left o.bank.now o.spec.now o.base o.book o.journal o.marks o.doubt (handed g.D.Disk.content g.D.Disk.accounts g.D.Disk.faults o.opened.value) c.self.invariant.0 c.args.self.now c.self.view_is (accounts_of c.mend.new.self) c.mend.ensures.moments

pub returns-in-Ok-Dropped-clause-unchanged : goal.returns-in-Ok-Dropped-clause-unchanged
returns-in-Ok-Dropped-clause-unchanged g c =
    let o = c.self.inside in
    λ none. absurd (some_is_none o.bank.now o.spec.now o.base o.book o.journal o.marks o.doubt (handed g.D.Disk.content g.D.Disk.accounts g.D.Disk.faults o.opened.value) c.self.invariant.0 c.args.self.now c.self.view_is c.in-Some.entry c.in-Some.is none)

pub returns-in-Err-mend-clause-left : goal.returns-in-Err-mend-clause-left
returns-in-Err-mend-clause-left g c =
    let o = c.self.inside in
    mending_left o.bank.now o.spec.now o.base o.book o.journal o.marks o.doubt (handed g.D.Disk.content g.D.Disk.accounts g.D.Disk.faults o.opened.value) c.self.invariant.0 c.args.self.now c.self.view_is (accounts_of c.mend.new.self) c.mend.ensures.moments

pub returns-in-Err-mend-clause-unchanged : goal.returns-in-Err-mend-clause-unchanged
returns-in-Err-mend-clause-unchanged g c =
    let o = c.self.inside in
    λ none. absurd (some_is_none o.bank.now o.spec.now o.base o.book o.journal o.marks o.doubt (handed g.D.Disk.content g.D.Disk.accounts g.D.Disk.faults o.opened.value) c.self.invariant.0 c.args.self.now c.self.view_is c.in-Some.entry c.in-Some.is none)

pub returns-in-Err-mend-clause-still : goal.returns-in-Err-mend-clause-still
returns-in-Err-mend-clause-still g c =
    let o = c.self.inside in
    λ ps payload d. still_doubtful o.bank.now o.spec.now o.base o.book o.journal o.marks o.doubt (handed g.D.Disk.content g.D.Disk.accounts g.D.Disk.faults o.opened.value) c.self.invariant.0 c.args.self.now c.self.view_is c.mend.new.self c.mend.ensures.frame.tells ps payload d c.in-Err-mend.ensures.still

-- what the disk allows
pub mend-requires : goal.mend-requires
mend-requires g c =
    let o = c.self.inside in
    let u = unsure o.bank.now o.spec.now o.base o.book o.journal o.marks o.doubt (handed g.D.Disk.content g.D.Disk.accounts g.D.Disk.faults o.opened.value) c.self.invariant.0 c.args.self.now c.self.view_is c.in-Some.entry c.in-Some.is in
    (map payload_of u.records, payload_of u.last, u.doubtful, λ told. mending o.bank.now o.spec.now g.D.Disk.may_become c.self.invariant.2 o.journal o.marks c.in-Some.entry o.book.room u)
