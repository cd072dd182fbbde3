use Rattle.std.proofs.Common.{◌≡◌, ◌∙◌, ◌++◌, ◌∷◌, [], Option, None, IsTrue, sym, subst}
use Rattle.certificate_model.specs.ProofTrees.{ProofTree}
use Rattle.bank_tables.specs.Tables.{Tables}
use Rattle.form_model.specs.Plan.{Plan}
use Rattle.exam_edge.specs.Images.{AllImages, AtEachMoment, latest}
use Rattle.history_model.specs.declared.refusal.Refusal.TheVariants.{Disk as DiskFailed}
use Rattle.history_model.specs.Judging.{MayFollow, Record}
use Rattle.answer_journal.specs.Journal.{tells_of, accounts_of, payloads_of, IsDoubtful}
use Rattle.answer_journal.specs.Versions.{HoldsOrOneMore}
use Rattle.exam_records.specs.Shape.{IsRecord}
use Rattle.exam_records.specs.Spelling.{payload_of}
use Rattle.exam_office.specs.Appending.{FindsRecord, IsAppended, IsNotAppended}
use Rattle.exam_office.specs.Calls.{IsLeft}
use Rattle.exam_office.specs.declared.appending.Taken.TheVariants.{Disk}
use Rattle.exam_office.specs.Files.{StandsSecond}
use Rattle.exam_office.specs.declared.mark.Mark.TheVariants.{Own}
use Rattle.exam_office.specs.Marks.{history}
use Rattle.exam_office.specs.Writing.{IsUnwritten, with_record}
use Rattle.exam_office.proofs.AppendingLaws.{disk_by, unmended_some, unwritten_same, not_mended, refused_so, finds, appended_so, not_written, left_judged, left_written, payloads_then, doubtful_then}
use Rattle.exam_office.proofs.Called.{left_mending, left_writing}
use Rattle.exam_office.proofs.Calling.{mending_left}
use Rattle.exam_office.proofs.office.Office.append_record.Goals as goal

pub returns-in-Err-clause-fault : goal.returns-in-Err-clause-fault
returns-in-Err-clause-fault g c =
    let old = c.args.self.now in
    let mid = c.settle.new.self in
    let rec : Record = c.args.rec.now in
    subst (IsNotAppended old mid rec) (sym c.fault_of.ensures) (not_mended old mid rec c.in-Err.refusal c.in-Err.ensures.refused)

pub returns-in-Err-clause-doubtful : goal.returns-in-Err-clause-doubtful
returns-in-Err-clause-doubtful g c =
    let old = c.args.self.now in
    let mid = c.settle.new.self in
    let rec : Record = c.args.rec.now in
    λ is none. absurd (unmended_some old mid c.in-Err.refusal c.in-Err.ensures.refused none)

pub returns-in-Err-clause-unchanged : goal.returns-in-Err-clause-unchanged
returns-in-Err-clause-unchanged g c =
    let old = c.args.self.now in
    let mid = c.settle.new.self in
    let rec : Record = c.args.rec.now in
    λ other none. absurd (unmended_some old mid c.in-Err.refusal c.in-Err.ensures.refused none)

pub returns-in-Err-clause-left : goal.returns-in-Err-clause-left
returns-in-Err-clause-left g c =
    let old = c.args.self.now in
    let mid = c.settle.new.self in
    let rec : Record = c.args.rec.now in
    λ none told. absurd (unmended_some old mid c.in-Err.refusal c.in-Err.ensures.refused none)

pub returns-in-Err-clause-moments : goal.returns-in-Err-clause-moments
returns-in-Err-clause-moments g c =
    let old = c.args.self.now in
    let mid = c.settle.new.self in
    let rec : Record = c.args.rec.now in
    λ told. mending_left old.bank old.plan (FindsRecord old.bank old.plan rec) (history old.marks) old.doubt (accounts_of old.journal) (accounts_of mid.journal) (c.settle.ensures.moments told)

pub returns-in-Err-judge-clause-fault : goal.returns-in-Err-judge-clause-fault
returns-in-Err-judge-clause-fault g c =
    let old = c.args.self.now in
    let mid = c.settle.new.self in
    let rec : Record = c.args.rec.now in
    refused_so old mid c.settle.ensures.same c.in-Ok.ensures.sure c.in-Ok.ensures.mended rec c.in-Err-judge.reason c.in-Err-judge.ensures.reason

pub returns-in-Err-judge-clause-moments : goal.returns-in-Err-judge-clause-moments
returns-in-Err-judge-clause-moments g c =
    let old = c.args.self.now in
    let mid = c.settle.new.self in
    let rec : Record = c.args.rec.now in
    λ told. left_mending (FindsRecord old.bank old.plan rec) old mid mid c.settle.ensures.same c.in-Ok.ensures.sure c.in-Ok.ensures.mended (c.settle.ensures.moments told)

pub returns-in-Err-judge-clause-unchanged : goal.returns-in-Err-judge-clause-unchanged
returns-in-Err-judge-clause-unchanged g c =
    let old = c.args.self.now in
    let mid = c.settle.new.self in
    let rec : Record = c.args.rec.now in
    λ other none. c.settle.ensures.unchanged none

pub returns-in-Err-judge-clause-left : goal.returns-in-Err-judge-clause-left
returns-in-Err-judge-clause-left g c =
    let old = c.args.self.now in
    let mid = c.settle.new.self in
    let rec : Record = c.args.rec.now in
    λ none. left_judged old mid (c.settle.ensures.unchanged none) (payload_of rec) (c.holds.ensures.images c.in-Ok.ensures.sure)

pub returns-in-Ok-write-clause-appended : goal.returns-in-Ok-write-clause-appended
returns-in-Ok-write-clause-appended g c =
    let old = c.args.self.now in
    let mid = c.settle.new.self in
    let rec : Record = record { entry = c.rec.inside.entry; tree = c.rec.inside.tree } in
    let new = c.write.new.self in
    let tree_is = c.as_ref.ensures.value in
    let may = subst (λ (r : Record). MayFollow mid.bank mid.plan (history mid.marks) r.entry r.tree) (sym c.rec.view_is) c.in-Ok-judge.ensures.may in
    let written = subst (λ (t : Option ProofTree). new.marks ≡ mid.marks ++ Own rec.entry (with_record mid.marks (record { entry = rec.entry; tree = t })) ∷ []) tree_is c.in-Ok-write.ensures.written in
    let spells = subst (λ (t : Option ProofTree). IsRecord (record { entry = rec.entry; tree = t })) tree_is c.in-Ok-write.ensures.spells in
    subst (λ (r : Record). IsAppended old new r) c.rec.view_is
    (appended_so old mid c.settle.ensures.same c.in-Ok.ensures.sure c.in-Ok.ensures.mended rec may new written c.in-Ok-write.ensures.sure spells)

pub returns-in-Ok-write-clause-payloads : goal.returns-in-Ok-write-clause-payloads
returns-in-Ok-write-clause-payloads g c =
    let old = c.args.self.now in
    let mid = c.settle.new.self in
    let rec : Record = record { entry = c.rec.inside.entry; tree = c.rec.inside.tree } in
    let new = c.write.new.self in
    let tree_is = c.as_ref.ensures.value in
    let may = subst (λ (r : Record). MayFollow mid.bank mid.plan (history mid.marks) r.entry r.tree) (sym c.rec.view_is) c.in-Ok-judge.ensures.may in
    subst (λ (r : Record). old.doubt ≡ None → IsTrue (tells_of old.journal) → payloads_of new.journal ≡ payloads_of old.journal ++ payload_of r ∷ []) c.rec.view_is
    (λ none. payloads_then old mid (c.settle.ensures.unchanged none) (payload_of rec) new
    (subst (λ (t : Option ProofTree). IsTrue (tells_of mid.journal) → payloads_of new.journal ≡ payloads_of mid.journal ++ payload_of (record { entry = rec.entry; tree = t }) ∷ []) tree_is c.in-Ok-write.ensures.payloads))

pub returns-in-Ok-write-clause-moments : goal.returns-in-Ok-write-clause-moments
returns-in-Ok-write-clause-moments g c =
    let old = c.args.self.now in
    let mid = c.settle.new.self in
    let rec : Record = record { entry = c.rec.inside.entry; tree = c.rec.inside.tree } in
    let new = c.write.new.self in
    let tree_is = c.as_ref.ensures.value in
    let may = subst (λ (r : Record). MayFollow mid.bank mid.plan (history mid.marks) r.entry r.tree) (sym c.rec.view_is) c.in-Ok-judge.ensures.may in
    subst (λ (r : Record). IsTrue (tells_of old.journal) → AtEachMoment (accounts_of old.journal) (accounts_of new.journal) (IsLeft old.bank old.plan (FindsRecord old.bank old.plan r) (history old.marks) old.doubt)) c.rec.view_is
    (λ told. left_writing (FindsRecord old.bank old.plan rec) old mid new c.settle.ensures.same c.in-Ok.ensures.sure c.in-Ok.ensures.mended rec.entry (finds old mid c.settle.ensures.same c.in-Ok.ensures.sure c.in-Ok.ensures.mended rec may) (c.settle.ensures.moments told) (c.write.ensures.moments (c.settle.ensures.frame.tells ∙ told)))

pub returns-in-Ok-write-clause-left : goal.returns-in-Ok-write-clause-left
returns-in-Ok-write-clause-left g c =
    let old = c.args.self.now in
    let mid = c.settle.new.self in
    let rec : Record = record { entry = c.rec.inside.entry; tree = c.rec.inside.tree } in
    let new = c.write.new.self in
    let tree_is = c.as_ref.ensures.value in
    let may = subst (λ (r : Record). MayFollow mid.bank mid.plan (history mid.marks) r.entry r.tree) (sym c.rec.view_is) c.in-Ok-judge.ensures.may in
    subst (λ (r : Record). old.doubt ≡ None → IsTrue (tells_of old.journal) → AtEachMoment (accounts_of old.journal) (accounts_of new.journal) (HoldsOrOneMore (payloads_of old.journal) (payload_of r))) c.rec.view_is
    (λ none. left_written old mid (c.settle.ensures.unchanged none) (payload_of rec) new
    (subst (λ (t : Option ProofTree). IsTrue (tells_of mid.journal) → AtEachMoment (accounts_of mid.journal) (accounts_of new.journal) (HoldsOrOneMore (payloads_of mid.journal) (payload_of (record { entry = rec.entry; tree = t })))) tree_is c.write.ensures.left))

pub returns-in-Err-write-clause-moments : goal.returns-in-Err-write-clause-moments
returns-in-Err-write-clause-moments g c =
    let old = c.args.self.now in
    let mid = c.settle.new.self in
    let rec : Record = record { entry = c.rec.inside.entry; tree = c.rec.inside.tree } in
    let new = c.write.new.self in
    let tree_is = c.as_ref.ensures.value in
    let may = subst (λ (r : Record). MayFollow mid.bank mid.plan (history mid.marks) r.entry r.tree) (sym c.rec.view_is) c.in-Ok-judge.ensures.may in
    subst (λ (r : Record). IsTrue (tells_of old.journal) → AtEachMoment (accounts_of old.journal) (accounts_of new.journal) (IsLeft old.bank old.plan (FindsRecord old.bank old.plan r) (history old.marks) old.doubt)) c.rec.view_is
    (λ told. left_writing (FindsRecord old.bank old.plan rec) old mid new c.settle.ensures.same c.in-Ok.ensures.sure c.in-Ok.ensures.mended rec.entry (finds old mid c.settle.ensures.same c.in-Ok.ensures.sure c.in-Ok.ensures.mended rec may) (c.settle.ensures.moments told) (c.write.ensures.moments (c.settle.ensures.frame.tells ∙ told)))

pub returns-in-Err-write-clause-left : goal.returns-in-Err-write-clause-left
returns-in-Err-write-clause-left g c =
    let old = c.args.self.now in
    let mid = c.settle.new.self in
    let rec : Record = record { entry = c.rec.inside.entry; tree = c.rec.inside.tree } in
    let new = c.write.new.self in
    let tree_is = c.as_ref.ensures.value in
    let may = subst (λ (r : Record). MayFollow mid.bank mid.plan (history mid.marks) r.entry r.tree) (sym c.rec.view_is) c.in-Ok-judge.ensures.may in
    subst (λ (r : Record). old.doubt ≡ None → IsTrue (tells_of old.journal) → AtEachMoment (accounts_of old.journal) (accounts_of new.journal) (HoldsOrOneMore (payloads_of old.journal) (payload_of r))) c.rec.view_is
    (λ none. left_written old mid (c.settle.ensures.unchanged none) (payload_of rec) new
    (subst (λ (t : Option ProofTree). IsTrue (tells_of mid.journal) → AtEachMoment (accounts_of mid.journal) (accounts_of new.journal) (HoldsOrOneMore (payloads_of mid.journal) (payload_of (record { entry = rec.entry; tree = t })))) tree_is c.write.ensures.left))

pub returns-in-Err-write-clause-fault : goal.returns-in-Err-write-clause-fault
returns-in-Err-write-clause-fault g c =
    let old = c.args.self.now in
    let mid = c.settle.new.self in
    let rec : Record = record { entry = c.rec.inside.entry; tree = c.rec.inside.tree } in
    let new = c.write.new.self in
    let tree_is = c.as_ref.ensures.value in
    let may = subst (λ (r : Record). MayFollow mid.bank mid.plan (history mid.marks) r.entry r.tree) (sym c.rec.view_is) c.in-Ok-judge.ensures.may in
    let refusal = c.in-Err-write.refusal in
    let why = subst (λ (t : Option ProofTree). IsUnwritten mid new (record { entry = rec.entry; tree = t }) refusal) tree_is c.in-Err-write.ensures.refused in
    let spells : refusal ≡ DiskFailed → IsRecord rec = λ is. subst (λ (t : Option ProofTree). IsRecord (record { entry = rec.entry; tree = t })) tree_is (c.in-Err-write.ensures.doubtful is).1 in
    subst (λ (r : Record). IsNotAppended old new r c.fault_of-in-Err-write.result) c.rec.view_is
    (subst (IsNotAppended old new rec) (sym c.fault_of-in-Err-write.ensures)
    (not_written old mid c.settle.ensures.same c.in-Ok.ensures.sure c.in-Ok.ensures.mended rec may new refusal c.settle.ensures.frame.grows spells why))

pub returns-in-Err-write-clause-doubtful : goal.returns-in-Err-write-clause-doubtful
returns-in-Err-write-clause-doubtful g c =
    let old = c.args.self.now in
    let mid = c.settle.new.self in
    let rec : Record = record { entry = c.rec.inside.entry; tree = c.rec.inside.tree } in
    let new = c.write.new.self in
    let tree_is = c.as_ref.ensures.value in
    let may = subst (λ (r : Record). MayFollow mid.bank mid.plan (history mid.marks) r.entry r.tree) (sym c.rec.view_is) c.in-Ok-judge.ensures.may in
    let refusal = c.in-Err-write.refusal in
    let why = subst (λ (t : Option ProofTree). IsUnwritten mid new (record { entry = rec.entry; tree = t }) refusal) tree_is c.in-Err-write.ensures.refused in
    subst (λ (r : Record). c.fault_of-in-Err-write.result ≡ Disk → old.doubt ≡ None → IsDoubtful (payloads_of old.journal) (payload_of r) new.journal) c.rec.view_is
    (λ told none.
    let is = disk_by mid new rec refusal why (sym c.fault_of-in-Err-write.ensures ∙ told) in
    doubtful_then old mid (c.settle.ensures.unchanged none) (payload_of rec) new
    (subst (λ (t : Option ProofTree). IsDoubtful (payloads_of mid.journal) (payload_of (record { entry = rec.entry; tree = t })) new.journal) tree_is (c.in-Err-write.ensures.doubtful is).0))

pub returns-in-Err-write-clause-unchanged : goal.returns-in-Err-write-clause-unchanged
returns-in-Err-write-clause-unchanged g c =
    let old = c.args.self.now in
    let mid = c.settle.new.self in
    let rec : Record = record { entry = c.rec.inside.entry; tree = c.rec.inside.tree } in
    let new = c.write.new.self in
    let tree_is = c.as_ref.ensures.value in
    let may = subst (λ (r : Record). MayFollow mid.bank mid.plan (history mid.marks) r.entry r.tree) (sym c.rec.view_is) c.in-Ok-judge.ensures.may in
    let refusal = c.in-Err-write.refusal in
    let why = subst (λ (t : Option ProofTree). IsUnwritten mid new (record { entry = rec.entry; tree = t }) refusal) tree_is c.in-Err-write.ensures.refused in
    λ other none. unwritten_same mid new rec refusal why (λ is. other (c.fault_of-in-Err-write.ensures ∙ is)) ∙ c.settle.ensures.unchanged none

pub returns-in-Ok-write-clause-images : goal.returns-in-Ok-write-clause-images
returns-in-Ok-write-clause-images g c =
    let old = c.args.self.now in
    let mid = c.settle.new.self in
    let new = c.write.new.self in
    λ told.
    subst (λ (p : Plan). AllImages (StandsSecond old.bank p (history new.marks)) (latest (accounts_of new.journal))) c.settle.ensures.same.plan
    (subst (λ (b : Tables). AllImages (StandsSecond b mid.plan (history new.marks)) (latest (accounts_of new.journal))) c.settle.ensures.same.bank
    (c.in-Ok-write.ensures.images (c.settle.ensures.frame.tells ∙ told)))
