use Rattle.std.proofs.Common.{◌≡◌, ℕ, List, Option, Some, Result, Ok, Err, IsTrue, IfOk, IfErr, OnOk, sym, subst}
use Rattle.bank_tables.specs.Tables.{Tables}
use Rattle.form_model.specs.Plan.{Plan}
use Rattle.certificate_model.specs.ProofTrees.{ProofTree}
use Rattle.constraint_model.specs.declared.problem.Problem.{Problem as Given}
use Rattle.constraint_model.specs.Views.{problem_of}
use Rattle.exam_edge.specs.Images.{latest, AllImages}
use Rattle.history_model.specs.declared.place.Place.TheVariants.{Pending}
use Rattle.history_model.specs.Judging.{MayFollow, Record}
use Rattle.history_model.specs.Places.{place}
use Rattle.history_model.specs.declared.refusal.Refusal.{Refusal}
use Rattle.answer_journal.specs.Journal.{accounts_of, tells_of}
use Rattle.exam_office.specs.Marks.{history}
use Rattle.exam_office.specs.Writing.{with_record}
use Rattle.history_model.specs.declared.request.Request.TheVariants.{Look}
use Rattle.exam_office.specs.Files.{StandsSecond}
use Rattle.history_model.specs.Refusals.{refusal_of}
use Rattle.exam_office.specs.Calls.{refuse, add, Calls, unmended}
use Rattle.exam_office.specs.Commits.{FindsCommit, MayBeCommitted}
use Rattle.exam_office.proofs.Called.{call_refused, call_written, call_unwritten, left_mending, left_writing}
use Rattle.exam_office.proofs.Calling.{mending_left}
use Rattle.exam_office.proofs.Answered.{finds_there, looked, stands_written}
use Rattle.exam_office.proofs.Committed.{mended_may}
use Rattle.exam_office.proofs.office.Office.commit.Goals as goal

on_any : {A E : Type 0} (r : Result A E) (X : Type 0) → X → OnOk r X
on_any (Ok x) X here = here
on_any (Err e) X here = tt

pub find_commit-requires : goal.find_commit-requires
find_commit-requires g c =
    let old = c.args.self.now in
    let mid = c.settle.new.self in
    let a = c.args.assembled.now in
    let s = (problem_of a.problem).session in
    let H = history mid.marks in
    let same = c.settle.ensures.same in
    let m : MayBeCommitted old.bank old.plan old.base H a = mended_may old.bank old.plan old.base old.marks mid.marks old.doubt a c.in-Ok.ensures.mended c.requires in
    subst (λ (base : List ℕ). MayBeCommitted mid.bank mid.plan base H a) (sym same.base)
    (subst (λ (p : Plan). MayBeCommitted mid.bank p old.base H a) (sym same.plan) (subst (λ (b : Tables). MayBeCommitted b old.plan old.base H a) (sym same.bank) m))

pub returns-in-Err-clause-call : goal.returns-in-Err-clause-call
returns-in-Err-clause-call g c =
    let old = c.args.self.now in
    let mid = c.settle.new.self in
    let a = c.args.assembled.now in
    let s = (problem_of a.problem).session in
    let H = history mid.marks in
    unmended c.in-Err.refusal c.in-Err.ensures.refused

pub returns-in-Err-clause-moments : goal.returns-in-Err-clause-moments
returns-in-Err-clause-moments g c =
    let old = c.args.self.now in
    let mid = c.settle.new.self in
    let a = c.args.assembled.now in
    let s = (problem_of a.problem).session in
    let H = history mid.marks in
    λ told. mending_left old.bank old.plan (FindsCommit old.bank old.plan a) (history old.marks) old.doubt (accounts_of old.journal) (accounts_of mid.journal) (c.settle.ensures.moments told)

pub returns-in-Err-find_commit-clause-call : goal.returns-in-Err-find_commit-clause-call
returns-in-Err-find_commit-clause-call g c =
    let old = c.args.self.now in
    let mid = c.settle.new.self in
    let a = c.args.assembled.now in
    let s = (problem_of a.problem).session in
    let H = history mid.marks in
    call_refused (FindsCommit old.bank old.plan a) old mid mid c.settle.ensures.same c.in-Ok.ensures.sure c.in-Ok.ensures.mended c.in-Err-find_commit.refusal (finds_there old mid c.settle.ensures.same (λ (b : Tables) (plan : Plan). FindsCommit b plan a) H (refuse c.in-Err-find_commit.refusal) c.in-Err-find_commit.ensures.refused)

pub returns-in-Err-find_commit-clause-moments : goal.returns-in-Err-find_commit-clause-moments
returns-in-Err-find_commit-clause-moments g c =
    let old = c.args.self.now in
    let mid = c.settle.new.self in
    let a = c.args.assembled.now in
    let s = (problem_of a.problem).session in
    let H = history mid.marks in
    λ told. left_mending (FindsCommit old.bank old.plan a) old mid mid c.settle.ensures.same c.in-Ok.ensures.sure c.in-Ok.ensures.mended (c.settle.ensures.moments told)

pub write-requires-clause-may : goal.write-requires-clause-may
write-requires-clause-may g c =
    let mid = c.settle.new.self in
    let entry = c.in-Ok-find_commit.entry in
    subst (λ (T : ProofTree). MayFollow mid.bank mid.plan (history mid.marks) entry (Some T)) (sym c.tree.ensures) c.in-Ok-find_commit.ensures.may

pub returns-in-Ok-write-clause-call : goal.returns-in-Ok-write-clause-call
returns-in-Ok-write-clause-call g c =
    let old = c.args.self.now in
    let mid = c.settle.new.self in
    let a = c.args.assembled.now in
    let s = (problem_of a.problem).session in
    let H = history mid.marks in
    let entry = c.in-Ok-find_commit.entry in
    let found = c.in-Ok-find_commit.ensures.found in
    let new = c.write.new.self in
    let rec : Record = record { entry = entry; tree = Some c.tree.result.now } in
    let at : place mid.plan H s ≡ Some (Pending (problem_of a.problem).step) = found.0.pending in
    let stands = stands_written mid.plan mid.marks new.marks entry (with_record mid.marks rec) s (Pending (problem_of a.problem).step) at c.in-Ok-write.ensures.written in
    subst (λ (o : Option Refusal). Calls (FindsCommit old.bank old.plan a) old new o)
    (looked new.bank new.plan (history new.marks) s stands.0 c.look.result (subst (λ (p : Plan). place p (history new.marks) s ≡ Some stands.0) (sym c.write.ensures.same.plan) stands.1)
    (subst (λ (p : Given). IfErr c.look.result (λ (refusal : Refusal). refusal_of new.bank new.plan (history new.marks) (Look p.session) ≡ Some refusal)) c.problem.ensures c.look.ensures.refused))
    (call_written (FindsCommit old.bank old.plan a) old mid new c.settle.ensures.same c.in-Ok.ensures.sure c.in-Ok.ensures.mended entry (with_record mid.marks rec) (finds_there old mid c.settle.ensures.same (λ (b : Tables) (plan : Plan). FindsCommit b plan a) H (add entry) found) c.in-Ok-write.ensures.written c.in-Ok-write.ensures.sure)

pub returns-in-Ok-write-clause-at : goal.returns-in-Ok-write-clause-at
returns-in-Ok-write-clause-at g c =
    let old = c.args.self.now in
    let mid = c.settle.new.self in
    let a = c.args.assembled.now in
    let s = (problem_of a.problem).session in
    let H = history mid.marks in
    let entry = c.in-Ok-find_commit.entry in
    let found = c.in-Ok-find_commit.ensures.found in
    let new = c.write.new.self in
    let rec : Record = record { entry = entry; tree = Some c.tree.result.now } in
    subst (λ (p : Given). IfOk c.look.result (λ at. place new.plan (history new.marks) p.session ≡ Some at)) c.problem.ensures c.look.ensures.at

pub returns-in-Ok-write-clause-images : goal.returns-in-Ok-write-clause-images
returns-in-Ok-write-clause-images g c =
    let old = c.args.self.now in
    let mid = c.settle.new.self in
    let a = c.args.assembled.now in
    let s = (problem_of a.problem).session in
    let H = history mid.marks in
    let entry = c.in-Ok-find_commit.entry in
    let found = c.in-Ok-find_commit.ensures.found in
    let new = c.write.new.self in
    let rec : Record = record { entry = entry; tree = Some c.tree.result.now } in
    on_any c.look.result (IsTrue (tells_of old.journal) → AllImages (StandsSecond old.bank old.plan (history new.marks)) (latest (accounts_of new.journal)))
    (λ told. subst (λ (p : Plan). AllImages (StandsSecond old.bank p (history new.marks)) (latest (accounts_of new.journal))) c.settle.ensures.same.plan
    (subst (λ (b : Tables). AllImages (StandsSecond b mid.plan (history new.marks)) (latest (accounts_of new.journal))) c.settle.ensures.same.bank (c.in-Ok-write.ensures.images (subst (λ (b : Rattle.std.specs.Prelude.Bool). IsTrue b) (sym c.settle.ensures.frame.tells) told))))

pub returns-in-Err-write-clause-call : goal.returns-in-Err-write-clause-call
returns-in-Err-write-clause-call g c =
    let old = c.args.self.now in
    let mid = c.settle.new.self in
    let a = c.args.assembled.now in
    let s = (problem_of a.problem).session in
    let H = history mid.marks in
    let entry = c.in-Ok-find_commit.entry in
    let found = c.in-Ok-find_commit.ensures.found in
    let new = c.write.new.self in
    let rec : Record = record { entry = entry; tree = Some c.tree.result.now } in
    let may : MayFollow mid.bank mid.plan H entry (Some c.tree.result.now) = subst (λ (T : ProofTree). MayFollow mid.bank mid.plan H entry (Some T)) (sym c.tree.ensures) c.in-Ok-find_commit.ensures.may in
    call_unwritten (FindsCommit old.bank old.plan a) old mid new c.settle.ensures.same c.in-Ok.ensures.sure c.in-Ok.ensures.mended rec c.in-Err-write.refusal (finds_there old mid c.settle.ensures.same (λ (b : Tables) (plan : Plan). FindsCommit b plan a) H (add entry) found) c.settle.ensures.frame.grows may c.in-Err-write.ensures.refused

pub returns-in-Ok-write-clause-moments : goal.returns-in-Ok-write-clause-moments
returns-in-Ok-write-clause-moments g c =
    let old = c.args.self.now in
    let mid = c.settle.new.self in
    let a = c.args.assembled.now in
    let s = (problem_of a.problem).session in
    let H = history mid.marks in
    let entry = c.in-Ok-find_commit.entry in
    let found = c.in-Ok-find_commit.ensures.found in
    let new = c.write.new.self in
    let rec : Record = record { entry = entry; tree = Some c.tree.result.now } in
    λ told. left_writing (FindsCommit old.bank old.plan a) old mid new c.settle.ensures.same c.in-Ok.ensures.sure c.in-Ok.ensures.mended entry (finds_there old mid c.settle.ensures.same (λ (b : Tables) (plan : Plan). FindsCommit b plan a) H (add entry) found) (c.settle.ensures.moments told) (c.write.ensures.moments (subst (λ (b : Rattle.std.specs.Prelude.Bool). IsTrue b) (sym c.settle.ensures.frame.tells) told))

pub returns-in-Err-write-clause-moments : goal.returns-in-Err-write-clause-moments
returns-in-Err-write-clause-moments g c =
    let old = c.args.self.now in
    let mid = c.settle.new.self in
    let a = c.args.assembled.now in
    let s = (problem_of a.problem).session in
    let H = history mid.marks in
    let entry = c.in-Ok-find_commit.entry in
    let found = c.in-Ok-find_commit.ensures.found in
    let new = c.write.new.self in
    let rec : Record = record { entry = entry; tree = Some c.tree.result.now } in
    λ told. left_writing (FindsCommit old.bank old.plan a) old mid new c.settle.ensures.same c.in-Ok.ensures.sure c.in-Ok.ensures.mended entry (finds_there old mid c.settle.ensures.same (λ (b : Tables) (plan : Plan). FindsCommit b plan a) H (add entry) found) (c.settle.ensures.moments told) (c.write.ensures.moments (subst (λ (b : Rattle.std.specs.Prelude.Bool). IsTrue b) (sym c.settle.ensures.frame.tells) told))
