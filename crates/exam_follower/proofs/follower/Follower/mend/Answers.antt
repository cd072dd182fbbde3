use Rattle.std.proofs.Common.{◌≡◌, ◌∷◌, ◌++◌, [], ◌<◌, List, length, None, IsTrue, sym, subst, arith}
use Rattle.exam_edge.specs.Images.{AtEachMoment}
use Rattle.exam_edge.specs.Faults.{Rose}
use Rattle.history_model.specs.Judging.{Record}
use Rattle.exam_records.specs.Spelling.{payload_of}
use Rattle.answer_journal.specs.Journal.{accounts_of, tells_of, faults_of}
use Rattle.exam_office.specs.Marks.{history}
use Rattle.record_links.specs.Replicas.{IsMended, as_they_are}
use Rattle.exam_follower.specs.Delivering.{HasRecords}
use Rattle.exam_follower.specs.Followers.{FollowerState, held_of, records_of, IsSameFollower, IsFollower}
use Rattle.exam_follower.proofs.Steps.{stops_none, stops_some, doubtful, follower_kept, mends_kept, later_kept, follower_dropped, mends_dropped, later_dropped, follower_still, held_still, later_still, beside_unmended, doubt_unmended, rose_unmended}
use Rattle.exam_follower.proofs.follower.Follower.mend.Goals as goal

-- nothing is in doubt
pub returns-in_default-clause-mended : goal.returns-in_default-clause-mended
returns-in_default-clause-mended g c = as_they_are

pub returns-in_default-clause-stops : goal.returns-in_default-clause-stops
returns-in_default-clause-stops g c =
    let o = c.self.inside in
    let f : FollowerState g.row.D.Denot = record { office = o.office; taken = o.taken; doubt = o.doubt } in
    subst (λ (x : FollowerState g.row.D.Denot). IsTrue (tells_of x.office.journal) → AtEachMoment (accounts_of x.office.journal) (accounts_of x.office.journal) (HasRecords (IsMended (held_of x)))) c.self.view_is
    (stops_none f c.self.invariant c.in_default.is c.holds.ensures.images)

-- it is not resolved
pub invariant_of-self : goal.invariant_of-self
invariant_of-self g c =
    let o = c.self.inside in
    let f : FollowerState g.row.D.Denot = record { office = o.office; taken = o.taken; doubt = o.doubt } in
    let later = c.settle.new.self in
    follower_still f c.self.invariant c.in-Some.rec c.in-Some.is later c.settle.ensures.same c.settle.ensures.frame
    (beside_unmended o.office later c.in-Err-Disk.field-0 c.in-Err-Disk.ensures.refused) (doubt_unmended o.office later c.in-Err-Disk.field-0 c.in-Err-Disk.ensures.refused)
    (c.in-Err-Disk.ensures.still (records_of f) (payload_of c.in-Some.rec) (doubtful f c.self.invariant c.in-Some.rec c.in-Some.is))

pub returns-in-Err-Disk-clause-held : goal.returns-in-Err-Disk-clause-held
returns-in-Err-Disk-clause-held g c =
    let o = c.self.inside in
    let f : FollowerState g.row.D.Denot = record { office = o.office; taken = o.taken; doubt = o.doubt } in
    let later = c.settle.new.self in
    subst (λ (x : FollowerState g.row.D.Denot). held_of (record { office = later; taken = o.taken; doubt = o.doubt }) ≡ held_of x) c.self.view_is
    (held_still f c.self.invariant c.in-Some.rec c.in-Some.is later c.settle.ensures.same c.settle.ensures.frame
    (beside_unmended o.office later c.in-Err-Disk.field-0 c.in-Err-Disk.ensures.refused) (doubt_unmended o.office later c.in-Err-Disk.field-0 c.in-Err-Disk.ensures.refused)
    (c.in-Err-Disk.ensures.still (records_of f) (payload_of c.in-Some.rec) (doubtful f c.self.invariant c.in-Some.rec c.in-Some.is)))

pub returns-in-Err-Disk-clause-failed : goal.returns-in-Err-Disk-clause-failed
returns-in-Err-Disk-clause-failed g c =
    let o = c.self.inside in
    let f : FollowerState g.row.D.Denot = record { office = o.office; taken = o.taken; doubt = o.doubt } in
    let later = c.settle.new.self in
    λ is.
    subst (λ (x : FollowerState g.row.D.Denot). Rose (faults_of x.office.journal) (faults_of later.journal)) c.self.view_is
    (rose_unmended o.office later c.in-Err-Disk.field-0 c.in-Err-Disk.ensures.refused (λ e. let d = c.in-Err-Disk.field-0-is in absurd (cc (d, e))))

pub returns-in-Err-Disk-clause-stops : goal.returns-in-Err-Disk-clause-stops
returns-in-Err-Disk-clause-stops g c =
    let o = c.self.inside in
    let f : FollowerState g.row.D.Denot = record { office = o.office; taken = o.taken; doubt = o.doubt } in
    let later = c.settle.new.self in
    subst (λ (x : FollowerState g.row.D.Denot). IsTrue (tells_of x.office.journal) → AtEachMoment (accounts_of x.office.journal) (accounts_of later.journal) (HasRecords (IsMended (held_of x)))) c.self.view_is
    (λ told. stops_some f c.self.invariant c.in-Some.rec c.in-Some.is later (c.settle.ensures.left told))

pub returns-in-Err-Disk-clause-later : goal.returns-in-Err-Disk-clause-later
returns-in-Err-Disk-clause-later g c =
    let o = c.self.inside in
    let f : FollowerState g.row.D.Denot = record { office = o.office; taken = o.taken; doubt = o.doubt } in
    let later = c.settle.new.self in
    subst (λ (x : FollowerState g.row.D.Denot). IsSameFollower x (record { office = later; taken = o.taken; doubt = o.doubt })) c.self.view_is
    (later_still f c.self.invariant c.in-Some.rec c.in-Some.is later c.settle.ensures.same c.settle.ensures.frame
    (beside_unmended o.office later c.in-Err-Disk.field-0 c.in-Err-Disk.ensures.refused) (doubt_unmended o.office later c.in-Err-Disk.field-0 c.in-Err-Disk.ensures.refused)
    (c.in-Err-Disk.ensures.still (records_of f) (payload_of c.in-Some.rec) (doubtful f c.self.invariant c.in-Some.rec c.in-Some.is)))

pub invariant_of-self-in-Err : goal.invariant_of-self-in-Err
invariant_of-self-in-Err g c =
    let o = c.self.inside in
    let f : FollowerState g.row.D.Denot = record { office = o.office; taken = o.taken; doubt = o.doubt } in
    let later = c.settle.new.self in
    follower_still f c.self.invariant c.in-Some.rec c.in-Some.is later c.settle.ensures.same c.settle.ensures.frame
    (beside_unmended o.office later c.in-Err.field-0 c.in-Err.ensures.refused) (doubt_unmended o.office later c.in-Err.field-0 c.in-Err.ensures.refused)
    (c.in-Err.ensures.still (records_of f) (payload_of c.in-Some.rec) (doubtful f c.self.invariant c.in-Some.rec c.in-Some.is))

pub returns-in-Err-clause-held : goal.returns-in-Err-clause-held
returns-in-Err-clause-held g c =
    let o = c.self.inside in
    let f : FollowerState g.row.D.Denot = record { office = o.office; taken = o.taken; doubt = o.doubt } in
    let later = c.settle.new.self in
    subst (λ (x : FollowerState g.row.D.Denot). held_of (record { office = later; taken = o.taken; doubt = o.doubt }) ≡ held_of x) c.self.view_is
    (held_still f c.self.invariant c.in-Some.rec c.in-Some.is later c.settle.ensures.same c.settle.ensures.frame
    (beside_unmended o.office later c.in-Err.field-0 c.in-Err.ensures.refused) (doubt_unmended o.office later c.in-Err.field-0 c.in-Err.ensures.refused)
    (c.in-Err.ensures.still (records_of f) (payload_of c.in-Some.rec) (doubtful f c.self.invariant c.in-Some.rec c.in-Some.is)))

pub returns-in-Err-clause-stops : goal.returns-in-Err-clause-stops
returns-in-Err-clause-stops g c =
    let o = c.self.inside in
    let f : FollowerState g.row.D.Denot = record { office = o.office; taken = o.taken; doubt = o.doubt } in
    let later = c.settle.new.self in
    subst (λ (x : FollowerState g.row.D.Denot). IsTrue (tells_of x.office.journal) → AtEachMoment (accounts_of x.office.journal) (accounts_of later.journal) (HasRecords (IsMended (held_of x)))) c.self.view_is
    (λ told. stops_some f c.self.invariant c.in-Some.rec c.in-Some.is later (c.settle.ensures.left told))

pub returns-in-Err-clause-later : goal.returns-in-Err-clause-later
returns-in-Err-clause-later g c =
    let o = c.self.inside in
    let f : FollowerState g.row.D.Denot = record { office = o.office; taken = o.taken; doubt = o.doubt } in
    let later = c.settle.new.self in
    subst (λ (x : FollowerState g.row.D.Denot). IsSameFollower x (record { office = later; taken = o.taken; doubt = o.doubt })) c.self.view_is
    (later_still f c.self.invariant c.in-Some.rec c.in-Some.is later c.settle.ensures.same c.settle.ensures.frame
    (beside_unmended o.office later c.in-Err.field-0 c.in-Err.ensures.refused) (doubt_unmended o.office later c.in-Err.field-0 c.in-Err.ensures.refused)
    (c.in-Err.ensures.still (records_of f) (payload_of c.in-Some.rec) (doubtful f c.self.invariant c.in-Some.rec c.in-Some.is)))

-- it is dropped
pub invariant_of-self-then-records-before : goal.invariant_of-self-then-records-before
invariant_of-self-then-records-before g c =
    let o = c.self.inside in
    let f : FollowerState g.row.D.Denot = record { office = o.office; taken = o.taken; doubt = o.doubt } in
    let later = c.settle.new.self in
    let a = c.records-before.ensures in
    let b = c.records.ensures in
    let k = c.if-records-before.true in
    let no_more : length (history o.office.marks) < length (history later.marks) → ⊥ = λ lt. omega (arith, a, b, k, lt) in
    follower_dropped f c.self.invariant c.in-Some.rec c.in-Some.is later c.settle.ensures.same c.settle.ensures.frame c.in-Ok.ensures.sure c.in-Ok.ensures.mended
    (c.in-Ok.ensures.resolved (records_of f) (payload_of c.in-Some.rec) (doubtful f c.self.invariant c.in-Some.rec c.in-Some.is)) no_more

pub returns-then-records-before-clause-mended : goal.returns-then-records-before-clause-mended
returns-then-records-before-clause-mended g c =
    let o = c.self.inside in
    let f : FollowerState g.row.D.Denot = record { office = o.office; taken = o.taken; doubt = o.doubt } in
    let later = c.settle.new.self in
    let a = c.records-before.ensures in
    let b = c.records.ensures in
    let k = c.if-records-before.true in
    let no_more : length (history o.office.marks) < length (history later.marks) → ⊥ = λ lt. omega (arith, a, b, k, lt) in
    subst (λ (x : FollowerState g.row.D.Denot). IsMended (held_of x) (records_of (record { office = later; taken = o.taken; doubt = None }))) c.self.view_is
    (mends_dropped f c.self.invariant c.in-Some.rec c.in-Some.is later c.settle.ensures.same c.settle.ensures.frame c.in-Ok.ensures.sure c.in-Ok.ensures.mended
    (c.in-Ok.ensures.resolved (records_of f) (payload_of c.in-Some.rec) (doubtful f c.self.invariant c.in-Some.rec c.in-Some.is)) no_more)

pub returns-then-records-before-clause-stops : goal.returns-then-records-before-clause-stops
returns-then-records-before-clause-stops g c =
    let o = c.self.inside in
    let f : FollowerState g.row.D.Denot = record { office = o.office; taken = o.taken; doubt = o.doubt } in
    let later = c.settle.new.self in
    subst (λ (x : FollowerState g.row.D.Denot). IsTrue (tells_of x.office.journal) → AtEachMoment (accounts_of x.office.journal) (accounts_of later.journal) (HasRecords (IsMended (held_of x)))) c.self.view_is
    (λ told. stops_some f c.self.invariant c.in-Some.rec c.in-Some.is later (c.settle.ensures.left told))

pub returns-then-records-before-clause-later : goal.returns-then-records-before-clause-later
returns-then-records-before-clause-later g c =
    let o = c.self.inside in
    let f : FollowerState g.row.D.Denot = record { office = o.office; taken = o.taken; doubt = o.doubt } in
    let later = c.settle.new.self in
    let a = c.records-before.ensures in
    let b = c.records.ensures in
    let k = c.if-records-before.true in
    let no_more : length (history o.office.marks) < length (history later.marks) → ⊥ = λ lt. omega (arith, a, b, k, lt) in
    subst (λ (x : FollowerState g.row.D.Denot). IsSameFollower x (record { office = later; taken = o.taken; doubt = None })) c.self.view_is
    (later_dropped f c.self.invariant c.in-Some.rec c.in-Some.is later c.settle.ensures.same c.settle.ensures.frame c.in-Ok.ensures.sure c.in-Ok.ensures.mended
    (c.in-Ok.ensures.resolved (records_of f) (payload_of c.in-Some.rec) (doubtful f c.self.invariant c.in-Some.rec c.in-Some.is)) no_more)

-- it is kept
pub invariant_of-self-2 : goal.invariant_of-self-2
invariant_of-self-2 g c =
    let o = c.self.inside in
    let f : FollowerState g.row.D.Denot = record { office = o.office; taken = o.taken; doubt = o.doubt } in
    let later = c.settle.new.self in
    let a = c.records-before.ensures in
    let b = c.records.ensures in
    let k = c.if-records-before.false in
    let more : length (history o.office.marks) < length (history later.marks) = omega (arith, a, b, k) in
    subst (λ (T : List Record). IsFollower (record { office = later; taken = T; doubt = None })) (sym c.push.ensures) (follower_kept f c.self.invariant c.in-Some.rec c.in-Some.is later c.settle.ensures.same c.settle.ensures.frame c.in-Ok.ensures.sure c.in-Ok.ensures.mended
    (c.in-Ok.ensures.resolved (records_of f) (payload_of c.in-Some.rec) (doubtful f c.self.invariant c.in-Some.rec c.in-Some.is)) more)

pub returns-clause-mended : goal.returns-clause-mended
returns-clause-mended g c =
    let o = c.self.inside in
    let f : FollowerState g.row.D.Denot = record { office = o.office; taken = o.taken; doubt = o.doubt } in
    let later = c.settle.new.self in
    let a = c.records-before.ensures in
    let b = c.records.ensures in
    let k = c.if-records-before.false in
    let more : length (history o.office.marks) < length (history later.marks) = omega (arith, a, b, k) in
    subst (λ (T : List Record). IsMended (held_of c.args.self.now) (records_of (record { office = later; taken = T; doubt = None }))) (sym c.push.ensures)
    (subst (λ (x : FollowerState g.row.D.Denot). IsMended (held_of x) (records_of (record { office = later; taken = o.taken ++ c.in-Some.rec ∷ []; doubt = None }))) c.self.view_is
    (mends_kept f c.self.invariant c.in-Some.rec c.in-Some.is later c.settle.ensures.same c.settle.ensures.frame c.in-Ok.ensures.sure c.in-Ok.ensures.mended
    (c.in-Ok.ensures.resolved (records_of f) (payload_of c.in-Some.rec) (doubtful f c.self.invariant c.in-Some.rec c.in-Some.is)) more))

pub returns-clause-stops : goal.returns-clause-stops
returns-clause-stops g c =
    let o = c.self.inside in
    let f : FollowerState g.row.D.Denot = record { office = o.office; taken = o.taken; doubt = o.doubt } in
    let later = c.settle.new.self in
    subst (λ (x : FollowerState g.row.D.Denot). IsTrue (tells_of x.office.journal) → AtEachMoment (accounts_of x.office.journal) (accounts_of later.journal) (HasRecords (IsMended (held_of x)))) c.self.view_is
    (λ told. stops_some f c.self.invariant c.in-Some.rec c.in-Some.is later (c.settle.ensures.left told))

pub returns-clause-later : goal.returns-clause-later
returns-clause-later g c =
    let o = c.self.inside in
    let f : FollowerState g.row.D.Denot = record { office = o.office; taken = o.taken; doubt = o.doubt } in
    let later = c.settle.new.self in
    let a = c.records-before.ensures in
    let b = c.records.ensures in
    let k = c.if-records-before.false in
    let more : length (history o.office.marks) < length (history later.marks) = omega (arith, a, b, k) in
    subst (λ (T : List Record). IsSameFollower c.args.self.now (record { office = later; taken = T; doubt = None })) (sym c.push.ensures)
    (subst (λ (x : FollowerState g.row.D.Denot). IsSameFollower x (record { office = later; taken = o.taken ++ c.in-Some.rec ∷ []; doubt = None })) c.self.view_is
    (later_kept f c.self.invariant c.in-Some.rec c.in-Some.is later c.settle.ensures.same c.settle.ensures.frame c.in-Ok.ensures.sure c.in-Ok.ensures.mended
    (c.in-Ok.ensures.resolved (records_of f) (payload_of c.in-Some.rec) (doubtful f c.self.invariant c.in-Some.rec c.in-Some.is)) more))
