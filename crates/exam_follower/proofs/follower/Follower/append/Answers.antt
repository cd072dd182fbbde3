use Rattle.std.proofs.Common.{rules, ◌≡◌, ◌∙◌, ◌∷◌, ◌++◌, [], List, length, Option, Some, None, Err, IsTrue, sym, ap, subst}
use Rattle.exam_edge.specs.Images.{AtEachMoment}
use Rattle.history_model.specs.Judging.{Record}
use Rattle.exam_records.specs.Reading.{record_of}
use Rattle.answer_journal.specs.Journal.{accounts_of, tells_of}
use Rattle.exam_office.specs.declared.appending.Taken.{Taken}
use Rattle.exam_office.specs.Appending.{IsNotAppended as IsNotTaken}
use Rattle.exam_office.specs.Running.{Running}
use Rattle.record_links.specs.Messages.{offer_of}
use Rattle.record_links.specs.Replicas.{StopLeaves}
use Rattle.exam_follower.specs.declared.fault.DeliverFault.TheVariants.{BadRecord, Refused, Full, Disk}
use Rattle.exam_follower.specs.Delivering.{HasRecords, IsNotAppended}
use Rattle.exam_follower.specs.Followers.{FollowerState, held_of, records_of, may_follow, IsSameFollower, IsFollower}
use Rattle.exam_follower.specs.Later.{same_itself}
use Rattle.exam_follower.proofs.Steps.{push_room, sure_none}
use Rattle.exam_follower.proofs.Appends.{stops_unwritten, not_record, not_refused, not_full, on_appended, follows_appended, follower_appended, records_appended, later_appended, stops_appended, left_in_doubt, follower_doubtful, not_disk, later_doubtful, stops_doubtful}
use Rattle.exam_follower.proofs.follower.Follower.append.Goals.{in-Some-1, in-None-2, in-Some-2, in-None-3, in-Some-3, in-None-4, in-Some-4, in-None-5}
use Rattle.exam_follower.proofs.follower.Follower.append.Goals as goal

-- the payload is no record
pub returns-in-Err-Memory-clause-stops : goal.returns-in-Err-Memory-clause-stops
returns-in-Err-Memory-clause-stops g c =
    let o = c.self.inside in
    let f : FollowerState g.row.D.Denot = record { office = o.office; taken = o.taken; doubt = o.doubt } in
    let none : o.doubt ≡ None = subst (λ (x : FollowerState g.row.D.Denot). x.doubt ≡ None) (sym c.self.view_is) c.requires.sure in
    let p = c.args.payload.now in
    subst (λ (x : FollowerState g.row.D.Denot). IsTrue (tells_of x.office.journal) → AtEachMoment (accounts_of x.office.journal) (accounts_of x.office.journal) (HasRecords (StopLeaves (may_follow x) (held_of x) (offer_of (length (records_of x)) p)))) c.self.view_is
    (stops_unwritten f c.self.invariant none p c.holds.ensures.images)

pub returns-in-Err-clause-fault : goal.returns-in-Err-clause-fault
returns-in-Err-clause-fault g c =
    let o = c.self.inside in
    let f : FollowerState g.row.D.Denot = record { office = o.office; taken = o.taken; doubt = o.doubt } in
    let none : o.doubt ≡ None = subst (λ (x : FollowerState g.row.D.Denot). x.doubt ≡ None) (sym c.self.view_is) c.requires.sure in
    let p = c.args.payload.now in
    let exact = c.in-Err.ensures.exact in
    let e : record_of p ≡ Err c.in-Err.fault = search rules in
    subst (λ (x : FollowerState g.row.D.Denot). IsNotAppended x x p (BadRecord c.in-Err.fault)) c.self.view_is (not_record f c.self.invariant none p c.in-Err.fault e)

pub returns-in-Err-clause-stops : goal.returns-in-Err-clause-stops
returns-in-Err-clause-stops g c =
    let o = c.self.inside in
    let f : FollowerState g.row.D.Denot = record { office = o.office; taken = o.taken; doubt = o.doubt } in
    let none : o.doubt ≡ None = subst (λ (x : FollowerState g.row.D.Denot). x.doubt ≡ None) (sym c.self.view_is) c.requires.sure in
    let p = c.args.payload.now in
    subst (λ (x : FollowerState g.row.D.Denot). IsTrue (tells_of x.office.journal) → AtEachMoment (accounts_of x.office.journal) (accounts_of x.office.journal) (HasRecords (StopLeaves (may_follow x) (held_of x) (offer_of (length (records_of x)) p)))) c.self.view_is
    (stops_unwritten f c.self.invariant none p c.holds.ensures.images)

pub returns-in-Err-clause-later : goal.returns-in-Err-clause-later
returns-in-Err-clause-later g c = same_itself c.args.self.now

-- it is appended
pub push-requires : goal.push-requires
push-requires g c =
    let o = c.self.inside in
    let f : FollowerState g.row.D.Denot = record { office = o.office; taken = o.taken; doubt = o.doubt } in
    let none : o.doubt ≡ None = subst (λ (x : FollowerState g.row.D.Denot). x.doubt ≡ None) (sym c.self.view_is) c.requires.sure in
    let p = c.args.payload.now in
    let r : Record = c.in-Ok.rec in
    let spells = c.in-Ok.ensures.found.0 in
    let spelling = sym c.in-Ok.ensures.found.1 in
    let later = c.append_record.new.self in
    let same = c.append_record.ensures.same in
    let frame = c.append_record.ensures.frame in
    let w = c.in-Ok-append_record.ensures.appended in
    push_room f c.self.invariant later.marks r (on_appended f c.self.invariant none r spells p spelling later same frame w) c.records.result c.records.ensures c.records.type_inv

pub invariant_of-self : goal.invariant_of-self
invariant_of-self g c =
    let o = c.self.inside in
    let f : FollowerState g.row.D.Denot = record { office = o.office; taken = o.taken; doubt = o.doubt } in
    let none : o.doubt ≡ None = subst (λ (x : FollowerState g.row.D.Denot). x.doubt ≡ None) (sym c.self.view_is) c.requires.sure in
    let p = c.args.payload.now in
    let r : Record = c.in-Ok.rec in
    let spells = c.in-Ok.ensures.found.0 in
    let spelling = sym c.in-Ok.ensures.found.1 in
    let later = c.append_record.new.self in
    let same = c.append_record.ensures.same in
    let frame = c.append_record.ensures.frame in
    let w = c.in-Ok-append_record.ensures.appended in
    subst (λ (T : List Record). IsFollower (record { office = later; taken = T; doubt = o.doubt })) (sym c.push.ensures)
    (subst (λ (d : Option Record). IsFollower (record { office = later; taken = o.taken ++ r ∷ []; doubt = d })) (sym none)
    (follower_appended f c.self.invariant none r spells p spelling later same frame w c.in-Ok-append_record.ensures.payloads))

pub invariant_of-self-in-Ok-append_record-2 : goal.invariant_of-self-in-Ok-append_record-2
invariant_of-self-in-Ok-append_record-2 g c =
    let o = c.self.inside in
    let f : FollowerState g.row.D.Denot = record { office = o.office; taken = o.taken; doubt = o.doubt } in
    let none : o.doubt ≡ None = subst (λ (x : FollowerState g.row.D.Denot). x.doubt ≡ None) (sym c.self.view_is) c.requires.sure in
    let p = c.args.payload.now in
    let r : Record = c.in-Ok.rec in
    let spells = c.in-Ok.ensures.found.0 in
    let spelling = sym c.in-Ok.ensures.found.1 in
    let later = c.append_record.new.self in
    let same = c.append_record.ensures.same in
    let frame = c.append_record.ensures.frame in
    let w = c.in-Ok-append_record.ensures.appended in
    subst (λ (T : List Record). IsFollower (record { office = later; taken = T; doubt = o.doubt })) (sym c.push.ensures)
    (subst (λ (d : Option Record). IsFollower (record { office = later; taken = o.taken ++ r ∷ []; doubt = d })) (sym none)
    (follower_appended f c.self.invariant none r spells p spelling later same frame w c.in-Ok-append_record.ensures.payloads))

pub returns-in-Ok-append_record-clause-follows : goal.returns-in-Ok-append_record-clause-follows
returns-in-Ok-append_record-clause-follows g c =
    let o = c.self.inside in
    let f : FollowerState g.row.D.Denot = record { office = o.office; taken = o.taken; doubt = o.doubt } in
    let none : o.doubt ≡ None = subst (λ (x : FollowerState g.row.D.Denot). x.doubt ≡ None) (sym c.self.view_is) c.requires.sure in
    let p = c.args.payload.now in
    let r : Record = c.in-Ok.rec in
    let spells = c.in-Ok.ensures.found.0 in
    let spelling = sym c.in-Ok.ensures.found.1 in
    let later = c.append_record.new.self in
    let same = c.append_record.ensures.same in
    let frame = c.append_record.ensures.frame in
    let w = c.in-Ok-append_record.ensures.appended in
    subst (λ (x : FollowerState g.row.D.Denot). may_follow x (records_of x) p) c.self.view_is (follows_appended f c.self.invariant none r spells p spelling later same frame w)

pub returns-in-Ok-append_record-clause-appended : goal.returns-in-Ok-append_record-clause-appended
returns-in-Ok-append_record-clause-appended g c =
    let o = c.self.inside in
    let f : FollowerState g.row.D.Denot = record { office = o.office; taken = o.taken; doubt = o.doubt } in
    let none : o.doubt ≡ None = subst (λ (x : FollowerState g.row.D.Denot). x.doubt ≡ None) (sym c.self.view_is) c.requires.sure in
    let p = c.args.payload.now in
    let r : Record = c.in-Ok.rec in
    let spells = c.in-Ok.ensures.found.0 in
    let spelling = sym c.in-Ok.ensures.found.1 in
    let later = c.append_record.new.self in
    let same = c.append_record.ensures.same in
    let frame = c.append_record.ensures.frame in
    let w = c.in-Ok-append_record.ensures.appended in
    let e : c.match-rec.self ≡ record { office = later; taken = c.push.new.self; doubt = o.doubt } = elim c.match-rec.branch [ in-Some-1 w ↦ w.self-is | in-None-2 w ↦ w.self-is ] in
    ap (λ (y : FollowerState g.row.D.Denot). records_of y) e
    ∙ (ap (λ (T : List Record). records_of (record { office = later; taken = T; doubt = o.doubt })) c.push.ensures
    ∙ (records_appended f c.self.invariant none r spells p spelling later same frame w ∙ ap (λ (x : FollowerState g.row.D.Denot). records_of x ++ p ∷ []) c.self.view_is))

pub returns-in-Ok-append_record-clause-stops : goal.returns-in-Ok-append_record-clause-stops
returns-in-Ok-append_record-clause-stops g c =
    let o = c.self.inside in
    let f : FollowerState g.row.D.Denot = record { office = o.office; taken = o.taken; doubt = o.doubt } in
    let none : o.doubt ≡ None = subst (λ (x : FollowerState g.row.D.Denot). x.doubt ≡ None) (sym c.self.view_is) c.requires.sure in
    let p = c.args.payload.now in
    let r : Record = c.in-Ok.rec in
    let spells = c.in-Ok.ensures.found.0 in
    let spelling = sym c.in-Ok.ensures.found.1 in
    let later = c.append_record.new.self in
    let same = c.append_record.ensures.same in
    let frame = c.append_record.ensures.frame in
    let w = c.in-Ok-append_record.ensures.appended in
    let e : c.match-rec.self ≡ record { office = later; taken = c.push.new.self; doubt = o.doubt } = elim c.match-rec.branch [ in-Some-1 w ↦ w.self-is | in-None-2 w ↦ w.self-is ] in
    subst (λ (y : FollowerState g.row.D.Denot). IsTrue (tells_of c.args.self.now.office.journal) → AtEachMoment (accounts_of c.args.self.now.office.journal) (accounts_of y.office.journal) (HasRecords (StopLeaves (may_follow c.args.self.now) (held_of c.args.self.now) (offer_of (length (records_of c.args.self.now)) p)))) (sym e)
    (subst (λ (x : FollowerState g.row.D.Denot). IsTrue (tells_of x.office.journal) → AtEachMoment (accounts_of x.office.journal) (accounts_of later.journal) (HasRecords (StopLeaves (may_follow x) (held_of x) (offer_of (length (records_of x)) p)))) c.self.view_is
    (stops_appended f c.self.invariant none r spells p spelling later same frame w c.append_record.ensures.left))

pub returns-in-Ok-append_record-clause-later : goal.returns-in-Ok-append_record-clause-later
returns-in-Ok-append_record-clause-later g c =
    let o = c.self.inside in
    let f : FollowerState g.row.D.Denot = record { office = o.office; taken = o.taken; doubt = o.doubt } in
    let none : o.doubt ≡ None = subst (λ (x : FollowerState g.row.D.Denot). x.doubt ≡ None) (sym c.self.view_is) c.requires.sure in
    let p = c.args.payload.now in
    let r : Record = c.in-Ok.rec in
    let spells = c.in-Ok.ensures.found.0 in
    let spelling = sym c.in-Ok.ensures.found.1 in
    let later = c.append_record.new.self in
    let same = c.append_record.ensures.same in
    let frame = c.append_record.ensures.frame in
    let w = c.in-Ok-append_record.ensures.appended in
    let e : c.match-rec.self ≡ record { office = later; taken = c.push.new.self; doubt = o.doubt } = elim c.match-rec.branch [ in-Some-1 w ↦ w.self-is | in-None-2 w ↦ w.self-is ] in
    let l = later_appended f c.self.invariant none r spells p spelling later same frame w in
    let all : IsSameFollower f (record { office = later; taken = c.push.new.self; doubt = o.doubt }) = record { same = l.same; found_same = l.found_same; opened_same = l.opened_same; frame = l.frame } in
    subst (λ (y : FollowerState g.row.D.Denot). IsSameFollower c.args.self.now y) (sym e) (subst (λ (x : FollowerState g.row.D.Denot). IsSameFollower x (record { office = later; taken = c.push.new.self; doubt = o.doubt })) c.self.view_is all)

-- it is refused
pub returns-in-Err-Illegal-clause-fault : goal.returns-in-Err-Illegal-clause-fault
returns-in-Err-Illegal-clause-fault g c =
    let o = c.self.inside in
    let f : FollowerState g.row.D.Denot = record { office = o.office; taken = o.taken; doubt = o.doubt } in
    let none : o.doubt ≡ None = subst (λ (x : FollowerState g.row.D.Denot). x.doubt ≡ None) (sym c.self.view_is) c.requires.sure in
    let p = c.args.payload.now in
    let r : Record = c.in-Ok.rec in
    let spells = c.in-Ok.ensures.found.0 in
    let spelling = sym c.in-Ok.ensures.found.1 in
    let later = c.append_record.new.self in
    let same = c.append_record.ensures.same in
    let frame = c.append_record.ensures.frame in
    let e : c.match-rec-2.self ≡ record { office = later; taken = o.taken; doubt = o.doubt } = elim c.match-rec-2.branch [ in-Some-2 w ↦ w.self-is | in-None-3 w ↦ w.self-is ] in
    let office_none = (sure_none f.office (records_of f) f.doubt c.self.invariant.sure none).0 in
    let still : later ≡ o.office = c.in-Err-Illegal.ensures.unchanged (λ is. absurd (cc)) office_none in
    let all : record { office = later; taken = o.taken; doubt = o.doubt } ≡ f = ap (λ (q : Running g.row.D.Denot). record { office = q; taken = o.taken; doubt = o.doubt }) still in
    subst (λ (y : FollowerState g.row.D.Denot). IsNotAppended c.args.self.now y p (Refused c.in-Err-Illegal.reason)) (sym (e ∙ all))
    (subst (λ (x : FollowerState g.row.D.Denot). IsNotAppended x f p (Refused c.in-Err-Illegal.reason)) c.self.view_is (not_refused f c.self.invariant none r spells p spelling later c.in-Err-Illegal.reason (subst (λ (t : Taken). IsNotTaken o.office later r t) c.in-Err-Illegal.field-0-is c.in-Err-Illegal.ensures.fault)))

pub returns-in-Err-Illegal-clause-stops : goal.returns-in-Err-Illegal-clause-stops
returns-in-Err-Illegal-clause-stops g c =
    let o = c.self.inside in
    let f : FollowerState g.row.D.Denot = record { office = o.office; taken = o.taken; doubt = o.doubt } in
    let none : o.doubt ≡ None = subst (λ (x : FollowerState g.row.D.Denot). x.doubt ≡ None) (sym c.self.view_is) c.requires.sure in
    let p = c.args.payload.now in
    let r : Record = c.in-Ok.rec in
    let spells = c.in-Ok.ensures.found.0 in
    let spelling = sym c.in-Ok.ensures.found.1 in
    let later = c.append_record.new.self in
    let same = c.append_record.ensures.same in
    let frame = c.append_record.ensures.frame in
    let e : c.match-rec-2.self ≡ record { office = later; taken = o.taken; doubt = o.doubt } = elim c.match-rec-2.branch [ in-Some-2 w ↦ w.self-is | in-None-3 w ↦ w.self-is ] in
    let office_none = (sure_none f.office (records_of f) f.doubt c.self.invariant.sure none).0 in
    let still : later ≡ o.office = c.in-Err-Illegal.ensures.unchanged (λ is. absurd (cc)) office_none in
    let all : record { office = later; taken = o.taken; doubt = o.doubt } ≡ f = ap (λ (q : Running g.row.D.Denot). record { office = q; taken = o.taken; doubt = o.doubt }) still in
    subst (λ (y : FollowerState g.row.D.Denot). IsTrue (tells_of c.args.self.now.office.journal) → AtEachMoment (accounts_of c.args.self.now.office.journal) (accounts_of y.office.journal) (HasRecords (StopLeaves (may_follow c.args.self.now) (held_of c.args.self.now) (offer_of (length (records_of c.args.self.now)) p)))) (sym (e ∙ all))
    (subst (λ (x : FollowerState g.row.D.Denot). IsTrue (tells_of x.office.journal) → AtEachMoment (accounts_of x.office.journal) (accounts_of f.office.journal) (HasRecords (StopLeaves (may_follow x) (held_of x) (offer_of (length (records_of x)) p)))) c.self.view_is
    (stops_unwritten f c.self.invariant none p c.holds.ensures.images))

pub returns-in-Err-Memory-append_record-clause-stops : goal.returns-in-Err-Memory-append_record-clause-stops
returns-in-Err-Memory-append_record-clause-stops g c =
    let o = c.self.inside in
    let f : FollowerState g.row.D.Denot = record { office = o.office; taken = o.taken; doubt = o.doubt } in
    let none : o.doubt ≡ None = subst (λ (x : FollowerState g.row.D.Denot). x.doubt ≡ None) (sym c.self.view_is) c.requires.sure in
    let p = c.args.payload.now in
    let r : Record = c.in-Ok.rec in
    let spells = c.in-Ok.ensures.found.0 in
    let spelling = sym c.in-Ok.ensures.found.1 in
    let later = c.append_record.new.self in
    let same = c.append_record.ensures.same in
    let frame = c.append_record.ensures.frame in
    let e : c.match-rec-3.self ≡ record { office = later; taken = o.taken; doubt = o.doubt } = elim c.match-rec-3.branch [ in-Some-3 w ↦ w.self-is | in-None-4 w ↦ w.self-is ] in
    let office_none = (sure_none f.office (records_of f) f.doubt c.self.invariant.sure none).0 in
    let still : later ≡ o.office = c.in-Err-Memory-append_record.ensures.unchanged (λ is. absurd (cc)) office_none in
    let all : record { office = later; taken = o.taken; doubt = o.doubt } ≡ f = ap (λ (q : Running g.row.D.Denot). record { office = q; taken = o.taken; doubt = o.doubt }) still in
    subst (λ (y : FollowerState g.row.D.Denot). IsTrue (tells_of c.args.self.now.office.journal) → AtEachMoment (accounts_of c.args.self.now.office.journal) (accounts_of y.office.journal) (HasRecords (StopLeaves (may_follow c.args.self.now) (held_of c.args.self.now) (offer_of (length (records_of c.args.self.now)) p)))) (sym (e ∙ all))
    (subst (λ (x : FollowerState g.row.D.Denot). IsTrue (tells_of x.office.journal) → AtEachMoment (accounts_of x.office.journal) (accounts_of f.office.journal) (HasRecords (StopLeaves (may_follow x) (held_of x) (offer_of (length (records_of x)) p)))) c.self.view_is
    (stops_unwritten f c.self.invariant none p c.holds.ensures.images))

pub returns-in-Err-Full-clause-fault : goal.returns-in-Err-Full-clause-fault
returns-in-Err-Full-clause-fault g c =
    let o = c.self.inside in
    let f : FollowerState g.row.D.Denot = record { office = o.office; taken = o.taken; doubt = o.doubt } in
    let none : o.doubt ≡ None = subst (λ (x : FollowerState g.row.D.Denot). x.doubt ≡ None) (sym c.self.view_is) c.requires.sure in
    let p = c.args.payload.now in
    let r : Record = c.in-Ok.rec in
    let spells = c.in-Ok.ensures.found.0 in
    let spelling = sym c.in-Ok.ensures.found.1 in
    let later = c.append_record.new.self in
    let same = c.append_record.ensures.same in
    let frame = c.append_record.ensures.frame in
    let e : c.match-rec-4.self ≡ record { office = later; taken = o.taken; doubt = o.doubt } = elim c.match-rec-4.branch [ in-Some-4 w ↦ w.self-is | in-None-5 w ↦ w.self-is ] in
    let office_none = (sure_none f.office (records_of f) f.doubt c.self.invariant.sure none).0 in
    let still : later ≡ o.office = c.in-Err-Full.ensures.unchanged (λ is. absurd (cc)) office_none in
    let all : record { office = later; taken = o.taken; doubt = o.doubt } ≡ f = ap (λ (q : Running g.row.D.Denot). record { office = q; taken = o.taken; doubt = o.doubt }) still in
    subst (λ (y : FollowerState g.row.D.Denot). IsNotAppended c.args.self.now y p (Full c.in-Err-Full.size)) (sym (e ∙ all))
    (subst (λ (x : FollowerState g.row.D.Denot). IsNotAppended x f p (Full c.in-Err-Full.size)) c.self.view_is (not_full f c.self.invariant none r spells p spelling later c.in-Err-Full.size (subst (λ (t : Taken). IsNotTaken o.office later r t) c.in-Err-Full.field-0-is c.in-Err-Full.ensures.fault)))

pub returns-in-Err-Full-clause-stops : goal.returns-in-Err-Full-clause-stops
returns-in-Err-Full-clause-stops g c =
    let o = c.self.inside in
    let f : FollowerState g.row.D.Denot = record { office = o.office; taken = o.taken; doubt = o.doubt } in
    let none : o.doubt ≡ None = subst (λ (x : FollowerState g.row.D.Denot). x.doubt ≡ None) (sym c.self.view_is) c.requires.sure in
    let p = c.args.payload.now in
    let r : Record = c.in-Ok.rec in
    let spells = c.in-Ok.ensures.found.0 in
    let spelling = sym c.in-Ok.ensures.found.1 in
    let later = c.append_record.new.self in
    let same = c.append_record.ensures.same in
    let frame = c.append_record.ensures.frame in
    let e : c.match-rec-4.self ≡ record { office = later; taken = o.taken; doubt = o.doubt } = elim c.match-rec-4.branch [ in-Some-4 w ↦ w.self-is | in-None-5 w ↦ w.self-is ] in
    let office_none = (sure_none f.office (records_of f) f.doubt c.self.invariant.sure none).0 in
    let still : later ≡ o.office = c.in-Err-Full.ensures.unchanged (λ is. absurd (cc)) office_none in
    let all : record { office = later; taken = o.taken; doubt = o.doubt } ≡ f = ap (λ (q : Running g.row.D.Denot). record { office = q; taken = o.taken; doubt = o.doubt }) still in
    subst (λ (y : FollowerState g.row.D.Denot). IsTrue (tells_of c.args.self.now.office.journal) → AtEachMoment (accounts_of c.args.self.now.office.journal) (accounts_of y.office.journal) (HasRecords (StopLeaves (may_follow c.args.self.now) (held_of c.args.self.now) (offer_of (length (records_of c.args.self.now)) p)))) (sym (e ∙ all))
    (subst (λ (x : FollowerState g.row.D.Denot). IsTrue (tells_of x.office.journal) → AtEachMoment (accounts_of x.office.journal) (accounts_of f.office.journal) (HasRecords (StopLeaves (may_follow x) (held_of x) (offer_of (length (records_of x)) p)))) c.self.view_is
    (stops_unwritten f c.self.invariant none p c.holds.ensures.images))

-- the disk failed
pub invariant_of-self-in-Err-Disk : goal.invariant_of-self-in-Err-Disk
invariant_of-self-in-Err-Disk g c =
    let o = c.self.inside in
    let f : FollowerState g.row.D.Denot = record { office = o.office; taken = o.taken; doubt = o.doubt } in
    let none : o.doubt ≡ None = subst (λ (x : FollowerState g.row.D.Denot). x.doubt ≡ None) (sym c.self.view_is) c.requires.sure in
    let p = c.args.payload.now in
    let r : Record = c.in-Ok.rec in
    let spells = c.in-Ok.ensures.found.0 in
    let spelling = sym c.in-Ok.ensures.found.1 in
    let later = c.append_record.new.self in
    let same = c.append_record.ensures.same in
    let frame = c.append_record.ensures.frame in
    let w = left_in_doubt f c.self.invariant none r spells p spelling later same frame (subst (λ (t : Taken). IsNotTaken o.office later r t) c.in-Err-Disk.field-0-is c.in-Err-Disk.ensures.fault) in
    let office_none = (sure_none f.office (records_of f) f.doubt c.self.invariant.sure none).0 in
    follower_doubtful f c.self.invariant none r spells p spelling later same frame w (c.in-Err-Disk.ensures.doubtful c.in-Err-Disk.field-0-is office_none)

pub returns-in-Err-Disk-clause-fault : goal.returns-in-Err-Disk-clause-fault
returns-in-Err-Disk-clause-fault g c =
    let o = c.self.inside in
    let f : FollowerState g.row.D.Denot = record { office = o.office; taken = o.taken; doubt = o.doubt } in
    let none : o.doubt ≡ None = subst (λ (x : FollowerState g.row.D.Denot). x.doubt ≡ None) (sym c.self.view_is) c.requires.sure in
    let p = c.args.payload.now in
    let r : Record = c.in-Ok.rec in
    let spells = c.in-Ok.ensures.found.0 in
    let spelling = sym c.in-Ok.ensures.found.1 in
    let later = c.append_record.new.self in
    let same = c.append_record.ensures.same in
    let frame = c.append_record.ensures.frame in
    let w = left_in_doubt f c.self.invariant none r spells p spelling later same frame (subst (λ (t : Taken). IsNotTaken o.office later r t) c.in-Err-Disk.field-0-is c.in-Err-Disk.ensures.fault) in
    subst (λ (x : FollowerState g.row.D.Denot). IsNotAppended x (record { office = later; taken = o.taken; doubt = Some r }) p Disk) c.self.view_is (not_disk f c.self.invariant none r spells p spelling later same frame w)

pub returns-in-Err-Disk-clause-stops : goal.returns-in-Err-Disk-clause-stops
returns-in-Err-Disk-clause-stops g c =
    let o = c.self.inside in
    let f : FollowerState g.row.D.Denot = record { office = o.office; taken = o.taken; doubt = o.doubt } in
    let none : o.doubt ≡ None = subst (λ (x : FollowerState g.row.D.Denot). x.doubt ≡ None) (sym c.self.view_is) c.requires.sure in
    let p = c.args.payload.now in
    let r : Record = c.in-Ok.rec in
    let spells = c.in-Ok.ensures.found.0 in
    let spelling = sym c.in-Ok.ensures.found.1 in
    let later = c.append_record.new.self in
    let same = c.append_record.ensures.same in
    let frame = c.append_record.ensures.frame in
    let w = left_in_doubt f c.self.invariant none r spells p spelling later same frame (subst (λ (t : Taken). IsNotTaken o.office later r t) c.in-Err-Disk.field-0-is c.in-Err-Disk.ensures.fault) in
    subst (λ (x : FollowerState g.row.D.Denot). IsTrue (tells_of x.office.journal) → AtEachMoment (accounts_of x.office.journal) (accounts_of later.journal) (HasRecords (StopLeaves (may_follow x) (held_of x) (offer_of (length (records_of x)) p)))) c.self.view_is
    (stops_doubtful f c.self.invariant none r spells p spelling later same frame w c.append_record.ensures.left)

pub returns-in-Err-Disk-clause-later : goal.returns-in-Err-Disk-clause-later
returns-in-Err-Disk-clause-later g c =
    let o = c.self.inside in
    let f : FollowerState g.row.D.Denot = record { office = o.office; taken = o.taken; doubt = o.doubt } in
    let none : o.doubt ≡ None = subst (λ (x : FollowerState g.row.D.Denot). x.doubt ≡ None) (sym c.self.view_is) c.requires.sure in
    let p = c.args.payload.now in
    let r : Record = c.in-Ok.rec in
    let spells = c.in-Ok.ensures.found.0 in
    let spelling = sym c.in-Ok.ensures.found.1 in
    let later = c.append_record.new.self in
    let same = c.append_record.ensures.same in
    let frame = c.append_record.ensures.frame in
    let w = left_in_doubt f c.self.invariant none r spells p spelling later same frame (subst (λ (t : Taken). IsNotTaken o.office later r t) c.in-Err-Disk.field-0-is c.in-Err-Disk.ensures.fault) in
    subst (λ (x : FollowerState g.row.D.Denot). IsSameFollower x (record { office = later; taken = o.taken; doubt = Some r })) c.self.view_is (later_doubtful f c.self.invariant none r spells p spelling later same frame w)
