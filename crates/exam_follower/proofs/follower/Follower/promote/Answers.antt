use Rattle.std.proofs.Common.{subst}
use Rattle.exam_office.specs.Marks.{history}
use Rattle.exam_follower.specs.Followers.{FollowerState, records_of, may_follow, lasting_rule}
use Rattle.exam_follower.specs.Takeover.{IsKeptByTakeover, IsKeptOverOpenings}
use Rattle.exam_follower.proofs.Takeover.{spelled_all, keeps_answered}
use Rattle.exam_follower.proofs.follower.Follower.promote.Goals as goal

pub returns-clause-answered : goal.returns-clause-answered
returns-clause-answered g c = λ told.
    let o = c.self.inside in
    let f : FollowerState g.row.D.Denot = record { office = o.office; taken = o.taken; doubt = o.doubt } in
    subst (λ (x : FollowerState g.row.D.Denot). IsKeptByTakeover x (history o.office.marks)) c.self.view_is
    (keeps_answered (may_follow f) (records_of f) (history o.office.marks) (spelled_all f c.self.invariant told))

pub returns-clause-ever : goal.returns-clause-ever
returns-clause-ever g c = λ told.
    let o = c.self.inside in
    let f : FollowerState g.row.D.Denot = record { office = o.office; taken = o.taken; doubt = o.doubt } in
    subst (λ (x : FollowerState g.row.D.Denot). IsKeptOverOpenings x (history o.office.marks)) c.self.view_is
    (keeps_answered (lasting_rule f) (records_of f) (history o.office.marks) (spelled_all f c.self.invariant told))
