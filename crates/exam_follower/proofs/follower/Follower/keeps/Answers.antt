use Rattle.std.proofs.Common.{IsTrue, subst}
use Rattle.exam_edge.specs.Images.{AllImages, latest}
use Rattle.answer_journal.specs.Journal.{accounts_of, tells_of}
use Rattle.record_links.specs.Replicas.{IsMended}
use Rattle.exam_follower.specs.Delivering.{HasRecords}
use Rattle.exam_office.specs.Marks.{history}
use Rattle.exam_follower.specs.Followers.{FollowerState, held_of, records_of, AreSpelled}
use Rattle.exam_follower.proofs.Steps.{images_held}
use Rattle.exam_follower.proofs.Takeover.{spelled_all}
use Rattle.exam_follower.proofs.follower.Follower.keeps.Goals as goal

pub returns-clause-spelled : goal.returns-clause-spelled
returns-clause-spelled g c =
    let o = c.self.inside in
    let f : FollowerState g.row.D.Denot = record { office = o.office; taken = o.taken; doubt = o.doubt } in
    subst (λ (x : FollowerState g.row.D.Denot). IsTrue (tells_of x.office.journal) → AreSpelled (records_of x) (history x.office.marks)) c.self.view_is
    (spelled_all f c.self.invariant)

pub returns-clause-images : goal.returns-clause-images
returns-clause-images g c =
    let o = c.self.inside in
    let f : FollowerState g.row.D.Denot = record { office = o.office; taken = o.taken; doubt = o.doubt } in
    subst (λ (x : FollowerState g.row.D.Denot). IsTrue (tells_of x.office.journal) → AllImages (HasRecords (IsMended (held_of x))) (latest (accounts_of x.office.journal))) c.self.view_is
    (images_held f c.self.invariant c.holds.ensures.images)
