use Rattle.std.proofs.Common.{IsTrue, subst}
use Rattle.answer_journal.specs.Journal.{tells_of}
use Rattle.exam_follower.specs.Followers.{FollowerState}
use Rattle.exam_follower.specs.Openings.{TakesInWorld, FailsInWorld, LinksInWorld}
use Rattle.exam_follower.proofs.Openings.{takes_in_world, fails_in_world, links_in_world}
use Rattle.exam_follower.proofs.laws.all_in_one_world.Goals as goal

pub returns-clause-taken : goal.returns-clause-taken
returns-clause-taken g c =
    let o = c.follower.inside in
    let f : FollowerState g.row.D.Denot = record { office = o.office; taken = o.taken; doubt = o.doubt } in
    subst (λ (x : FollowerState g.row.D.Denot). IsTrue (tells_of x.office.journal) → TakesInWorld x) c.follower.view_is (takes_in_world f c.follower.invariant)

pub returns-clause-fault : goal.returns-clause-fault
returns-clause-fault g c =
    let o = c.follower.inside in
    let f : FollowerState g.row.D.Denot = record { office = o.office; taken = o.taken; doubt = o.doubt } in
    subst (λ (x : FollowerState g.row.D.Denot). IsTrue (tells_of x.office.journal) → FailsInWorld x) c.follower.view_is (fails_in_world f c.follower.invariant)

pub returns-clause-links : goal.returns-clause-links
returns-clause-links g c =
    let o = c.follower.inside in
    let f : FollowerState g.row.D.Denot = record { office = o.office; taken = o.taken; doubt = o.doubt } in
    subst (λ (x : FollowerState g.row.D.Denot). IsTrue (tells_of x.office.journal) → LinksInWorld x) c.follower.view_is (links_in_world f c.follower.invariant)
