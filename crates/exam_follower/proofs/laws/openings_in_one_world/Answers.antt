use Rattle.std.proofs.Common.{IsTrue, subst}
use Rattle.answer_journal.specs.Journal.{tells_of}
use Rattle.exam_follower.specs.Followers.{FollowerState}
use Rattle.exam_follower.specs.Openings.{OpensInWorld}
use Rattle.exam_follower.proofs.Openings.{opens_in_world}
use Rattle.exam_follower.proofs.laws.openings_in_one_world.Goals as goal

pub returns : goal.returns
returns g c =
    let o = c.earlier.inside in
    let f : FollowerState g.row.D.Denot = record { office = o.office; taken = o.taken; doubt = o.doubt } in
    subst (λ (x : FollowerState g.row.D.Denot). IsTrue (tells_of x.office.journal) → OpensInWorld x c.args._later.now) c.earlier.view_is
    (λ told. opens_in_world f c.earlier.invariant told c.args._later.now)
