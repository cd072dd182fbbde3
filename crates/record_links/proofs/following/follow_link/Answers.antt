use Rattle.std.proofs.Common.{inl, refl}
use Rattle.record_links.specs.Following.{stays}
use Rattle.record_links.proofs.following.follow_link.Goals as goal

pub returns-clause-moved : goal.returns-clause-moved
returns-clause-moved g c = (g.F.Replica.held c.args.replica.now, stays, inl refl)

pub returns-clause-later : goal.returns-clause-later
returns-clause-later g c = g.met.F.Replica.later_itself c.args.replica.now
