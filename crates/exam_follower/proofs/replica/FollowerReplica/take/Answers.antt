use Rattle.std.proofs.Common.{ℕ, List}
use Rattle.answer_journal.specs.Journal.{accounts_of}
use Rattle.record_links.specs.Messages.{offer_of}
use Rattle.record_links.specs.Replicas.{StopLeaves}
use Rattle.exam_follower.specs.Delivering.{HasRecords}
use Rattle.exam_follower.specs.Followers.{held_of, may_follow}
use Rattle.exam_follower.proofs.Stops.{at_moment, records_there}
use Rattle.exam_follower.proofs.replica.FollowerReplica.take.Goals as goal

pub returns-in-Ok-clause-stops : goal.returns-in-Ok-clause-stops
returns-in-Ok-clause-stops g c left found =
    let old = c.args.self.now in
    let new = c.deliver.new.self in
    let P : List (List ℕ) → Type 0 = StopLeaves (may_follow old) (held_of old) (offer_of c.args.number c.args.payload.now) in
    records_there P found.file left
    (at_moment (HasRecords P) (accounts_of old.office.journal) (accounts_of new.office.journal) found.file (c.deliver.ensures.stops found.reports) found.between) found.has

pub returns-in-Err-clause-stops : goal.returns-in-Err-clause-stops
returns-in-Err-clause-stops g c left found =
    let old = c.args.self.now in
    let new = c.deliver.new.self in
    let P : List (List ℕ) → Type 0 = StopLeaves (may_follow old) (held_of old) (offer_of c.args.number c.args.payload.now) in
    records_there P found.file left
    (at_moment (HasRecords P) (accounts_of old.office.journal) (accounts_of new.office.journal) found.file (c.deliver.ensures.stops found.reports) found.between) found.has
