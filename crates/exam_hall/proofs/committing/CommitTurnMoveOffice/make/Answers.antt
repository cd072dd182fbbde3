use Rattle.exam_hall.proofs.Turning.{grows_by, committable_now, good_now, commit_made}
use Rattle.exam_hall.proofs.committing.CommitTurnMoveOffice.make.Goals as goal

pub commit_to-round-requires-clause-may : goal.commit_to-round-requires-clause-may
commit_to-round-requires-clause-may g c = committable_now c.args.value.now c.args.self.now.assembled c.requires

pub commit_to-round-requires-clause-good : goal.commit_to-round-requires-clause-good
commit_to-round-requires-clause-good g c = good_now c.args.value.now c.args.self.now.assembled c.requires

pub returns-clause-grows : goal.returns-clause-grows
returns-clause-grows g c = grows_by c.args.value.now c.commit_to-round.new.office c.commit_to-round.ensures.adds

pub returns-clause-makes : goal.returns-clause-makes
returns-clause-makes g c = commit_made c.args.value.now c.commit_to-round.new.office c.args.self.now.assembled c.commit_to-round.result c.commit_to-round.ensures c.keeps.ensures.run
