use Rattle.prepare_desk.specs.Desks.{purpose_of}
use Rattle.prepare_desk.proofs.post.Post.handle.Goals as goal

pub handle_prepared-requires-clause-prepared : goal.handle_prepared-requires-clause-prepared
handle_prepared-requires-clause-prepared g c = (c.take-ready.ensures (purpose_of c.args.hall.now) c.requires.post).1

pub returns-in-Answer-clause-post : goal.returns-in-Answer-clause-post
returns-in-Answer-clause-post g c = (c.take-ready.ensures (purpose_of c.args.hall.now) c.requires.post).0
