use Rattle.exam_session.proofs.FlagNotes.{raised_is}
use Rattle.exam_session.proofs.flags.with_flag.Goals as goal

pub returns : goal.returns
returns c = raised_is c.args.flags c.args.band c.requires
