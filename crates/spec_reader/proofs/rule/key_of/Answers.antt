use Rattle.std.proofs.Common.{sym}
use Rattle.spec_reader.proofs.Keys.{key_none}
use Rattle.spec_reader.proofs.rule.key_of.Goals as goal

pub returns-in-None : goal.returns-in-None
returns-in-None c = sym (key_none c.args.word.now c.in-None.ensures.none)
