use Rattle.std.proofs.Common.{rules}
use Rattle.replay_cli.proofs.reply.mark_word.Goals as goal

pub returns-then-proved : goal.returns-then-proved
returns-then-proved c = search rules
