use Rattle.std.proofs.Common.{rules}
use Rattle.replay_cli.specs.Replies.{counts_line}
use Rattle.replay_cli.proofs.reply.counts_line.Goals as goal

pub returns : goal.returns
unfolding counts_line
returns c = search rules
