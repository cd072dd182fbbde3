use Rattle.std.proofs.Common.{rules}
use Rattle.replay_cli.proofs.script.request_of.Goals as goal

pub returns : goal.returns
returns c = search rules
