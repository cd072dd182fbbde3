use Rattle.std.proofs.Common.{rules}
use Rattle.replay_cli.specs.Reading.{request_in}
use Rattle.replay_cli.proofs.script.request_in.Goals as goal

pub returns-in-Some-number_after : goal.returns-in-Some-number_after
unfolding request_in
returns-in-Some-number_after c = search rules
