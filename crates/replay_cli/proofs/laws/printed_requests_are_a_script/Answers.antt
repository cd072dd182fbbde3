use Rattle.std.proofs.Common.{inl, refl}
use Rattle.replay_cli.proofs.laws.printed_requests_are_a_script.Goals as goal

pub returns : goal.returns
returns c requests range = record { in_range = range; lines = inl refl }
