use Rattle.std.proofs.Common.{◌≡◌, Ok, map}
use Rattle.exam_text.specs.First.{each_below}
use Rattle.replay_cli.specs.Reading.{request_at}
use Rattle.replay_cli.proofs.script.requests_of.Given as goal

abbrev pub invariant-loop-i : goal.invariant-loop-i
invariant-loop-i l = each_below l.i (request_at (map (λ w. w.now) l.lines)) ≡ Ok l.requests.items
