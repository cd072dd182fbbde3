use Rattle.std.proofs.Common.{◌≡◌, ◌++◌, drop}
use Rattle.bank_maker.specs.Scripts.{script_text}
use Rattle.bank_maker.proofs.script.script_text.Given as goal

abbrev pub invariant-loop-act : goal.invariant-loop-act
invariant-loop-act l = script_text l.fn.draws.state l.acts ≡ l.out.items ++ script_text l.draws.state (drop l.act-index l.acts)
