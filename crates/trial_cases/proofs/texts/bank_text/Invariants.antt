use Rattle.std.proofs.Common.{◌≡◌, ◌++◌}
use Rattle.std.specs.Prelude.{string_bytes}
use Rattle.trial_cases.specs.Texts.{header, lines}
use Rattle.trial_cases.proofs.texts.bank_text.Given as goal

abbrev pub invariant-loop-i : goal.invariant-loop-i
invariant-loop-i l = string_bytes l.text ≡ header l.rows ++ lines l.rows l.i
