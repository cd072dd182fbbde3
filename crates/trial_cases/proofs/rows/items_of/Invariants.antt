use Rattle.std.proofs.Common.{◌≡◌, take}
use Rattle.std.specs.Prelude.{map}
use Rattle.trial_cases.specs.Rows.{two_categories}
use Rattle.trial_cases.proofs.rows.items_of.Given as goal

abbrev pub invariant-loop-line : goal.invariant-loop-line
invariant-loop-line l = l.items.items ≡ map (λ line. two_categories line.0 line.1.now line.2.now line.3.now) (take l.line-index l.lines)
