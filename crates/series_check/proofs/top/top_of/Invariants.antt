use Rattle.bank_tables.specs.Items.{has}
use Rattle.certificate_check.specs.Tops.{IsTopOf}
use Rattle.series_check.proofs.top.top_of.Given as goal

abbrev pub invariant-loop-round : goal.invariant-loop-round
invariant-loop-round l = IsTopOf l.n l.weights (has l.free) l._round (has l.top)
