use Rattle.series_model.specs.Series.{forms_of}
use Rattle.series_check.specs.Cuts.{problem_of}
use Rattle.series_check.specs.Values.{IsLeastOf}
use Rattle.series_check.proofs.value.value.Given as goal

abbrev pub invariant-loop-f : goal.invariant-loop-f
invariant-loop-f l = IsLeastOf (problem_of l.setting) (forms_of l.sets) l.f l.least
