use Rattle.std.proofs.Common.{◌≡◌, ◌++◌}
use Rattle.series_model.specs.Series.{forms_of}
use Rattle.form_lines.specs.Texts.{form_lines}
use Rattle.form_lines.proofs.series.push_forms.Given as goal

abbrev pub invariant-loop-f : goal.invariant-loop-f
invariant-loop-f l = l.out.items ≡ l.fn.out.items ++ form_lines l.items l.f (forms_of l.sets)
