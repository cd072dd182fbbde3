use Rattle.std.proofs.Common.{ℕ, ◌<◌}
use Rattle.form_model.specs.Forms.{Meets}
use Rattle.series_model.specs.Series.{forms_of}
use Rattle.series_check.proofs.value.all_meet.Given as goal

abbrev pub invariant-loop-f : goal.invariant-loop-f
invariant-loop-f l = (f : ℕ) → f < l.f → Meets l.setting.bank.now l.setting.spec.now (forms_of l.sets f)
