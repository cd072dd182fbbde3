use Rattle.std.proofs.Common.{◌≡◌, ℕ, ◌<◌, false}
use Rattle.certificate_model.specs.Counting.{is_impossible}
use Rattle.series_check.specs.Cuts.{one_form, form_path_of}
use Rattle.series_outcome.proofs.counted.impossible_row.Given as goal

abbrev pub invariant-loop-row : goal.invariant-loop-row
invariant-loop-row l = (r : ℕ) → r < l.row → is_impossible (one_form l.setting) (form_path_of l.standing) r ≡ false
