-- What the checker keeps of a setting, of a path, and of the path of one form.
use Rattle.std.specs.Prelude.{◌≡◌, get_or, [], false}
use Rattle.bank_tables.specs.Items.{has}
use Rattle.certificate_model.specs.Counting.{taken_or_free, chosen_or_open}
use Rattle.certificate_model.specs.Paths.{Path, is_free, is_chosen, is_open}
use Rattle.form_model.specs.Problem.{Problem}
use Rattle.series_model.specs.Series.{SeriesProblem}
use Rattle.series_model.specs.SeriesPaths.{SeriesPath, form_problem}
use Rattle.series_check.specs.declared.cut.SeriesCut.{SeriesCut}
use Rattle.series_check.specs.declared.setting.Setting.{Setting}
use Rattle.series_check.specs.declared.standing.Standing.{Standing}

abbrev pub problem_of : Setting → SeriesProblem
problem_of s = record { bank = s.bank.now; plan = s.spec.now; weights = s.weights.now; forms = s.forms }

-- the problem of each form
abbrev pub one_form : Setting → Problem
one_form s = form_problem (problem_of s)

abbrev pub path_of : SeriesCut → SeriesPath
path_of c = record { taken = λ f. has (get_or c.taken f []); out = λ f. has (get_or c.out f []); used = has c.used }

-- the path of one form
abbrev pub form_path_of : Standing → Path
form_path_of s = record { taken = has s.taken; out = has s.out; branched_on = λ _. false }

-- on the path of a form: the items free, and those taken or free; the stimuli chosen, open, and
-- either
pub record IsStanding (P : Problem) (s : Standing) : Type 0 where
  pub free : has s.free ≡ is_free P (form_path_of s)
  pub may_hold : has s.may_hold ≡ taken_or_free P (form_path_of s)
  pub chosen : has s.chosen ≡ is_chosen P (form_path_of s)
  pub opened : has s.opened ≡ is_open P (form_path_of s)
  pub may_use : has s.may_use ≡ chosen_or_open P (form_path_of s)
