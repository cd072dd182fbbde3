-- What the checker keeps of a path.
use Rattle.std.specs.Prelude.{◌≡◌}
use Rattle.bank_tables.specs.Items.{has}
use Rattle.form_model.specs.Problem.{Problem}
use Rattle.certificate_model.specs.Paths.{Path, is_free, is_chosen, is_open}
use Rattle.certificate_model.specs.Counting.{taken_or_free, chosen_or_open}
use Rattle.certificate_check.specs.declared.cut.Cut.{Cut}
use Rattle.certificate_check.specs.declared.standing.Standing.{Standing}

abbrev pub path_of : Cut → Path
path_of c = record { taken = has c.taken; out = has c.out; branched_on = has c.branched_on }

-- on a path of P: the items free, and those taken or free; the stimuli chosen, open, and either
pub record IsStanding (P : Problem) (s : Standing) : Type 0 where
  pub free : has s.free ≡ is_free P (path_of s.cut)
  pub may_hold : has s.may_hold ≡ taken_or_free P (path_of s.cut)
  pub chosen : has s.chosen ≡ is_chosen P (path_of s.cut)
  pub opened : has s.opened ≡ is_open P (path_of s.cut)
  pub may_use : has s.may_use ≡ chosen_or_open P (path_of s.cut)
