-- The state of a path of branches.
use Rattle.std.specs.Prelude.{◌≡◌}
use Rattle.bank_tables.specs.Items.{has}
use Rattle.form_model.specs.Problem.{Problem}
use Rattle.certificate_model.specs.Paths.{Path, is_free, is_chosen, is_open}
use Rattle.lagrange_bound.specs.declared.cut.Cut.{Cut}

-- the cut has the items that are taken, out and free on the path, and the stimuli that are chosen
-- and open
pub record IsCutOf (P : Problem) (p : Path) (c : Cut) : Type 0 where
  pub taken : has c.taken ≡ p.taken
  pub out : has c.out ≡ p.out
  pub free : has c.free ≡ is_free P p
  pub chosen : has c.chosen ≡ is_chosen P p
  pub opened : has c.opened ≡ is_open P p

-- it is the state of some path
pub record IsCut (P : Problem) (c : Cut) : Type 0 where
  pub path : Path
  pub is : IsCutOf P path c
