-- One step of an enumeration of sets of items.
use Rattle.std.specs.Prelude.{ℕ, ◌&&◌, ◌==◌, nat_lt, Option}
use Rattle.std.specs.Int.{bit_at}
use Rattle.bank_tables.specs.Items.{Set}
use Rattle.form_model.specs.Problem.{Problem}
use Rattle.form_model.specs.Forms.{Form}
use Rattle.certificate_model.specs.Verdicts.{IsFormOrNone, IsAtLeast}

-- the items below n whose bits are 1 in the mask
abbrev pub masked : ℕ → ℕ → Set
masked mask n i = nat_lt i n && bit_at mask i == 1

-- new is a form or none, at least what was kept, and at least X if X is a form
pub record IsBetterOf (P : Problem) (kept : Option Set) (X : Set) (new : Option Set) : Type 0 where
  pub form : IsFormOrNone P new
  pub than_kept : (Y : Set) → IsAtLeast P kept Y → IsAtLeast P new Y
  pub than_set : Form P X → IsAtLeast P new X
