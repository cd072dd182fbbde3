-- What a vector makes of the items and the open stimuli of a path, and the room that a goal leaves.
use Rattle.std.specs.Prelude.{◌≡◌, ℕ, suc, ◌<◌, IsTrue}
use Rattle.bank_tables.specs.Tables.{size}
use Rattle.form_model.specs.Forms.{stimuli_of}
use Rattle.form_model.specs.Problem.{Problem}
use Rattle.certificate_model.specs.Fixing.{margin, stimulus_margin, room}
use Rattle.certificate_model.specs.Paths.{Path, is_open}
use Rattle.certificate_model.specs.Ranges.{IsWithin, at}
use Rattle.certificate_check.specs.declared.costs.Costs.{Costs}
use Rattle.certificate_check.specs.Weights.{gain_top}

-- no margin of an item is further from 0
abbrev pub margin_top : ℕ
margin_top = 141835108499456

-- nor is a bound of the forms on a path
abbrev pub bound_top : ℕ
bound_top = 4909983790018854912

-- nor is what the bound has above a goal
abbrev pub room_top : ℕ
room_top = 4909984889530482687

-- the numbers are those of the vector and the goal that are beside them
pub record AreCosts (P : Problem) (p : Path) (c : Costs) : Type 0 where
  pub margins_are : (i : ℕ) → i < size P.bank → at c.margins i ≡ margin P c.vector.now i
  pub margins_within : (i : ℕ) → i < size P.bank → IsWithin margin_top (at c.margins i)
  pub uses_are : (k : ℕ) → k < stimuli_of P.bank → IsTrue (is_open P p (suc k))
      → at c.uses k ≡ stimulus_margin P p c.vector.now (suc k)
  pub uses_within : (k : ℕ) → k < stimuli_of P.bank → IsWithin gain_top (at c.uses k)
  pub room_within : IsWithin room_top c.room
  pub room_is : c.room ≡ room P p c.vector.now c.goal
