-- The relaxed maximum: Lagrangian relaxation of the rows and stimuli of a plan.
use Rattle.std.specs.Prelude.{◌≡◌, ℕ, suc, ◌+◌, ◌-◌, ◌*◌, ◌≤◌, ◌<◌, ◌⊎◌, Bool, not, ◌&&◌, ◌||◌, cond, ◌==◌, List, [], ◌∷◌, length, IsTrue, ℤ, pos, ◌+ℤ◌, ◌-ℤ◌, ◌*ℤ◌, ◌≤ℤ◌, Option, Some, None, if◌then◌else◌}
use Rattle.std.specs.Int.{int_max}
use Rattle.std.specs.List.{list_any}
use Rattle.bank_tables.specs.Items.{Set}
use Rattle.bank_tables.specs.Tables.{size, stimulus}
use Rattle.bank_tables.specs.Sums.{sum_in, total_z}
use Rattle.form_model.specs.Plan.{row_at, bound_at}
use Rattle.form_model.specs.Problem.{Problem}
use Rattle.form_model.specs.Forms.{activity, lower_bound, upper_bound, items_of, stimuli_of, size_in}
use Rattle.certificate_model.specs.Paths.{Path, is_free, is_chosen, is_open}
use Rattle.certificate_model.specs.Weights.{price, weight, item_weight}

-- a vector: the Lagrange multiplier of each side that it names
abbrev pub Multipliers : Type 0
Multipliers = List (ℕ × ℕ)

-- the multiplier of a side; a side not named has 0
abbrev pub multiplier : Multipliers → ℕ → ℕ
multiplier [] side = 0
multiplier (pair ∷ pairs) side = cond (pair.0 == side) pair.1 (multiplier pairs side)

-- the slacks of row r times their multipliers; its low side is 2 * r, its high side the next one
abbrev pub weighted_slacks : Problem → Multipliers → Set → Set → ℕ → ℤ
weighted_slacks P v X Z r =
    let row = row_at P.plan r in
    pos (multiplier v (2 * r)) *ℤ (pos (activity P.bank row X Z) -ℤ pos (lower_bound row))
    +ℤ pos (multiplier v (2 * r + 1)) *ℤ (pos (upper_bound row) -ℤ pos (activity P.bank row X Z))

-- the same of stimulus s, whose sides come after those of the rows; one that isn't chosen has
-- bounds 0
abbrev pub weighted_stimulus_slacks : Problem → Multipliers → Set → Set → ℕ → ℤ
weighted_stimulus_slacks P v X Z s =
    let items = pos (items_of P.bank s X) in
    let low_side = 2 * length P.plan.rows + 2 * (s - 1) in
    pos (multiplier v low_side) *ℤ (items -ℤ pos (cond (Z s) (bound_at P.plan s).low 0))
    +ℤ pos (multiplier v (low_side + 1)) *ℤ (pos (cond (Z s) (bound_at P.plan s).high 0) -ℤ items)

-- the Lagrangian of the rows and stimuli: the objective plus each slack times its multiplier
unfoldable pub lagrangian_without_links : Problem → Multipliers → Bool → Set → Set → ℤ
lagrangian_without_links P v ray X Z =
    pos (sum_in (size P.bank) X (weight P ray))
    +ℤ (total_z (length P.plan.rows) (weighted_slacks P v X Z)
    +ℤ total_z (stimuli_of P.bank) (λ k. weighted_stimulus_slacks P v X Z (suc k)))

-- the vector names the side
abbrev pub names : Multipliers → ℕ → Bool
names v side = list_any (λ pair. pair.0 == side) v

-- the low side of the cap, which comes after those of the greatest plan; its high side is the next
abbrev pub cap_side : ℕ
cap_side = 384

-- the cap of a vector: the multiplier of its low side less that of its high side; a vector that
-- names neither has none
abbrev pub cap : Multipliers → Option ℤ
cap v = if names v cap_side || names v (cap_side + 1) then Some (price (multiplier v) cap_side)
    else None

-- how far a reduced weight is above the cap
abbrev pub excess_over : Option ℤ → ℤ → ℤ
excess_over None weight = pos 0
excess_over (Some cap) weight = int_max (pos 0) (weight -ℤ cap)

-- a free item of an open stimulus (0 is no stimulus): its link is the constraint that it is chosen
-- only where its stimulus is
abbrev pub is_linked : Problem → Path → Set
is_linked P p i = not (stimulus P.bank i == 0) && (is_free P p i && is_open P p (stimulus P.bank i))

-- the multiplier of a link: how far the item's reduced weight is above the cap
unfoldable pub link_multiplier : Problem → Path → Multipliers → Bool → ℕ → ℤ
link_multiplier P p v ray i =
    if is_linked P p i then excess_over (cap v) (item_weight P (multiplier v) ray i) else pos 0

-- the slack of a link times its multiplier
abbrev pub weighted_link_slack : Problem → Path → Multipliers → Bool → Set → Set → ℕ → ℤ
weighted_link_slack P p v ray X Z i = link_multiplier P p v ray i
    *ℤ (pos (if Z (stimulus P.bank i) then 1 else 0) -ℤ pos (if X i then 1 else 0))

-- the Lagrangian, with the links
unfoldable pub lagrangian : Problem → Path → Multipliers → Bool → Set → Set → ℤ
lagrangian P p v ray X Z = lagrangian_without_links P v ray X Z
    +ℤ total_z (size P.bank) (weighted_link_slack P p v ray X Z)

-- X has as many items as the test, holds those taken and otherwise only free ones; Z holds the
-- stimuli chosen and otherwise only open ones
pub record IsRelaxedPair (P : Problem) (p : Path) (X Z : Set) : Type 0 where
  pub n_items : size_in P.bank X ≡ P.plan.length
  pub holds_taken : (i : ℕ) → IsTrue (p.taken i) → IsTrue (X i)
  pub else_free : (i : ℕ) → IsTrue (X i) → IsTrue (p.taken i) ⊎ IsTrue (is_free P p i)
  pub holds_chosen : (s : ℕ) → 0 < s → s ≤ stimuli_of P.bank → IsTrue (is_chosen P p s)
      → IsTrue (Z s)
  pub else_open : (s : ℕ) → 0 < s → s ≤ stimuli_of P.bank → IsTrue (Z s)
      → IsTrue (is_chosen P p s) ⊎ IsTrue (is_open P p s)

-- r is the relaxed maximum: the greatest Lagrangian of a relaxed pair; there is none where there is
-- no such pair
pub record IsRelaxedMaximum (P : Problem) (p : Path) (v : Multipliers) (ray : Bool)
    (r : ℤ) : Type 0 where
  pub reached : (X : Set) × (Z : Set) × IsRelaxedPair P p X Z × (lagrangian P p v ray X Z ≡ r)
  pub greatest : (X Z : Set) → IsRelaxedPair P p X Z → lagrangian P p v ray X Z ≤ℤ r
