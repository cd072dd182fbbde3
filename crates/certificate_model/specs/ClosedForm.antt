-- The relaxed maximum in closed form: a Lagrangian is a sum of one weight for each item and each
-- stimulus, so it is greatest where the greatest weights are taken.
use Rattle.std.specs.Prelude.{◌≡◌, ℕ, suc, ◌+◌, ◌<◌, Bool, cond, ◌==◌, IsTrue, IsFalse, ℤ, pos, ◌+ℤ◌, ◌-ℤ◌, ◌≤ℤ◌}
use Rattle.std.specs.Int.{int_max}
use Rattle.bank_tables.specs.Items.{Set}
use Rattle.bank_tables.specs.Tables.{size, stimulus}
use Rattle.bank_tables.specs.Sums.{sum_in_z, total_z}
use Rattle.form_model.specs.Problem.{Problem}
use Rattle.form_model.specs.Forms.{stimuli_of, size_in}
use Rattle.certificate_model.specs.Paths.{Path, is_free, is_chosen, is_open}
use Rattle.certificate_model.specs.Weights.{item_weight, stimulus_weight, rows_constant}
use Rattle.certificate_model.specs.Relaxed.{Multipliers, multiplier, link_multiplier}

-- an item's reduced weight less what it has above the cap: a free item of an open stimulus has at
-- most the cap
abbrev pub capped_weight : Problem → Path → Multipliers → Bool → ℕ → ℤ
capped_weight P p v ray i = item_weight P (multiplier v) ray i -ℤ link_multiplier P p v ray i

-- what the free items of a stimulus have above the cap in all, where it is open
unfoldable pub excess_of_items : Problem → Path → Multipliers → Bool → ℕ → ℤ
excess_of_items P p v ray s =
    sum_in_z (size P.bank) (λ i. stimulus P.bank i == s) (link_multiplier P p v ray)

-- T are free items of the greatest capped weights, as many as fill the test: t is a threshold
-- between them and the rest
pub record IsGreatestFill (P : Problem) (p : Path) (v : Multipliers) (ray : Bool) (T : Set)
    (t : ℤ) : Type 0 where
  pub free : (i : ℕ) → IsTrue (T i) → IsTrue (is_free P p i)
  pub fills : size_in P.bank p.taken + size_in P.bank T ≡ P.plan.length
  pub above : (i : ℕ) → i < size P.bank → IsTrue (T i) → t ≤ℤ capped_weight P p v ray i
  pub others : (i : ℕ) → i < size P.bank → IsTrue (is_free P p i) → IsFalse (T i)
      → capped_weight P p v ray i ≤ℤ t

-- what a stimulus adds: its weight if it is chosen; if it is open, the greater of 0 and its weight
-- with the excess of its items
abbrev pub stimulus_gain : Problem → Path → Multipliers → Bool → ℕ → ℤ
stimulus_gain P p v ray s =
    cond (is_chosen P p s) (stimulus_weight P (multiplier v) s)
    (cond (is_open P p s) (int_max (pos 0) (stimulus_weight P (multiplier v) s
    +ℤ excess_of_items P p v ray s)) (pos 0))

-- the constant, the weights of the items taken and the capped weights of T, and what each stimulus
-- adds
abbrev pub closed_form : Problem → Path → Multipliers → Bool → Set → ℤ
closed_form P p v ray T =
    rows_constant P (multiplier v)
    +ℤ ((sum_in_z (size P.bank) p.taken (item_weight P (multiplier v) ray)
    +ℤ sum_in_z (size P.bank) T (capped_weight P p v ray))
    +ℤ total_z (stimuli_of P.bank) (λ k. stimulus_gain P p v ray (suc k)))
