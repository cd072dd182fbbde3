-- The links of items to their stimuli, by the state of a path and arrays of weights.
use Rattle.std.specs.Prelude.{ℕ, not, ◌&&◌, ◌==◌, List, cond, ℤ, pos, ◌+ℤ◌, Option, if◌then◌else◌}
use Rattle.std.specs.Int.{int_max}
use Rattle.bank_tables.specs.Items.{Set, has}
use Rattle.bank_tables.specs.Sums.{sum_in_z}
use Rattle.bank_tables.specs.Tables.{Tables, size, stimulus}
use Rattle.form_model.specs.Problem.{Problem}
use Rattle.certificate_model.specs.Ranges.{at}
use Rattle.certificate_model.specs.Relaxed.{excess_over}
use Rattle.certificate_model.specs.Weights.{stimulus_weight}
use Rattle.lagrange_bound.specs.declared.cut.Cut.{Cut}

-- a free item of an open stimulus
abbrev pub is_linked_on : Tables → Cut → Set
is_linked_on b cut i = not (stimulus b i == 0) && (has cut.free i && has cut.opened (stimulus b i))

-- how far its weight in the array is above the cap
abbrev pub link_on : Tables → Cut → Option ℤ → List ℤ → ℕ → ℤ
link_on b cut cap weights i = if is_linked_on b cut i then excess_over cap (at weights i) else pos 0

-- what the items of stimulus s have above the cap in all
abbrev pub excess_on : Tables → Cut → Option ℤ → List ℤ → ℕ → ℤ
excess_on b cut cap weights s = sum_in_z (size b) (λ i. stimulus b i == s) (link_on b cut cap weights)

-- what stimulus s adds, with an array of what the items of each have above the cap
abbrev pub gain_on : Problem → Cut → (ℕ → ℕ) → List ℤ → ℕ → ℤ
gain_on P cut M excesses s =
    cond (has cut.chosen s) (stimulus_weight P M s)
    (cond (has cut.opened s) (int_max (pos 0) (stimulus_weight P M s +ℤ at excesses s)) (pos 0))
