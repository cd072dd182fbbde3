-- The numbers of a plan.
use Rattle.std.specs.Prelude.{ℕ, ◌+◌, ◌-◌, [], length, get_or, count_by, nat_le}
use Rattle.form_model.specs.declared.draft.Draft.{Draft}
use Rattle.form_model.specs.declared.row.Row.{Row}
use Rattle.form_model.specs.declared.row.Row.TheVariants.{Count}
use Rattle.form_model.specs.declared.row.StimulusBound.{StimulusBound}

-- a plan is the numbers of a draft; the base, if there is one, is the words of a set of items
abbrev pub Plan : Type 0
Plan = Draft

-- the row past the last one
abbrev pub no_row : Row
no_row = Count [] 0 0

-- the bounds past the last ones
abbrev pub no_bound : StimulusBound
no_bound = record { low = 0; high = 0 }

-- row r of the plan, from 0 on
abbrev pub row_at : Plan → ℕ → Row
row_at plan r = get_or plan.rows r no_row

-- the bounds of stimulus s, from 1 on
abbrev pub bound_at : Plan → ℕ → StimulusBound
bound_at plan s = get_or plan.bounds (s - 1) no_bound

-- ---- bands of abilities: each point of `bands` begins a new one

-- the number of the band of a grid point: how many of the points are at most g
abbrev pub band_of : Plan → ℕ → ℕ
band_of plan g = count_by (λ point. nat_le point g) plan.bands

-- how many bands the plan has
abbrev pub bands_of : Plan → ℕ
bands_of plan = length plan.bands + 1
