-- The bounds of the stimuli.
use Rattle.std.specs.Prelude.{ℕ, ◌-◌, ◌==◌, if◌then◌else◌, List, slice_set}
use Rattle.form_model.specs.declared.row.StimulusBound.{StimulusBound}

-- the bounds of a stimulus that no line names
abbrev pub any_bound : StimulusBound
any_bound = record { low = 1; high = 512 }

-- the bounds with those of stimulus s, which are at place s - 1
abbrev pub with_bound : List StimulusBound → ℕ → StimulusBound → List StimulusBound
with_bound bounds s bound = if (s == 0) then bounds else slice_set bounds (s - 1) bound
