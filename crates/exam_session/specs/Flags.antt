-- A flag for each of eight bands, in one byte.
use Rattle.std.specs.Prelude.{ℕ, Bool, ◌==◌, List}
use Rattle.std.specs.Int.{bit_at}
use Rattle.serving_model.specs.Seats.{eight}

-- the flag of a band is the bit of its number
abbrev pub flags_of : ℕ → List Bool
flags_of flags = eight (λ band. bit_at flags band == 1)
