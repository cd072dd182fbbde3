-- The key of the eligibility draw, a part of a plan.
use Rattle.std.specs.Prelude.{◌≡◌, ℕ, List, length}
use Rattle.hex.specs.Hex.{IsBytes}

-- a key has 32 bytes
pub record IsKey (key : List ℕ) : Type 0 where
  pub count : length key ≡ 32
  pub bytes : IsBytes key
