-- What was written.
use Rattle.std.specs.Prelude.{◌≡◌, ℕ, ◌<◌, ◌++◌, Bool, List, length, IsTrue}

-- the text was written, if the sink reports its content
abbrev pub IsWritten : Bool → List ℕ → List ℕ → List ℕ → Type 0
IsWritten told old new text = IsTrue told → new ≡ old ++ text

-- a part of the piece was written, from its front on, and not the whole
pub record WritesPart (told : Bool) (old new piece : List ℕ) : Type 0 where
  pub part : List ℕ
  pub rest : List ℕ
  pub written : IsWritten told old new part
  pub whole : piece ≡ part ++ rest
  pub unfinished : 0 < length rest
