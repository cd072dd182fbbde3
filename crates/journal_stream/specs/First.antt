-- Where the first record that counts is found.
use Rattle.std.specs.Prelude.{◌≡◌, ℕ, ◌+◌, ◌≤◌, Option, Some, None, List, length, take, get_or, ⊤}
use Rattle.answer_journal.specs.Frames.{shadowj1, shadowj2}
use Rattle.answer_journal.specs.Payload.{end_of}
use Rattle.answer_journal.specs.Reading.{length_at}
use Rattle.journal_stream.specs.Served.{first_of}
use Rattle.journal_stream.specs.declared.first.Header.{Header}
use Rattle.journal_stream.specs.declared.first.Header.TheVariants as header
use Rattle.journal_stream.specs.declared.first.Old.{Old}
use Rattle.journal_stream.specs.declared.first.Old.TheVariants.{Mark, Payload, Unknown}

-- bytes that begin with the header of a version, after which a gate is there
abbrev pub IsHeader : List ℕ → Header → Type 0
IsHeader bytes header.First = (9 ≤ length bytes) × (take 8 bytes ≡ shadowj1.bytes)
IsHeader bytes header.Second = (9 ≤ length bytes) × (take 8 bytes ≡ shadowj2.bytes)
IsHeader bytes header.Other = ⊤
IsHeader bytes header.Short = ⊤

-- what is after the gate of an old record: the frame of the mark begins there; or that of a payload
-- of this size, which is not the mark; or nothing is known
abbrev pub IsOldHead : List ℕ → Old → Type 0
IsOldHead head Mark =
    (6 ≤ length head) × (get_or head 0 0 ≡ 1) × (1 ≡ length_at head 0) × (get_or head 5 0 ≡ 8)
IsOldHead head (Payload size) =
    (6 ≤ length head) × (get_or head 0 0 ≡ 1) × (size ≤ 131072) × (size ≡ length_at head 0)
    × (size ≡ 1 → get_or head 5 0 ≡ 8 → ⊥)
IsOldHead head Unknown = ⊤

-- the gate of an old record of a journal that was moved, or of the mark after them, is at this
-- place
pub record IsOldGate (moved : Option (List (List ℕ))) (at : ℕ) : Type 0 where
  pub old : List (List ℕ)
  pub was : moved ≡ Some old
  pub number : ℕ
  pub some : number ≤ length old
  pub place : at ≡ end_of 8 (take number old)

-- the record after that gate is the mark, and the first one that counts follows it; or it is an old
-- one, whose payload has so many bytes
abbrev pub IsPassed : Option (List (List ℕ)) → ℕ → Option ℕ → Type 0
IsPassed moved at None = first_of moved ≡ at + 6
IsPassed moved at (Some size) = IsOldGate moved (at + (5 + size))

-- the same of what was found there
abbrev pub Passes : Option (List (List ℕ)) → ℕ → Old → Type 0
Passes moved at Mark = IsPassed moved at None
Passes moved at (Payload size) = IsPassed moved at (Some size)
Passes moved at Unknown = ⊤
