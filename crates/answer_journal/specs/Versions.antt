-- Which payloads of a file count, and of which version their records are. A file of the first
-- version may be moved to the second: then the payloads after the first mark count, and those
-- before it count for nothing.
use Rattle.std.specs.Prelude.{◌≡◌, ◌⊎◌, ℕ, ◌-◌, Bool, false, ◌==◌, nat_le, if◌then◌else◌}
use Rattle.std.specs.Prelude.{List, [], ◌∷◌, ◌++◌, length, take, Option, Some, None, unwrap_or}
use Rattle.std.specs.Option.{option_map}
use Rattle.answer_journal.specs.Frames.{FileHeader, shadowj1, shadowj2, begins, payloads}
use Rattle.answer_journal.specs.Payload.{end_of}

-- the header of the files of a version
abbrev pub header : ℕ → FileHeader
header version = if version == 1 then shadowj1 else shadowj2

-- the version that the header of a file names; a file of at most nine bytes is to have the second
unfoldable pub version_of : List ℕ → ℕ
version_of file =
    if nat_le (length file) 9 then 2 else (if begins shadowj1 file then 1 else 2)

-- the version that the header of a longer file names, if it is a header
abbrev pub version_named : List ℕ → Option ℕ
version_named file =
    if begins shadowj1 file then Some 1 else (if begins shadowj2 file then Some 2 else None)

-- the payload that moves a journal to the second version
abbrev pub mark : List ℕ
mark = 8 ∷ []

abbrev pub is_mark : List ℕ → Bool
is_mark [] = false
is_mark (byte ∷ []) = byte == 8
is_mark (byte ∷ more ∷ rest) = false

-- the payloads after the first mark, if there is one
abbrev pub after_mark : List (List ℕ) → Option (List (List ℕ))
after_mark [] = None
after_mark (p ∷ ps) = if is_mark p then Some ps else after_mark ps

-- payloads that count, and the version of the records that they spell
pub record Counted : Type 0 where
  pub version : ℕ
  pub payloads : List (List ℕ)

-- payloads of records of the second version
abbrev pub second : List (List ℕ) → Counted
second ps = record { version = 2; payloads = ps }

abbrev pub counted_from : List (List ℕ) → Option (List (List ℕ)) → Counted
counted_from ps None = record { version = 1; payloads = ps }
counted_from ps (Some after) = second after

-- those of the payloads of a file whose header names this version
abbrev pub counted : ℕ → List (List ℕ) → Counted
counted version ps = if version == 1 then counted_from ps (after_mark ps) else second ps

-- those of a file, if no rule of its frames is broken
unfoldable pub contents : List ℕ → Option Counted
contents file =
    option_map (counted (version_of file)) (payloads (header (version_of file)) file)

-- those of a file, none where a rule is broken
abbrev pub counted_in : List ℕ → Counted
counted_in file = unwrap_or (contents file) (second [])

-- how many payloads of a file do not count: those up to the mark
abbrev pub uncounted : ℕ → List (List ℕ) → ℕ
uncounted version ps = length ps - length (counted version ps).payloads

-- the place of the first gate whose record counts, or is to count
abbrev pub first_place : ℕ → List (List ℕ) → ℕ
first_place version ps = end_of 8 (take (uncounted version ps) ps)

-- the file gives these payloads of the second version
abbrev pub HoldsJust : List (List ℕ) → List ℕ → Type 0
HoldsJust ps file = contents file ≡ Some (second ps)

-- the file gives these payloads of the second version, or one more
abbrev pub HoldsOrOneMore : List (List ℕ) → List ℕ → List ℕ → Type 0
HoldsOrOneMore ps payload file =
    (contents file ≡ Some (second ps)) ⊎ (contents file ≡ Some (second (ps ++ payload ∷ [])))
