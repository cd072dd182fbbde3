-- The file of a journal while its server writes it.
use Rattle.std.specs.Prelude.{◌≡◌, ◌⊎◌, ℕ, ◌≤◌, ◌==◌, if◌then◌else◌}
use Rattle.std.specs.Prelude.{List, [], ◌∷◌, ◌++◌, length, Option, None, Some, ⊤}
use Rattle.std.specs.List.{AllByRecursion}
use Rattle.std.specs.Option.{option_map}
use Rattle.answer_journal.specs.Frames.{FileHeader, IsPayload, shadowj1, shadowj2}
use Rattle.answer_journal.specs.Payload.{end_of}
use Rattle.answer_journal.specs.Standing.{IsEither}
use Rattle.answer_journal.specs.Versions.{mark, is_mark, after_mark}

-- the header of a journal's file: of one that was moved from the first version, that version's
abbrev pub header_of : Option (List (List ℕ)) → FileHeader
header_of None = shadowj2
header_of (Some old) = shadowj1

-- the payloads of the file that do not count: none; of a moved journal the old ones, and the mark
abbrev pub skipped_of : Option (List (List ℕ)) → List (List ℕ)
skipped_of None = []
skipped_of (Some old) = old ++ mark ∷ []

-- the place of the gate of the first record that counts
abbrev pub first_of : Option (List (List ℕ)) → ℕ
first_of moved = end_of 8 (skipped_of moved)

-- no old payload is a mark
abbrev pub IsUnmarked : Option (List (List ℕ)) → Type 0
IsUnmarked None = ⊤
IsUnmarked (Some old) = after_mark old ≡ None

-- the file of a journal, moved or not, with these records that count: the frames of its payloads,
-- and a closed gate with anything after it; or their frames and those of one more record, whole,
-- with nothing after its closed gate. That record's gate may not be on the disk yet
pub record IsBegun (moved : Option (List (List ℕ))) (records : List (List ℕ)) (file : List ℕ)
    : Type 0 where
  pub fits : AllByRecursion IsPayload (skipped_of moved ++ records)
  pub unmarked : IsUnmarked moved
  pub payload : List ℕ
  pub one : IsPayload payload
  pub either : IsEither (header_of moved) (skipped_of moved ++ records) payload file

-- the file of a journal that was moved, which no server has opened yet. Nothing is settled: the
-- gate of its mark may not be on the disk
pub record IsBeingMoved (moved : Option (List (List ℕ))) (settled : List (List ℕ)) (file : List ℕ)
    : Type 0 where
  pub old : List (List ℕ)
  pub was : moved ≡ Some old
  pub none : settled ≡ []
  pub records : List (List ℕ)
  pub begun : IsBegun moved records file

-- what a read gives of a journal, moved or not, whose settled records are these: a file that begins
-- so; one that is being moved; or one whose header is not whole
abbrev pub IsServed : Option (List (List ℕ)) → List (List ℕ) → List ℕ → Type 0
IsServed moved settled file =
    IsBegun moved settled file
    ⊎ (IsBeingMoved moved settled file ⊎ ((length file ≤ 8) × (settled ≡ [])))

-- a server has opened the journal for sure: it was not moved, or it has a settled record
abbrev pub IsOpened : Option (List (List ℕ)) → List (List ℕ) → Type 0
IsOpened moved settled = (moved ≡ None) ⊎ (1 ≤ length settled)

-- the payloads before the first mark, if there is one
abbrev pub before_mark : List (List ℕ) → Option (List (List ℕ))
before_mark [] = None
before_mark (p ∷ ps) =
    if is_mark p then Some [] else option_map (λ old. p ∷ old) (before_mark ps)

-- the old payloads of a file whose header names this version: none, if it was not moved
abbrev pub moved_of : ℕ → List (List ℕ) → Option (List (List ℕ))
moved_of version all = if version == 1 then before_mark all else None
