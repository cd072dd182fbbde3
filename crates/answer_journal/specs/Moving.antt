-- A journal of the first version that is moved to the second: records of the second version are
-- written after its closed gate, and count once that gate is opened.
use Rattle.std.specs.Prelude.{◌≡◌, ◌≢◌, ◌⊎◌, ℕ, ◌+◌, ◌≤◌}
use Rattle.std.specs.Prelude.{List, [], ◌∷◌, ◌++◌, length, Some, None}
use Rattle.std.specs.List.{AllByRecursion}
use Rattle.exam_edge.specs.Images.{Account, IsImage, IsSettled, IsWithin, latest, settled, written}
use Rattle.answer_journal.specs.Frames.{IsPayload, shadowj1, frames, front}
use Rattle.answer_journal.specs.Standing.{moved_records}
use Rattle.answer_journal.specs.Versions.{Counted, second, after_mark, contents}

-- the disk of a journal that is moved, the limit of its length, the place of its closed gate, the
-- bytes that wait to be written at the end of the file, and the file's length once they are
pub record MovingState (D : Type 0) : Type 0 where
  pub disk : D
  pub limit : ℕ
  pub gate : ℕ
  pub end : ℕ
  pub waiting : List ℕ

-- the file has the header of the first version, frames of these payloads, none of them a mark, a
-- closed gate, the mark, and frames of these records of the second version so far; up to that gate
-- all of it is on the disk
pub record IsMoving (ps qs : List (List ℕ)) (content : List ℕ) (accounts : List Account)
    (gate end : ℕ) : Type 0 where
  pub fits : AllByRecursion IsPayload ps
  pub unmoved : after_mark ps ≡ None
  pub more_fit : AllByRecursion IsPayload qs
  pub byte : ℕ
  pub closed : byte ≢ 1
  pub gate_is : gate ≡ length (front shadowj1 ps)
  pub end_is : end ≡ length content
  pub is : content ≡ front shadowj1 ps ++ byte ∷ moved_records qs
  pub n : ℕ
  pub within : IsWithin (latest accounts)
      (written (gate + 1) n (settled (front shadowj1 ps ++ byte ∷ [])))

-- of these records of the second version the file has the first ones, and the frames of the later
-- ones wait to be written at its end; then it has this length
pub record IsMovingWith (ps qs : List (List ℕ)) (content waiting : List ℕ)
    (accounts : List Account) (gate end : ℕ) : Type 0 where
  pub here : List (List ℕ)
  pub later : List (List ℕ)
  pub all : qs ≡ here ++ later
  pub moving : IsMoving ps here content accounts gate (length content)
  pub later_fit : AllByRecursion IsPayload later
  pub waiting_is : waiting ≡ frames later
  pub end_is : end ≡ length content + length waiting

-- a file that is moved, none of its records waiting, with the closed gate at the end, all of it on
-- the disk
pub record IsWritten (ps qs : List (List ℕ)) (content : List ℕ) (accounts : List Account)
    (gate : ℕ) : Type 0 where
  pub fits : AllByRecursion IsPayload ps
  pub unmoved : after_mark ps ≡ None
  pub more_fit : AllByRecursion IsPayload qs
  pub byte : ℕ
  pub closed : byte ≢ 1
  pub gate_is : gate ≡ length (front shadowj1 ps)
  pub is : content ≡ front shadowj1 ps ++ byte ∷ (moved_records qs ++ 0 ∷ [])
  pub settled : IsSettled content accounts

-- a limit, the places of a closed gate and of the end of a file, and bytes that wait to be written
-- there, that a journal may have: the mark was written
pub record ArePlaces (limit gate end : ℕ) (waiting : List ℕ) : Type 0 where
  pub limited : limit ≤ 536870912
  pub after_header : 8 ≤ gate
  pub marked : gate + 6 + length waiting ≤ end
  pub few : end ≤ 536870918

-- payloads of records of the first version
abbrev pub first : List (List ℕ) → Counted
first ps = record { version = 1; payloads = ps }

-- the file gives these payloads by the first version; one of at most nine bytes has none
abbrev pub IsUnmoved : List (List ℕ) → List ℕ → Type 0
IsUnmoved ps file =
    (contents file ≡ Some (first ps)) ⊎ ((ps ≡ []) × (contents file ≡ Some (second [])))

-- the file gives the old payloads by the first version, or the new ones by the second
abbrev pub GivesEither : List (List ℕ) → List (List ℕ) → List ℕ → Type 0
GivesEither old new file = IsUnmoved old file ⊎ (contents file ≡ Some (second new))

-- a file that a crash might have left before, or one that gives these payloads by the first version
abbrev pub IsImageOrUnmoved : Account → List (List ℕ) → List ℕ → Type 0
IsImageOrUnmoved before ps file = IsImage before file ⊎ IsUnmoved ps file
