-- What a file of the journal holds.
use Rattle.std.specs.Prelude.{◌≡◌, ℕ, ◌==◌, ◌≤◌, List, [], ◌∷◌, ◌++◌, length, if◌then◌else◌}
use Rattle.std.specs.Int.{from_be_bytes, w32}
use Rattle.std.specs.List.{AllZip}
use Rattle.answer_journal.specs.Frames.{shadowj1, shadowj2}
use Rattle.bank_tables.specs.Tables.{Tables}
use Rattle.exam_records.specs.Spelling.{entry_bytes, old_entry_bytes}
use Rattle.form_model.specs.Plan.{Plan}
use Rattle.serving_model.specs.Seats.{first_band}
use Rattle.headline_model.specs.Legal.{IsLegal}
use Rattle.history_model.specs.declared.entry.Entry.{Entry}

-- payloads, each after an open gate (the byte 1) and its length in four bytes; the first other gate
-- ends them, whatever follows it
pub data Frames : List (List ℕ) → List ℕ → Type 0 where
  ended : (gate : ℕ) (rest : List ℕ) → (gate ≡ 1 → ⊥) → Frames [] (gate ∷ rest)
  framed : (a b c d : ℕ) (payload rest : List ℕ) (payloads : List (List ℕ))
      → length payload ≡ from_be_bytes w32 (a ∷ b ∷ c ∷ d ∷ []) → Frames payloads rest
      → Frames (payload ∷ payloads) (1 ∷ a ∷ b ∷ c ∷ d ∷ (payload ++ rest))

-- the file holds these payloads of a version: it has no more than a header; or it is of the first
-- version, or of the second; or it was moved from the first to the second by a payload that is the
-- byte 8, and then those after it count
pub data Holds : List ℕ → ℕ → List (List ℕ) → Type 0 where
  new : (file : List ℕ) → length file ≤ 9 → Holds file 2 []
  first : (rest : List ℕ) (payloads : List (List ℕ)) → Frames payloads rest
      → Holds (shadowj1.bytes ++ rest) 1 payloads
  second : (rest : List ℕ) (payloads : List (List ℕ)) → Frames payloads rest
      → Holds (shadowj2.bytes ++ rest) 2 payloads
  moved : (rest : List ℕ) (old payloads : List (List ℕ))
      → Frames (old ++ (8 ∷ []) ∷ payloads) rest → Holds (shadowj1.bytes ++ rest) 2 payloads

-- the payload spells the entry by its version; a proof tree may follow
abbrev pub Spells : Tables → Plan → ℕ → Entry → List ℕ → Type 0
Spells b plan version entry payload = (tree : List ℕ) × (payload ≡ (if version == 1
    then old_entry_bytes (first_band b plan) entry else entry_bytes entry) ++ tree)

-- the file holds the history, which is legal, by records of this version
pub record HoldsHistory (b : Tables) (plan : Plan) (version : ℕ) (H : List Entry)
    (file : List ℕ) : Type 0 where
  pub payloads : List (List ℕ)
  pub holds : Holds file version payloads
  pub spell : AllZip (Spells b plan version) H payloads
  pub legal : IsLegal b plan H
