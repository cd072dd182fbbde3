-- Where a reader is in the file of a journal that grows.
use Rattle.std.specs.Prelude.{◌≡◌, ℕ, ◌+◌, ◌≤◌, Bool, Option, List, length, slice_get, take, Some, ⊤}
use Rattle.answer_journal.specs.Frames.{IsPayload}
use Rattle.answer_journal.specs.Payload.{end_of}
use Rattle.journal_stream.specs.Served.{IsOpened, first_of}
use Rattle.journal_stream.specs.declared.look.Look.{Look}
use Rattle.journal_stream.specs.declared.look.Look.TheVariants.{Record, Closed, Unsettled}

-- the gate of the record of this number, settled or the next one to be, is at this place of a file
-- that a server has opened
pub record IsGateOf (moved : Option (List (List ℕ))) (settled : List (List ℕ)) (number at : ℕ)
    : Type 0 where
  pub some : number ≤ length settled
  pub place : at ≡ end_of (first_of moved) (take number settled)
  pub sure : IsOpened moved settled

-- what was found at the gate of the record of this number: that record, which is settled; a closed
-- gate, so that there is no such record; or nothing is known
abbrev pub Finds : List (List ℕ) → ℕ → Look → Type 0
Finds settled number (Record payload) = slice_get settled number ≡ Some payload.items
Finds settled number Closed = length settled ≡ number
Finds settled number Unsettled = ⊤

-- the payload that was found is one that an offer can carry
abbrev pub IsFitting : Look → Type 0
IsFitting (Record payload) = IsPayload payload.items
IsFitting Closed = ⊤
IsFitting Unsettled = ⊤

-- the number of the record that is read next, after one of this number was looked for
abbrev pub number_after : ℕ → Look → ℕ
number_after number (Record payload) = number + 1
number_after number Closed = number
number_after number Unsettled = number

-- the file, the place of its first gate once that is found, whether a server has opened it for
-- sure, the number of the record that is read next, the place of its gate, and how many records are
-- settled for sure
pub record TailState (F : Type 0) : Type 0 where
  pub file : F
  pub found : Option ℕ
  pub begun : Bool
  pub number : ℕ
  pub at : ℕ
  pub told : ℕ
