-- What is after a gate.
use Rattle.std.specs.Prelude.{◌≡◌, ◌≢◌, ℕ, ◌+◌, ◌≤◌, List, ◌∷◌, ◌++◌, length, take, get_or, ⊤}
use Rattle.std.specs.Int.{to_be_bytes, w32}
use Rattle.answer_journal.specs.Frames.{IsPayload}
use Rattle.answer_journal.specs.Reading.{length_at}
use Rattle.journal_stream.specs.declared.look.Head.{Head}
use Rattle.journal_stream.specs.declared.look.Head.TheVariants.{Closed, Payload, Unknown}
use Rattle.journal_stream.specs.declared.look.Look.{Look}
use Rattle.journal_stream.specs.declared.look.Look.TheVariants as look

-- what the first bytes from a gate on begin
abbrev pub IsHead : List ℕ → Head → Type 0
IsHead head Closed = get_or head 0 0 ≢ 1
IsHead head (Payload size) =
    (get_or head 0 0 ≡ 1) × (1 ≤ size) × (size ≤ 131072) × (size ≡ length_at head 0)
IsHead head Unknown = ⊤

-- bytes from a gate on begin with an open gate, this payload's length and the payload, and are at
-- least so many more
pub record HasFrame (bytes payload : List ℕ) (more : ℕ) : Type 0 where
  pub frame : take (length payload + 5) bytes ≡ 1 ∷ (to_be_bytes w32 (length payload) ++ payload)
  pub long : length payload + 5 + more ≤ length bytes

-- a record in bytes from its gate on, which are at least so many more; or none
abbrev pub IsReadFrom : List ℕ → ℕ → Look → Type 0
IsReadFrom bytes more (look.Record payload) =
    HasFrame bytes payload.items more × IsPayload payload.items
IsReadFrom bytes more look.Closed = ⊥
IsReadFrom bytes more look.Unsettled = ⊤
