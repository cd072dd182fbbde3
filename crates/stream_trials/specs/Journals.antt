-- A journal in memory, as a file that its server writes.
use Rattle.std.specs.Prelude.{◌==◌, ◌&&◌, ℕ, Bool, true, false, nat_le}
use Rattle.std.specs.Prelude.{List, [], ◌∷◌, ◌++◌, length, map}
use Rattle.answer_journal.specs.Frames.{front, shadowj2}
use Rattle.stream_trials.specs.declared.memory_journal.MemoryJournal.{MemoryJournal}

-- the payloads of its records
abbrev pub payloads_of : MemoryJournal → List (List ℕ)
payloads_of j = map (λ v. v.items) j.records.items

-- whether each can be the payload of a frame
abbrev pub are_payloads : List (List ℕ) → Bool
are_payloads [] = true
are_payloads (p ∷ ps) = (nat_le 1 (length p) && nat_le (length p) 131072) && are_payloads ps

-- whether two texts are the same
abbrev pub is_same : List ℕ → List ℕ → Bool
is_same [] [] = true
is_same [] (b ∷ m) = false
is_same (a ∷ l) [] = false
is_same (a ∷ l) (b ∷ m) = (a == b) && is_same l m

-- whether its bytes are those of a journal of these records, with a closed gate at the end
abbrev pub is_whole : MemoryJournal → Bool
is_whole j =
    are_payloads (payloads_of j) && is_same j.content.items (front shadowj2 (payloads_of j) ++ 0 ∷ [])
