-- The one spelling of each record in bytes; numbers are big-endian.
use Rattle.std.specs.Prelude.{ℕ, zero, suc, ◌+◌, ◌*◌, ◌-◌, List, [], ◌∷◌, ◌++◌, Bool, true, false, Option, Some, None}
use Rattle.std.specs.Int.{w16, w32, w64, to_be_bytes}
use Rattle.bank_tables.specs.Items.{has}
use Rattle.certificate_model.specs.ProofTrees.{ProofTree}
use Rattle.history_model.specs.declared.entry.Cause.{Cause}
use Rattle.history_model.specs.declared.entry.Cause.TheVariants.{NoForm, Spent}
use Rattle.history_model.specs.declared.entry.Entry.{Entry}
use Rattle.history_model.specs.declared.entry.Entry.TheVariants.{Started, SetAside, Served, Answered, Closed}
use Rattle.history_model.specs.declared.entry.Without.{Without}
use Rattle.history_model.specs.Entries.{items_in}
use Rattle.proof_tree.specs.Spelling.{bytes_of}
use Rattle.history_model.specs.Judging.{Record}
use Rattle.exam_records.specs.Sets.{set_bytes}

-- why eligibility was set aside, in one byte
abbrev pub cause_byte : Cause → ℕ
cause_byte NoForm = 0
cause_byte Spent = 1

-- whether the form was proved best, in one byte
abbrev pub mark_byte : Bool → ℕ
mark_byte true = 1
mark_byte false = 0

-- ---- the entries that have the same bytes in each version of the journal
abbrev pub served_bytes : ℕ → ℕ → ℕ → List ℕ → Bool → ℕ → List ℕ
served_bytes session step item form proved nodes =
    3 ∷ (to_be_bytes w32 session ++ (to_be_bytes w16 step ++ (to_be_bytes w16 item
    ++ (set_bytes (has form) ++ mark_byte proved ∷ to_be_bytes w16 nodes))))

abbrev pub answered_bytes : ℕ → ℕ → ℕ → List ℕ
answered_bytes session step response =
    4 ∷ (to_be_bytes w32 session ++ (to_be_bytes w16 step ++ response ∷ []))

abbrev pub closed_bytes : ℕ → List ℕ
closed_bytes session = 5 ∷ to_be_bytes w32 session

-- the bytes of the tree, if there is one
abbrev pub tree_bytes : Option ProofTree → List ℕ
tree_bytes None = []
tree_bytes (Some T) = bytes_of T

-- ---- the second version of the journal

-- the sets of so many bands, one after the other
unfoldable pub sets_bytes : ℕ → List (List ℕ) → List ℕ
sets_bytes zero sets = []
sets_bytes (suc band) sets = sets_bytes band sets ++ set_bytes (items_in sets band)

-- a list of items that the examinee must not get: the items, and the form without them
unfoldable pub list_bytes : Without → List ℕ
list_bytes list = set_bytes (has list.items) ++ set_bytes (has list.form)

-- the kind of the entry in one byte, and its fields; a start with a list has a kind of its own
unfoldable pub entry_bytes : Entry → List ℕ
entry_bytes (Started session booking eligible None) =
    6 ∷ (to_be_bytes w32 session ++ (to_be_bytes w64 booking
    ++ eligible.count ∷ sets_bytes eligible.count eligible.sets))
entry_bytes (Started session booking eligible (Some list)) =
    9 ∷ (to_be_bytes w32 session ++ (to_be_bytes w64 booking
    ++ eligible.count ∷ (sets_bytes eligible.count eligible.sets ++ list_bytes list)))
entry_bytes (SetAside session step band cause nodes) =
    7 ∷ (to_be_bytes w32 session ++ (to_be_bytes w16 step
    ++ band ∷ cause_byte cause ∷ to_be_bytes w16 nodes))
entry_bytes (Served session step item form proved nodes) =
    served_bytes session step item form proved nodes
entry_bytes (Answered session step response) = answered_bytes session step response
entry_bytes (Closed session) = closed_bytes session

-- the payload of a record: the entry, and the tree after it
unfoldable pub payload_of : Record → List ℕ
payload_of r = entry_bytes r.entry ++ tree_bytes r.tree

-- ---- the first version of the journal

-- the kind of the entry in one byte, and its fields: of a start the eligible set of the band where
-- each session begins and no list, and of a setting aside neither the step nor the band
unfoldable pub old_entry_bytes : ℕ → Entry → List ℕ
old_entry_bytes first (Started session booking eligible without) =
    1 ∷ (to_be_bytes w32 session
    ++ (to_be_bytes w64 booking ++ set_bytes (items_in eligible.sets first)))
old_entry_bytes first (SetAside session step band cause nodes) =
    2 ∷ (to_be_bytes w32 session ++ cause_byte cause ∷ to_be_bytes w16 nodes)
old_entry_bytes first (Served session step item form proved nodes) =
    served_bytes session step item form proved nodes
old_entry_bytes first (Answered session step response) = answered_bytes session step response
old_entry_bytes first (Closed session) = closed_bytes session

-- the payload of a record: the entry, and the tree after it
unfoldable pub old_payload_of : ℕ → Record → List ℕ
old_payload_of first r = old_entry_bytes first r.entry ++ tree_bytes r.tree

-- by how many bytes the second version has more of an entry than the first
abbrev pub more_bytes : Entry → ℕ
more_bytes (Started session booking eligible None) = 64 * eligible.count - 63
more_bytes (Started session booking eligible (Some list)) = 64 * eligible.count + 65
more_bytes (SetAside session step band cause nodes) = 3
more_bytes entry = 0
