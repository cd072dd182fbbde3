-- Reading a payload from left to right, up to the first fault, which is reported with the place of
-- the field that has it.
use Rattle.std.specs.Prelude.{ℕ, ◌+◌, ◌-◌, ◌*◌, ◌==◌, ◌||◌, not, Bool, true, false, nat_lt, List, ◌++◌, replicate, length, drop, Some, None, Result, Ok, Err, if◌then◌else◌}
use Rattle.std.specs.Int.{w16, w32, w64}
use Rattle.bank_tables.specs.Items.{has}
use Rattle.bank_tables.specs.Sums.{any_below}
use Rattle.exam_text.specs.First.{◌>>=◌, unless, fault_where, each_below}
use Rattle.certificate_model.specs.ProofTrees.{ProofTree}
use Rattle.history_model.specs.declared.entry.Bands.{Bands}
use Rattle.history_model.specs.declared.entry.Cause.{Cause}
use Rattle.history_model.specs.declared.entry.Cause.TheVariants.{NoForm, Spent}
use Rattle.history_model.specs.declared.entry.Entry.TheVariants.{Started, SetAside, Served, Answered, Closed}
use Rattle.history_model.specs.declared.entry.Without.{Without}
use Rattle.proof_tree.specs.declared.fault.TreeFault.{TreeFault}
use Rattle.proof_tree.specs.Reading.{number_at, byte_at, read}
use Rattle.exam_records.specs.declared.fault.RecordFault.{RecordFault}
use Rattle.exam_records.specs.declared.fault.RecordFault.TheVariants.{Short, Kind, Field, Tree, Extra}
use Rattle.history_model.specs.Judging.{Record}
use Rattle.exam_records.specs.Sets.{words_of, items_at, no_items}
use Rattle.exam_records.specs.Old.{one_band}

-- a field before the tree: where it isn't whole, the payload is short
abbrev pub field : {A : Type 0} → Result A TreeFault → Result A RecordFault
field (Ok x) = Ok x
field (Err fault) = Err Short

-- the tree's own faults, with places from the tree's first byte on
abbrev pub of_tree : {A : Type 0} → Result A TreeFault → Result A RecordFault
of_tree (Ok x) = Ok x
of_tree (Err fault) = Err (Tree fault)

-- a set of items in 64 bytes
unfoldable pub set_at : List ℕ → ℕ → Result (List ℕ) RecordFault
set_at bytes at =
    if nat_lt (length bytes) (at + 64) then Err Short else Ok (words_of (items_at bytes at))

-- a byte that is 1 or 0
unfoldable pub flag_at : List ℕ → ℕ → Result Bool RecordFault
flag_at bytes at = do
  byte ← field (byte_at bytes at)
  unless (fault_where (nat_lt 1 byte) (Field at)) (Ok (byte == 1))

-- a byte that is a number of bands, 1 to 8
unfoldable pub count_at : List ℕ → ℕ → Result ℕ RecordFault
count_at bytes at = do
  count ← field (byte_at bytes at)
  unless (fault_where ((count == 0) || nat_lt 8 count) (Field at)) (Ok count)

-- a byte that is a band, 0 to 7
unfoldable pub band_at : List ℕ → ℕ → Result ℕ RecordFault
band_at bytes at = do
  band ← field (byte_at bytes at)
  unless (fault_where (nat_lt 7 band) (Field at)) (Ok band)

-- the sets of so many bands, and no items in the bands past them
abbrev pub bands_of : ℕ → List (List ℕ) → Bands
bands_of count sets = record { count = count; sets = sets ++ replicate (8 - count) no_items }

-- bands: their number, and a set for each
unfoldable pub bands_at : List ℕ → ℕ → Result Bands RecordFault
bands_at bytes at = do
  count ← count_at bytes at
  sets ← each_below count (λ band. set_at bytes (at + 1 + 64 * band))
  Ok (bands_of count sets)

-- a set that isn't empty
unfoldable pub some_set_at : List ℕ → ℕ → Result (List ℕ) RecordFault
some_set_at bytes at = do
  words ← set_at bytes at
  unless (fault_where (not (any_below 512 (has words))) (Field at)) (Ok words)

-- a list of items that the examinee must not get: the items, and the form without them
unfoldable pub list_at : List ℕ → ℕ → Result Without RecordFault
list_at bytes at = do
  items ← some_set_at bytes at
  form ← set_at bytes (at + 64)
  Ok (record { items = items; form = form })

-- why eligibility was set aside
abbrev pub cause_of : Bool → Cause
cause_of true = Spent
cause_of false = NoForm

-- a tree, and the place after it; the two bytes before it are the number of its nodes
unfoldable pub tree_at : ℕ → List ℕ → ℕ → Result (ProofTree × ℕ) RecordFault
tree_at nodes bytes at = do
  found ← of_tree (read (drop at bytes))
  unless (fault_where (not (nodes == length found.0.nodes)) (Field (at - 2)))
      (Ok (found.0, at + found.1))

-- ---- each kind of record after its first byte, and the place after it

unfoldable pub served : List ℕ → Result (Record × ℕ) RecordFault
served bytes = do
  session ← field (number_at w32 bytes 1)
  step ← field (number_at w16 bytes 5)
  item ← field (number_at w16 bytes 7)
  form ← set_at bytes 9
  proved ← flag_at bytes 73
  nodes ← field (number_at w16 bytes 74)
  found ← tree_at nodes bytes 76
  Ok (record { entry = Served session step item form proved nodes; tree = Some found.0 }, found.1)

unfoldable pub answered : List ℕ → Result (Record × ℕ) RecordFault
answered bytes = do
  session ← field (number_at w32 bytes 1)
  step ← field (number_at w16 bytes 5)
  response ← field (byte_at bytes 7)
  Ok (record { entry = Answered session step response; tree = None }, 8)

unfoldable pub closed : List ℕ → Result (Record × ℕ) RecordFault
closed bytes = do
  session ← field (number_at w32 bytes 1)
  Ok (record { entry = Closed session; tree = None }, 5)

-- what follows a kind that is the same in both versions of the journal
unfoldable pub shared_of_kind : ℕ → List ℕ → Result (Record × ℕ) RecordFault
shared_of_kind kind bytes =
    if kind == 3 then served bytes else
    (if kind == 4 then answered bytes else
    (if kind == 5 then closed bytes else Err (Kind 0)))

-- the record of a payload, by what follows each kind: nothing may follow it
unfoldable pub record_by : (ℕ → List ℕ → Result (Record × ℕ) RecordFault) → List ℕ
    → Result Record RecordFault
record_by record_of_kind payload = do
  kind ← field (byte_at payload 0)
  found ← record_of_kind kind payload
  unless (fault_where (nat_lt found.1 (length payload)) (Extra found.1)) (Ok found.0)

-- ---- the second version of the journal

unfoldable pub started : List ℕ → Result (Record × ℕ) RecordFault
started bytes = do
  session ← field (number_at w32 bytes 1)
  booking ← field (number_at w64 bytes 5)
  eligible ← bands_at bytes 13
  Ok (
    record { entry = Started session booking eligible None; tree = None },
    14 + 64 * eligible.count,
  )

-- with a list
unfoldable pub started_with_list : List ℕ → Result (Record × ℕ) RecordFault
started_with_list bytes = do
  session ← field (number_at w32 bytes 1)
  booking ← field (number_at w64 bytes 5)
  eligible ← bands_at bytes 13
  list ← list_at bytes (14 + 64 * eligible.count)
  Ok (
    record { entry = Started session booking eligible (Some list); tree = None },
    14 + 64 * eligible.count + 128,
  )

unfoldable pub set_aside : List ℕ → Result (Record × ℕ) RecordFault
set_aside bytes = do
  session ← field (number_at w32 bytes 1)
  step ← field (number_at w16 bytes 5)
  band ← band_at bytes 7
  spent ← flag_at bytes 8
  nodes ← field (number_at w16 bytes 9)
  found ← tree_at nodes bytes 11
  Ok (
    record {
      entry = SetAside session step band (cause_of spent) nodes;
      tree = Some found.0;
    },
    found.1,
  )

-- what follows the kind of a record
unfoldable pub record_of_kind : ℕ → List ℕ → Result (Record × ℕ) RecordFault
record_of_kind kind bytes =
    if kind == 6 then started bytes else
    (if kind == 7 then set_aside bytes else
    (if kind == 9 then started_with_list bytes else shared_of_kind kind bytes))

-- the record of a payload
unfoldable pub record_of : List ℕ → Result Record RecordFault
record_of payload = record_by record_of_kind payload

-- ---- the first version of the journal

unfoldable pub old_started : List ℕ → Result (Record × ℕ) RecordFault
old_started bytes = do
  session ← field (number_at w32 bytes 1)
  booking ← field (number_at w64 bytes 5)
  eligible ← set_at bytes 13
  Ok (record { entry = Started session booking (one_band eligible) None; tree = None }, 77)

unfoldable pub old_set_aside : List ℕ → Result (Record × ℕ) RecordFault
old_set_aside bytes = do
  session ← field (number_at w32 bytes 1)
  spent ← flag_at bytes 5
  nodes ← field (number_at w16 bytes 6)
  found ← tree_at nodes bytes 8
  Ok (record { entry = SetAside session 0 0 (cause_of spent) nodes; tree = Some found.0 }, found.1)

-- what follows the kind of a record
unfoldable pub old_record_of_kind : ℕ → List ℕ → Result (Record × ℕ) RecordFault
old_record_of_kind kind bytes =
    if kind == 1 then old_started bytes else
    (if kind == 2 then old_set_aside bytes else shared_of_kind kind bytes)

-- the record of a payload, with one band, and no step and band of setting aside
unfoldable pub old_record_of : List ℕ → Result Record RecordFault
old_record_of payload = record_by old_record_of_kind payload
