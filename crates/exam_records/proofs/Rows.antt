-- The definitions, computed on records whose bytes were worked out by hand, and on payloads with
-- one thing wrong.
use Rattle.std.proofs.Common.{◌≡◌, ℕ, true, List, [], ◌∷◌, ◌++◌, length, take, None, Some, Ok, Err, refl}
use Rattle.std.specs.Prelude.{replicate}
use Rattle.bank_tables.specs.Items.{has}
use Rattle.certificate_model.specs.declared.node.Node.TheVariants.{Bound, Open}
use Rattle.certificate_model.specs.ProofTrees.{ProofTree}
use Rattle.history_model.specs.declared.entry.Cause.TheVariants.{Spent}
use Rattle.history_model.specs.declared.entry.Entry.TheVariants.{Started, SetAside, Served, Answered, Closed}
use Rattle.proof_tree.specs.declared.fault.TreeFault.TheVariants as tree
use Rattle.proof_tree.specs.Spelling.{bytes_of}
use Rattle.proof_tree.specs.Reading.{pair_at, pairs_at, multipliers_at, vectors_at, bound_at, node_of_kind, node_at, nodes_at, read}
use Rattle.exam_records.specs.declared.fault.RecordFault.TheVariants.{Short, Kind, Field, Tree, Extra}
use Rattle.history_model.specs.Judging.{Record}
use Rattle.exam_records.specs.Sets.{number_of, numbers_of, items_at}
use Rattle.exam_records.specs.Old.{one_band}
use Rattle.exam_records.specs.Spelling.{sets_bytes, entry_bytes, payload_of, old_entry_bytes, old_payload_of}
use Rattle.exam_records.specs.Reading.{set_at, flag_at, count_at, band_at, bands_of, bands_at, tree_at, served, answered, shared_of_kind, record_by, started, set_aside, record_of_kind, record_of, old_started, old_set_aside, old_record_of_kind, old_record_of}

-- ---- session 0 starts for booking 70, with the items 0 to 5 eligible: 77 bytes

first : Record
first = record { entry = Started 0 70 (one_band (63 ∷ 0 ∷ 0 ∷ 0 ∷ 0 ∷ 0 ∷ 0 ∷ 0 ∷ [])) None; tree = None }

first_bytes : List ℕ
first_bytes = 1 ∷ 0 ∷ 0 ∷ 0 ∷ 0 ∷ 0 ∷ 0 ∷ 0 ∷ 0 ∷ 0 ∷ 0 ∷ 0 ∷ 70 ∷ 63 ∷ replicate 63 0

first_spelled : old_payload_of 0 first ≡ first_bytes
unfolding first first_bytes old_payload_of old_entry_bytes numbers_of number_of has
first_spelled = refl

first_length : length first_bytes ≡ 77
unfolding first_bytes
first_length = refl

first_read : old_record_of first_bytes ≡ Ok first
unfolding first first_bytes old_record_of record_by old_record_of_kind old_started set_at items_at numbers_of number_of
first_read = refl

-- ---- the same in the second version: 78 bytes

first_now : List ℕ
first_now = 6 ∷ 0 ∷ 0 ∷ 0 ∷ 0 ∷ 0 ∷ 0 ∷ 0 ∷ 0 ∷ 0 ∷ 0 ∷ 0 ∷ 70 ∷ 1 ∷ 63 ∷ replicate 63 0

first_is_spelled : payload_of first ≡ first_now
unfolding first first_now payload_of entry_bytes sets_bytes numbers_of number_of has
first_is_spelled = refl

first_now_length : length first_now ≡ 78
unfolding first_now
first_now_length = refl

first_is_read : record_of first_now ≡ Ok first
unfolding first first_now record_of record_by record_of_kind started bands_at count_at set_at items_at numbers_of number_of
first_is_read = refl

-- ---- the items 0 to 5 are eligible in band 0 and item 0 in band 1: the set of band 0 is first

two_bands : Record
two_bands = record { entry = Started 0 71 (bands_of 2 ((63 ∷ 0 ∷ 0 ∷ 0 ∷ 0 ∷ 0 ∷ 0 ∷ 0 ∷ []) ∷ (1 ∷ 0 ∷ 0 ∷ 0 ∷ 0 ∷ 0 ∷ 0 ∷ 0 ∷ []) ∷ [])) None; tree = None }

-- with what follows the booking
start_with : List ℕ → List ℕ
start_with behind = 6 ∷ 0 ∷ 0 ∷ 0 ∷ 0 ∷ 0 ∷ 0 ∷ 0 ∷ 0 ∷ 0 ∷ 0 ∷ 0 ∷ 71 ∷ behind

two_bytes : List ℕ
two_bytes = start_with (2 ∷ 63 ∷ (replicate 63 0 ++ 1 ∷ replicate 63 0))

two_spelled : payload_of two_bands ≡ two_bytes
unfolding two_bands start_with two_bytes payload_of entry_bytes sets_bytes numbers_of number_of has
two_spelled = refl

two_read : record_of two_bytes ≡ Ok two_bands
unfolding two_bands start_with two_bytes record_of record_by record_of_kind started bands_at count_at set_at items_at numbers_of number_of
two_read = refl

-- a number of bands out of range is reported before what is cut off after it
no_bands : record_of (start_with (0 ∷ [])) ≡ Err (Field 13)
unfolding start_with record_of record_by record_of_kind started bands_at count_at
no_bands = refl

nine_bands : record_of (start_with (9 ∷ [])) ≡ Err (Field 13)
unfolding start_with record_of record_by record_of_kind started bands_at count_at
nine_bands = refl

-- the second set ends a byte early
two_cut : record_of (take 141 two_bytes) ≡ Err Short
unfolding start_with two_bytes record_of record_by record_of_kind started bands_at count_at set_at items_at numbers_of number_of
two_cut = refl

-- a set more than the number of bands
two_and_more : record_of (start_with (1 ∷ 63 ∷ (replicate 63 0 ++ 1 ∷ replicate 63 0))) ≡ Err (Extra 78)
unfolding start_with record_of record_by record_of_kind started bands_at count_at set_at items_at numbers_of number_of
two_and_more = refl

-- ---- item 2 is served at step 0 of session 0 from the form of the items 1 to 3, proved best by a
-- tree of one leaf

one_leaf : ProofTree
one_leaf = record { vectors = ((3, 1) ∷ []) ∷ []; nodes = Bound 0 ∷ [] }

leaf_bytes : List ℕ
leaf_bytes = 1 ∷ 0 ∷ 1 ∷ 0 ∷ 3 ∷ 0 ∷ 0 ∷ 0 ∷ 1 ∷ 3 ∷ 0 ∷ []

second : Record
unfolding one_leaf
second = record { entry = Served 0 0 2 (14 ∷ 0 ∷ 0 ∷ 0 ∷ 0 ∷ 0 ∷ 0 ∷ 0 ∷ []) true 1; tree = Some one_leaf }

-- with this mark, number of nodes and tree
second_with : List ℕ → List ℕ
second_with behind = 3 ∷ 0 ∷ 0 ∷ 0 ∷ 0 ∷ 0 ∷ 0 ∷ 0 ∷ 2 ∷ 14 ∷ (replicate 63 0 ++ behind)

second_bytes : List ℕ
second_bytes = second_with (1 ∷ 0 ∷ 1 ∷ leaf_bytes)

second_spelled : old_payload_of 0 second ≡ second_bytes
unfolding one_leaf leaf_bytes second second_with second_bytes old_payload_of old_entry_bytes numbers_of number_of has bytes_of
second_spelled = refl

second_read : old_record_of second_bytes ≡ Ok second
unfolding one_leaf leaf_bytes second second_with second_bytes old_record_of record_by old_record_of_kind shared_of_kind served set_at flag_at tree_at items_at numbers_of number_of read vectors_at multipliers_at pairs_at pair_at nodes_at node_at node_of_kind bound_at
second_read = refl

second_is_spelled : payload_of second ≡ second_bytes
unfolding one_leaf leaf_bytes second second_with second_bytes payload_of entry_bytes numbers_of number_of has bytes_of
second_is_spelled = refl

-- a mark of 2 is reported before what is cut off after it
mark_2 : old_record_of (second_with (2 ∷ [])) ≡ Err (Field 73)
unfolding second_with old_record_of record_by old_record_of_kind shared_of_kind served set_at flag_at items_at numbers_of number_of
mark_2 = refl

-- the number of nodes is known once the tree is read, and is reported before what follows the
-- record
two_nodes : old_record_of (second_with (1 ∷ 0 ∷ 2 ∷ (leaf_bytes ++ 9 ∷ []))) ≡ Err (Field 74)
unfolding one_leaf leaf_bytes second_with old_record_of record_by old_record_of_kind shared_of_kind served set_at flag_at tree_at items_at numbers_of number_of read vectors_at multipliers_at pairs_at pair_at nodes_at node_at node_of_kind bound_at
two_nodes = refl

-- a fault of the tree is reported before its number of nodes, with its place in the tree
kind_9 : old_record_of (second_with (1 ∷ 0 ∷ 2 ∷ 0 ∷ 9 ∷ [])) ≡ Err (Tree (tree.BadKind 1))
unfolding second_with old_record_of record_by old_record_of_kind shared_of_kind served set_at flag_at tree_at items_at numbers_of number_of read vectors_at nodes_at node_at node_of_kind
kind_9 = refl

no_tree : old_record_of (second_with (1 ∷ 0 ∷ 1 ∷ [])) ≡ Err (Tree tree.Short)
unfolding second_with old_record_of record_by old_record_of_kind shared_of_kind served set_at flag_at tree_at items_at numbers_of number_of read
no_tree = refl

-- ---- eligibility set aside for session 0, as the search was spent with one open node

aside : Record
aside = record { entry = SetAside 0 0 0 Spent 1; tree = Some (record { vectors = []; nodes = Open ∷ [] }) }

aside_bytes : List ℕ
aside_bytes = 2 ∷ 0 ∷ 0 ∷ 0 ∷ 0 ∷ 1 ∷ 0 ∷ 1 ∷ 0 ∷ 7 ∷ []

aside_spelled : old_payload_of 0 aside ≡ aside_bytes
unfolding aside aside_bytes old_payload_of old_entry_bytes bytes_of
aside_spelled = refl

aside_read : old_record_of aside_bytes ≡ Ok aside
unfolding aside aside_bytes old_record_of record_by old_record_of_kind old_set_aside flag_at tree_at read vectors_at nodes_at node_at node_of_kind
aside_read = refl

cause_2 : old_record_of (2 ∷ 0 ∷ 0 ∷ 0 ∷ 0 ∷ 2 ∷ []) ≡ Err (Field 5)
unfolding old_record_of record_by old_record_of_kind old_set_aside flag_at
cause_2 = refl

-- ---- the same in the second version, at step 2 in band 1

aside_now : Record
aside_now = record { entry = SetAside 0 2 1 Spent 1; tree = Some (record { vectors = []; nodes = Open ∷ [] }) }

aside_now_bytes : List ℕ
aside_now_bytes = 7 ∷ 0 ∷ 0 ∷ 0 ∷ 0 ∷ 0 ∷ 2 ∷ 1 ∷ 1 ∷ 0 ∷ 1 ∷ 0 ∷ 7 ∷ []

aside_is_spelled : payload_of aside_now ≡ aside_now_bytes
unfolding aside_now aside_now_bytes payload_of entry_bytes bytes_of
aside_is_spelled = refl

aside_is_read : record_of aside_now_bytes ≡ Ok aside_now
unfolding aside_now aside_now_bytes record_of record_by record_of_kind set_aside band_at flag_at tree_at read vectors_at nodes_at node_at node_of_kind
aside_is_read = refl

-- a band out of range, and a cause, are reported before what is cut off after them
band_8 : record_of (7 ∷ 0 ∷ 0 ∷ 0 ∷ 0 ∷ 0 ∷ 2 ∷ 8 ∷ []) ≡ Err (Field 7)
unfolding record_of record_by record_of_kind set_aside band_at
band_8 = refl

cause_3 : record_of (7 ∷ 0 ∷ 0 ∷ 0 ∷ 0 ∷ 0 ∷ 2 ∷ 7 ∷ 3 ∷ []) ≡ Err (Field 8)
unfolding record_of record_by record_of_kind set_aside band_at flag_at
cause_3 = refl

-- ---- step 0 of session 0 answered with response 1

third : Record
third = record { entry = Answered 0 0 1; tree = None }

third_bytes : List ℕ
third_bytes = 4 ∷ 0 ∷ 0 ∷ 0 ∷ 0 ∷ 0 ∷ 0 ∷ 1 ∷ []

third_spelled : old_payload_of 0 third ≡ third_bytes
unfolding third third_bytes old_payload_of old_entry_bytes
third_spelled = refl

third_read : old_record_of third_bytes ≡ Ok third
unfolding third third_bytes old_record_of record_by old_record_of_kind shared_of_kind answered
third_read = refl

third_is_read : record_of third_bytes ≡ Ok third
unfolding third third_bytes record_of record_by record_of_kind shared_of_kind answered
third_is_read = refl

third_cut : old_record_of (take 7 third_bytes) ≡ Err Short
unfolding third_bytes old_record_of record_by old_record_of_kind shared_of_kind answered
third_cut = refl

third_and_more : old_record_of (third_bytes ++ 0 ∷ []) ≡ Err (Extra 8)
unfolding third_bytes old_record_of record_by old_record_of_kind shared_of_kind answered
third_and_more = refl

-- ---- and the rest

kind_6 : old_record_of (6 ∷ []) ≡ Err (Kind 0)
unfolding old_record_of record_by old_record_of_kind shared_of_kind
kind_6 = refl

short_6 : record_of (6 ∷ []) ≡ Err Short
unfolding record_of record_by record_of_kind started
short_6 = refl

kind_1 : record_of (1 ∷ []) ≡ Err (Kind 0)
unfolding record_of record_by record_of_kind shared_of_kind
kind_1 = refl

-- the byte of a move
kind_8 : record_of (8 ∷ []) ≡ Err (Kind 0)
unfolding record_of record_by record_of_kind shared_of_kind
kind_8 = refl

no_bytes : old_record_of [] ≡ Err Short
unfolding old_record_of record_by
no_bytes = refl

-- item 511 is the highest bit of the last byte
last_item : old_payload_of 0 (record { entry = Started 1 0 (one_band (0 ∷ 0 ∷ 0 ∷ 0 ∷ 0 ∷ 0 ∷ 0 ∷ 9223372036854775808 ∷ [])) None; tree = None }) ≡ 1 ∷ 0 ∷ 0 ∷ 0 ∷ 1 ∷ 0 ∷ 0 ∷ 0 ∷ 0 ∷ 0 ∷ 0 ∷ 0 ∷ 0 ∷ (replicate 63 0 ++ 128 ∷ [])
unfolding old_payload_of old_entry_bytes numbers_of number_of has
last_item = refl

close : old_payload_of 0 (record { entry = Closed 258; tree = None }) ≡ 5 ∷ 0 ∷ 0 ∷ 1 ∷ 2 ∷ []
unfolding old_payload_of old_entry_bytes
close = refl
