-- Reading a series tree from left to right, up to the first fault, with the place where the faulty
-- field or node begins.
use Rattle.std.specs.Prelude.{ℕ, zero, suc, ◌+◌, ◌-◌, not, ◌||◌, ◌==◌, nat_lt, nat_le, List, [], ◌∷◌, length, Result, Ok, Err, if◌then◌else◌}
use Rattle.std.specs.Int.{w16, w32}
use Rattle.exam_text.specs.First.{◌>>=◌, unless, fault_where}
use Rattle.certificate_model.specs.Relaxed.{Multipliers}
use Rattle.proof_tree.specs.declared.fault.TreeFault.{TreeFault}
use Rattle.proof_tree.specs.declared.fault.TreeFault.TheVariants.{BadKind, BadVector, Unfinished, TooLong}
use Rattle.proof_tree.specs.Reading.{number_at, byte_at}
use Rattle.series_model.specs.declared.node.SeriesNode.{SeriesNode}
use Rattle.series_model.specs.declared.node.SeriesNode.TheVariants.{Branch, Bound, Ray, Count, Whole, Open, Use, Twin}
use Rattle.series_model.specs.SeriesTrees.{Certificate, is_moderate}
use Rattle.series_model.specs.SeriesTrees.{children}

-- ---- vectors

-- a side from `low` on, and its multiplier
unfoldable pub pair_at : List ℕ → ℕ → ℕ → Result (ℕ × ℕ) TreeFault
pair_at bytes at low = do
  side ← number_at w16 bytes at
  unless (fault_where (nat_lt side low || nat_le 2315 side) (BadVector at)) (do
    multiplier ← number_at w32 bytes (at + 2)
    unless (fault_where (multiplier == 0) (BadVector (at + 2))) (Ok (side, multiplier)))

-- so many pairs, sides ascending from `low` on, and the place after them
unfoldable pub pairs_at : ℕ → List ℕ → ℕ → ℕ → Result (Multipliers × ℕ) TreeFault
pairs_at zero bytes at low = Ok ([], at)
pairs_at (suc count) bytes at low = do
  first ← pair_at bytes at low
  others ← pairs_at count bytes (at + 6) (first.0 + 1)
  Ok (first ∷ others.0, others.1)

-- the place of the first multiplier above 2 ^ 24 of pairs that begin at a place
abbrev pub first_large : Multipliers → ℕ → ℕ
first_large [] at = at
first_large (pair ∷ pairs) at = if nat_lt 16777216 pair.1 then at + 2 else first_large pairs (at + 6)

-- a vector of at most `room` pairs, and never more than 2,304, and the place after it; where it
-- names no side of the pool, a multiplier above 2 ^ 24 is a fault
unfoldable pub multipliers_at : ℕ → List ℕ → ℕ → Result (Multipliers × ℕ) TreeFault
multipliers_at room bytes at = do
  count ← number_at w16 bytes at
  unless (fault_where (nat_lt 2304 count || nat_lt room count) (BadVector at)) (do
    pairs ← pairs_at count bytes (at + 2) 0
    unless (fault_where (not (is_moderate pairs.0)) (BadVector (first_large pairs.0 (at + 2)))) (Ok pairs))

-- so many vectors of at most `room` pairs in all, and the place after them
unfoldable pub vectors_at : ℕ → ℕ → List ℕ → ℕ → Result (List Multipliers × ℕ) TreeFault
vectors_at room zero bytes at = Ok ([], at)
vectors_at room (suc count) bytes at = do
  first ← multipliers_at room bytes at
  others ← vectors_at (room - length first.0) count bytes first.1
  Ok (first.0 ∷ others.0, others.1)

-- ---- nodes

-- a number in one byte and below four: a form's
unfoldable pub form_at : List ℕ → ℕ → ℕ → Result ℕ TreeFault
form_at bytes at node = do
  form ← byte_at bytes at
  unless (fault_where (nat_le 4 form) (BadKind node)) (Ok form)

-- a number in two bytes and below 512: an item's
unfoldable pub item_at : List ℕ → ℕ → ℕ → Result ℕ TreeFault
item_at bytes at node = do
  item ← number_at w16 bytes at
  unless (fault_where (nat_le 512 item) (BadKind node)) (Ok item)

-- a node that begins at a place, with the place after it
unfoldable pub branch_at : List ℕ → ℕ → Result (SeriesNode × ℕ) TreeFault
branch_at bytes at = do
  form ← form_at bytes (at + 1) at
  item ← item_at bytes (at + 2) at
  Ok (Branch form item, at + 4)

unfoldable pub bound_at : List ℕ → ℕ → Result (SeriesNode × ℕ) TreeFault
bound_at bytes at = do
  vector ← byte_at bytes (at + 1)
  Ok (Bound vector, at + 2)

unfoldable pub ray_at : List ℕ → ℕ → Result (SeriesNode × ℕ) TreeFault
ray_at bytes at = do
  vector ← byte_at bytes (at + 1)
  Ok (Ray vector, at + 2)

unfoldable pub count_at : List ℕ → ℕ → Result (SeriesNode × ℕ) TreeFault
count_at bytes at = do
  form ← form_at bytes (at + 1) at
  row ← byte_at bytes (at + 2)
  unless (fault_where (nat_lt 192 row) (BadKind at)) (Ok (Count form row, at + 3))

unfoldable pub use_at : List ℕ → ℕ → Result (SeriesNode × ℕ) TreeFault
use_at bytes at = do
  item ← item_at bytes (at + 1) at
  Ok (Use item, at + 3)

unfoldable pub twin_at : List ℕ → ℕ → Result (SeriesNode × ℕ) TreeFault
twin_at bytes at = do
  form ← form_at bytes (at + 1) at
  item ← item_at bytes (at + 2) at
  Ok (Twin form item, at + 4)

-- what follows the kind of a node
unfoldable pub node_of_kind : ℕ → List ℕ → ℕ → Result (SeriesNode × ℕ) TreeFault
node_of_kind kind bytes at =
    if kind == 1 then branch_at bytes at else
    (if kind == 2 then bound_at bytes at else
    (if kind == 3 then ray_at bytes at else
    (if kind == 4 then count_at bytes at else
    (if kind == 5 then Ok (Whole, at + 1) else
    (if kind == 6 then Ok (Open, at + 1) else
    (if kind == 7 then use_at bytes at else
    (if kind == 8 then twin_at bytes at else Err (BadKind at))))))))

unfoldable pub node_at : List ℕ → ℕ → Result (SeriesNode × ℕ) TreeFault
node_at bytes at = do
  kind ← byte_at bytes at
  node_of_kind kind bytes at

-- the nodes of so many trees in preorder, `room` nodes at most, and the place after them
unfoldable pub nodes_at : ℕ → ℕ → List ℕ → ℕ → Result (List SeriesNode × ℕ) TreeFault
nodes_at room zero bytes at = Ok ([], at)
nodes_at zero (suc waiting) bytes at = if nat_lt at (length bytes) then Err (TooLong at) else Err (Unfinished at)
nodes_at (suc room) (suc waiting) bytes at =
    if nat_lt at (length bytes) then (do
      first ← node_at bytes at
      others ← nodes_at room (waiting + children first.0) bytes first.1
      Ok (first.0 ∷ others.0, others.1))
    else Err (Unfinished at)

-- ---- a tree

-- the tree at the front of the bytes, and the number of bytes that it takes; what follows isn't
-- read
unfoldable pub read : List ℕ → Result (Certificate × ℕ) TreeFault
read bytes = do
  count ← byte_at bytes 0
  vectors ← vectors_at 12288 count bytes 1
  nodes ← nodes_at 4095 1 bytes vectors.1
  Ok (record { vectors = vectors.0; nodes = nodes.0 }, nodes.1)
