-- Reading a proof tree from left to right, up to the first fault, with the place where the faulty
-- field or node begins.
use Rattle.std.specs.Prelude.{ℕ, zero, suc, ◌+◌, ◌-◌, ◌||◌, ◌==◌, nat_lt, nat_le, List, [], ◌∷◌, length, take, drop, slice_index, Result, Ok, Err, if◌then◌else◌}
use Rattle.std.specs.Int.{Width, w16, w32, byte_len, from_be_bytes}
use Rattle.exam_text.specs.First.{◌>>=◌, unless, fault_where}
use Rattle.certificate_model.specs.declared.node.Node.{Node}
use Rattle.certificate_model.specs.declared.node.Node.TheVariants.{BranchItem, BranchStimulus, Bound, Ray, Count, Whole, Open, Fix}
use Rattle.certificate_model.specs.Relaxed.{Multipliers}
use Rattle.certificate_model.specs.ProofTrees.{ProofTree}
use Rattle.proof_tree.specs.declared.fault.TreeFault.{TreeFault}
use Rattle.proof_tree.specs.declared.fault.TreeFault.TheVariants.{Short, BadKind, BadVector, Unfinished, TooLong}
use Rattle.proof_tree.specs.Shape.{children}

-- the number in so many bytes at a place
abbrev pub number_at : Width → List ℕ → ℕ → Result ℕ TreeFault
number_at w bytes at = if nat_lt (length bytes) (at + byte_len w) then Err Short else Ok (from_be_bytes w (take (byte_len w) (drop at bytes)))

abbrev pub byte_at : List ℕ → ℕ → Result ℕ TreeFault
byte_at bytes at = if nat_lt at (length bytes) then Ok (slice_index bytes at) else Err Short

-- ---- vectors

-- a side from `low` on, and its multiplier
unfoldable pub pair_at : List ℕ → ℕ → ℕ → Result (ℕ × ℕ) TreeFault
pair_at bytes at low = do
  side ← number_at w16 bytes at
  unless (fault_where (nat_lt side low || nat_le 386 side) (BadVector at)) (do
    multiplier ← number_at w32 bytes (at + 2)
    unless (fault_where ((multiplier == 0) || nat_lt 16777216 multiplier) (BadVector (at + 2)))
        (Ok (side, multiplier)))

-- so many pairs, sides ascending from `low` on, and the place after them
unfoldable pub pairs_at : ℕ → List ℕ → ℕ → ℕ → Result (Multipliers × ℕ) TreeFault
pairs_at zero bytes at low = Ok ([], at)
pairs_at (suc count) bytes at low = do
  first ← pair_at bytes at low
  others ← pairs_at count bytes (at + 6) (first.0 + 1)
  Ok (first ∷ others.0, others.1)

-- a vector of at most `room` pairs, and never more than 384, and the place after it
unfoldable pub multipliers_at : ℕ → List ℕ → ℕ → Result (Multipliers × ℕ) TreeFault
multipliers_at room bytes at = do
  count ← number_at w16 bytes at
  unless (fault_where (nat_lt 384 count || nat_lt room count) (BadVector at)) (pairs_at count bytes (at + 2) 0)

-- so many vectors of at most `room` pairs in all, and the place after them
unfoldable pub vectors_at : ℕ → ℕ → List ℕ → ℕ → Result (List Multipliers × ℕ) TreeFault
vectors_at room zero bytes at = Ok ([], at)
vectors_at room (suc count) bytes at = do
  first ← multipliers_at room bytes at
  others ← vectors_at (room - length first.0) count bytes first.1
  Ok (first.0 ∷ others.0, others.1)

-- ---- nodes

-- a node that begins at a place, with the place after it
unfoldable pub item_branch_at : List ℕ → ℕ → Result (Node × ℕ) TreeFault
item_branch_at bytes at = do
  item ← number_at w16 bytes (at + 1)
  unless (fault_where (nat_le 512 item) (BadKind at)) (Ok (BranchItem item, at + 3))

unfoldable pub stimulus_branch_at : List ℕ → ℕ → Result (Node × ℕ) TreeFault
stimulus_branch_at bytes at = do
  stimulus ← byte_at bytes (at + 1)
  unless (fault_where ((stimulus == 0) || nat_lt 64 stimulus) (BadKind at)) (Ok (BranchStimulus stimulus, at + 2))

unfoldable pub bound_at : List ℕ → ℕ → Result (Node × ℕ) TreeFault
bound_at bytes at = do
  vector ← byte_at bytes (at + 1)
  Ok (Bound vector, at + 2)

unfoldable pub ray_at : List ℕ → ℕ → Result (Node × ℕ) TreeFault
ray_at bytes at = do
  vector ← byte_at bytes (at + 1)
  Ok (Ray vector, at + 2)

unfoldable pub count_at : List ℕ → ℕ → Result (Node × ℕ) TreeFault
count_at bytes at = do
  row ← byte_at bytes (at + 1)
  unless (fault_where (nat_lt 192 row) (BadKind at)) (Ok (Count row, at + 2))

unfoldable pub fix_at : List ℕ → ℕ → Result (Node × ℕ) TreeFault
fix_at bytes at = do
  vector ← byte_at bytes (at + 1)
  goal ← number_at w32 bytes (at + 2)
  Ok (Fix vector goal, at + 6)

-- what follows the kind of a node
unfoldable pub node_of_kind : ℕ → List ℕ → ℕ → Result (Node × ℕ) TreeFault
node_of_kind kind bytes at =
    if kind == 1 then item_branch_at bytes at else
    (if kind == 2 then stimulus_branch_at bytes at else
    (if kind == 3 then bound_at bytes at else
    (if kind == 4 then ray_at bytes at else
    (if kind == 5 then count_at bytes at else
    (if kind == 6 then Ok (Whole, at + 1) else
    (if kind == 7 then Ok (Open, at + 1) else
    (if kind == 8 then fix_at bytes at else Err (BadKind at))))))))

unfoldable pub node_at : List ℕ → ℕ → Result (Node × ℕ) TreeFault
node_at bytes at = do
  kind ← byte_at bytes at
  node_of_kind kind bytes at

-- the nodes of so many trees in preorder, `room` nodes at most, and the place after them
unfoldable pub nodes_at : ℕ → ℕ → List ℕ → ℕ → Result (List Node × ℕ) TreeFault
nodes_at room zero bytes at = Ok ([], at)
nodes_at zero (suc waiting) bytes at = if nat_lt at (length bytes) then Err (TooLong at) else Err (Unfinished at)
nodes_at (suc room) (suc waiting) bytes at =
    if nat_lt at (length bytes) then (do
      first ← node_at bytes at
      others ← nodes_at room (waiting + children first.0) bytes first.1
      Ok (first.0 ∷ others.0, others.1))
    else Err (Unfinished at)

-- ---- a tree

-- the tree at the front of the bytes, and the number of bytes that it takes; what follows isn't
-- read
unfoldable pub read : List ℕ → Result (ProofTree × ℕ) TreeFault
read bytes = do
  count ← byte_at bytes 0
  vectors ← vectors_at 12288 count bytes 1
  nodes ← nodes_at 4095 1 bytes vectors.1
  Ok (record { vectors = vectors.0; nodes = nodes.0 }, nodes.1)
