-- A tree that is read is the tree that was written, and what was written is read again, whatever
-- follows.
use Rattle.std.proofs.Common.{◌≡◌, ℕ, zero, suc, ◌+◌, ◌*◌, ◌<◌, ◌≤◌, Bool, true, false, cond, ltb, List, [], ◌∷◌, ◌++◌, length, All, drop, Result, Ok, Err, refl, sym, ap, subst, arith, length-append, ◌∙◌}
use Rattle.std.specs.Prelude.{IfOk}
use Rattle.std.specs.List.{flat_map, AllByRecursion, sum_by}
use Rattle.std.proofs.lemmas.Bool.{lt-ltb}
use Rattle.std.proofs.lemmas.List.{drop_at}
use Rattle.std.proofs.lemmas.List.Sums.{sum_by-cons}
use Rattle.std.proofs.lemmas.List.Concat.{flat_map-cons}
use Rattle.std.proofs.lemmas.List.Elements.{All-from_recursion, All-from_get_or, recursion_from_All}
use Rattle.exam_text.specs.First.{◌>>=◌, Gives}
use Rattle.exam_text.proofs.Firsts.{bind_ok, ok_is}
use Rattle.certificate_model.specs.declared.node.Node.{Node}
use Rattle.certificate_model.specs.declared.node.Node.TheVariants.{BranchItem, BranchStimulus, Bound, Ray, Count, Whole, Open, Fix}
use Rattle.certificate_model.specs.Relaxed.{Multipliers}
use Rattle.certificate_model.specs.ProofTrees.{ProofTree, AreTrees, IsProofTree}
use Rattle.proof_tree.specs.declared.fault.TreeFault.{TreeFault}
use Rattle.proof_tree.specs.declared.fault.TreeFault.TheVariants.{Unfinished, TooLong, Memory}
use Rattle.proof_tree.specs.Shape.{IsTree, IsNode, children}
use Rattle.proof_tree.specs.Spelling.{pair_bytes, vector_bytes, node_bytes, bytes_of, BeginsWith}
use Rattle.proof_tree.specs.Reading.{byte_at, vectors_at, node_at, nodes_at, read}
use Rattle.proof_tree.proofs.Shapes.{BothWays}
use Rattle.proof_tree.proofs.Fields.{IsBytes, Stands, nothing_stands, stand_both, stand_first, stand_second, stands_within, byte_stands, byte_again}
use Rattle.proof_tree.proofs.VectorLaws.{IsListed, vectors_stand, vectors_again}
use Rattle.proof_tree.proofs.NodeLaws.{node_stands, node_again}

-- ---- nodes

-- after a node its subtrees wait in its place
waits_for : (waiting : ℕ) (node : Node) (nodes : List Node) → BothWays (AreTrees (suc waiting) (node ∷ nodes)) (AreTrees (waiting + children node) nodes)
waits_for waiting (BranchItem i) nodes = let e : suc (suc waiting) ≡ waiting + 2 = omega arith in (subst (λ (w : ℕ). AreTrees w nodes) e, subst (λ (w : ℕ). AreTrees w nodes) (sym e))
waits_for waiting (BranchStimulus s) nodes = let e : suc (suc waiting) ≡ waiting + 2 = omega arith in (subst (λ (w : ℕ). AreTrees w nodes) e, subst (λ (w : ℕ). AreTrees w nodes) (sym e))
waits_for waiting (Fix v goal) nodes = let e : suc waiting ≡ waiting + 1 = omega arith in (subst (λ (w : ℕ). AreTrees w nodes) e, subst (λ (w : ℕ). AreTrees w nodes) (sym e))
waits_for waiting (Bound v) nodes = let e : waiting ≡ waiting + 0 = omega arith in (subst (λ (w : ℕ). AreTrees w nodes) e, subst (λ (w : ℕ). AreTrees w nodes) (sym e))
waits_for waiting (Ray v) nodes = let e : waiting ≡ waiting + 0 = omega arith in (subst (λ (w : ℕ). AreTrees w nodes) e, subst (λ (w : ℕ). AreTrees w nodes) (sym e))
waits_for waiting (Count r) nodes = let e : waiting ≡ waiting + 0 = omega arith in (subst (λ (w : ℕ). AreTrees w nodes) e, subst (λ (w : ℕ). AreTrees w nodes) (sym e))
waits_for waiting Whole nodes = let e : waiting ≡ waiting + 0 = omega arith in (subst (λ (w : ℕ). AreTrees w nodes) e, subst (λ (w : ℕ). AreTrees w nodes) (sym e))
waits_for waiting Open nodes = let e : waiting ≡ waiting + 0 = omega arith in (subst (λ (w : ℕ). AreTrees w nodes) e, subst (λ (w : ℕ). AreTrees w nodes) (sym e))

-- what was read: the bytes have the nodes there, which are so many trees, few enough, with numbers
-- in their ranges
pub record AreFound (room waiting : ℕ) (bytes : List ℕ) (at : ℕ) (x : List Node × ℕ) : Type 0 where
  pub stand : Stands bytes at (flat_map node_bytes x.0) x.1
  pub trees : AreTrees waiting x.0
  pub few : length x.0 ≤ room
  pub numbers : AllByRecursion IsNode x.0

none_found : (room : ℕ) (bytes : List ℕ) (at : ℕ) → AreFound room 0 bytes at ([], at)
none_found room bytes at = record { stand = nothing_stands bytes at; trees = tt; few = omega arith; numbers = tt }

pub guard_there : {A : Type 0} (b : Bool) (r : Result A TreeFault) (d : TreeFault) (y : A) → cond b r (Err d) ≡ Ok y → (b ≡ true) × (r ≡ Ok y)
guard_there true r d y e = (refl, e)
guard_there false r d y e = absurd cc

pub never_ok : {A : Type 0} (b : Bool) (d f : TreeFault) (y : A) → cond b (Err d) (Err f) ≡ Ok y → ⊥
never_ok true d f y e = cc
never_ok false d f y e = cc

pub nodes_stand : (room waiting : ℕ) (bytes : List ℕ) (at : ℕ) (x : List Node × ℕ) → IsBytes bytes → nodes_at room waiting bytes at ≡ Ok x → AreFound room waiting bytes at x
unfolding nodes_at
nodes_stand zero zero bytes at x fits e = subst (AreFound 0 0 bytes at) (ok_is {F = TreeFault} ([], at) x e) (none_found 0 bytes at)
nodes_stand (suc room) zero bytes at x fits e = subst (AreFound (suc room) 0 bytes at) (ok_is {F = TreeFault} ([], at) x e) (none_found (suc room) bytes at)
nodes_stand zero (suc waiting) bytes at x fits e = absurd (never_ok (ltb at (length bytes)) (TooLong at) (Unfinished at) x e)
nodes_stand (suc room) (suc waiting) bytes at x fits e =
    let g = guard_there (ltb at (length bytes)) (node_at bytes at >>= λ first. nodes_at room (waiting + children first.0) bytes first.1 >>= λ others. Ok (first.0 ∷ others.0, others.1)) (Unfinished at) x e in
    let a = bind_ok (node_at bytes at) (λ first. nodes_at room (waiting + children first.0) bytes first.1 >>= λ others. Ok (first.0 ∷ others.0, others.1)) x g.1 in
    let b = bind_ok (nodes_at room (waiting + children a.0.0) bytes a.0.1) (λ others. Ok (a.0.0 ∷ others.0, others.1)) x a.2 in
    let first = node_stands bytes at a.0 fits a.1 in
    let others = nodes_stand room (waiting + children a.0.0) bytes a.0.1 b.0 fits b.1 in
    let both = stand_both bytes at (node_bytes a.0.0) a.0.1 (flat_map node_bytes b.0.0) b.0.1 first.0 others.stand in
    let made : List Node × ℕ = (a.0.0 ∷ b.0.0, b.0.1) in
    let is : AreFound (suc room) (suc waiting) bytes at made = record {
      stand = rw flat_map-cons both;
      trees = (waits_for waiting a.0.0 b.0.0).1 others.trees;
      few = omega (arith, others.few);
      numbers = (first.1, others.numbers);
    } in
    subst (AreFound (suc room) (suc waiting) bytes at) (ok_is {F = TreeFault} made x b.2) is

some_bytes : (node : Node) → 0 < length (node_bytes node)
some_bytes (BranchItem i) = omega arith
some_bytes (BranchStimulus s) = omega arith
some_bytes (Bound v) = omega arith
some_bytes (Ray v) = omega arith
some_bytes (Count r) = omega arith
some_bytes Whole = omega arith
some_bytes Open = omega arith
some_bytes (Fix v goal) = omega arith

pub nodes_again : (nodes : List Node) (room waiting : ℕ) (bytes : List ℕ) (at next : ℕ) → Stands bytes at (flat_map node_bytes nodes) next → AreTrees waiting nodes → length nodes ≤ room → AllByRecursion IsNode nodes
    → nodes_at room waiting bytes at ≡ Ok (nodes, next)
unfolding nodes_at
nodes_again [] zero zero bytes at next p trees few numbers = ap (λ (n : ℕ). Ok ([], n)) (omega (arith, p.ends))
nodes_again [] (suc room) zero bytes at next p trees few numbers = ap (λ (n : ℕ). Ok ([], n)) (omega (arith, p.ends))
nodes_again [] room (suc waiting) bytes at next p trees few numbers = absurd trees
nodes_again (node ∷ nodes) room zero bytes at next p trees few numbers = absurd trees
nodes_again (node ∷ nodes) zero (suc waiting) bytes at next p trees few numbers = absurd (omega (arith, few))
nodes_again (node ∷ nodes) (suc room) (suc waiting) bytes at next p trees few numbers =
    let q : Stands bytes at (node_bytes node ++ flat_map node_bytes nodes) next = subst (λ (t : List ℕ). Stands bytes at t next) (flat_map-cons node_bytes node nodes) p in
    let first = stand_first bytes at (node_bytes node) (flat_map node_bytes nodes) next q in
    let second = stand_second bytes at (node_bytes node) (flat_map node_bytes nodes) next q in
    let some = some_bytes node in
    let within : at + length (node_bytes node) ≤ length bytes = stands_within bytes at (node_bytes node) (at + length (node_bytes node)) first some in
    let there : ltb at (length bytes) ≡ true = lt-ltb at (length bytes) (omega (arith, within, some)) in
    let here : node_at bytes at ≡ Ok (node, at + length (node_bytes node)) = node_again node bytes at (at + length (node_bytes node)) first numbers.0 in
    let others : nodes_at room (waiting + children node) bytes (at + length (node_bytes node)) ≡ Ok (nodes, next) = nodes_again nodes room (waiting + children node) bytes (at + length (node_bytes node)) next second ((waits_for waiting node nodes).0 trees) (omega (arith, few)) numbers.1 in
    rw (there, here, others) refl

-- ---- the tree

-- vectors that were read are vectors of a tree
pub is_tree : (vectors : List Multipliers) (nodes : List Node) → length vectors ≤ 255 → AllByRecursion IsListed vectors → sum_by length vectors ≤ 12288 → length nodes ≤ 4095 → AreTrees 1 nodes → AllByRecursion IsNode nodes → IsTree (record { vectors = vectors; nodes = nodes })
is_tree vectors nodes few_vectors listed few_pairs few_nodes trees numbers =
    let each : All IsListed vectors = All-from_recursion IsListed vectors listed in
    record {
      shape = record {
        vectors = record {
          few = few_vectors;
          ascending = λ v lt. (each v [] lt).0;
          low_sides = λ v lt. All-from_recursion (λ pair. pair.0 < 386) _ (each v [] lt).1;
          short = λ v lt. (each v [] lt).2;
          few_pairs = few_pairs;
        };
        few_nodes = few_nodes;
        one_tree = trees;
      };
      numbers = All-from_recursion IsNode nodes numbers;
    }

-- and the other way round
listed_from : (T : ProofTree) → IsProofTree T → AllByRecursion IsListed T.vectors
listed_from T is = recursion_from_All IsListed T.vectors (All-from_get_or IsListed T.vectors [] (λ v lt. (is.vectors.ascending v lt, recursion_from_All (λ pair. pair.0 < 386) _ (is.vectors.low_sides v lt), is.vectors.short v lt)))

pub read_stands : (bytes : List ℕ) (x : ProofTree × ℕ) → IsBytes bytes → read bytes ≡ Ok x → IsTree x.0 × Stands bytes 0 (bytes_of x.0) x.1
unfolding read bytes_of
read_stands bytes x fits e =
    let a = bind_ok (byte_at bytes 0) (λ count. vectors_at 12288 count bytes 1 >>= λ vectors. nodes_at 4095 1 bytes vectors.1 >>= λ nodes. Ok (record { vectors = vectors.0; nodes = nodes.0 }, nodes.1)) x e in
    let b = bind_ok (vectors_at 12288 a.0 bytes 1) (λ vectors. nodes_at 4095 1 bytes vectors.1 >>= λ nodes. Ok (record { vectors = vectors.0; nodes = nodes.0 }, nodes.1)) x a.2 in
    let n = bind_ok (nodes_at 4095 1 bytes b.0.1) (λ nodes. Ok (record { vectors = b.0.0; nodes = nodes.0 }, nodes.1)) x b.2 in
    let count = byte_stands bytes 0 a.0 fits a.1 in
    let vectors = vectors_stand 12288 a.0 bytes 1 b.0 fits b.1 in
    let nodes = nodes_stand 4095 1 bytes b.0.1 n.0 fits n.1 in
    let after = stand_both bytes 1 (flat_map vector_bytes b.0.0) b.0.1 (flat_map node_bytes n.0.0) n.0.1 vectors.0 nodes.stand in
    let all : Stands bytes 0 (a.0 ∷ (flat_map vector_bytes b.0.0 ++ flat_map node_bytes n.0.0)) n.0.1 = stand_both bytes 0 (a.0 ∷ []) 1 (flat_map vector_bytes b.0.0 ++ flat_map node_bytes n.0.0) n.0.1 count.0 after in
    let made : ProofTree × ℕ = (record { vectors = b.0.0; nodes = n.0.0 }, n.0.1) in
    let stands : Stands bytes 0 (bytes_of made.0) made.1 = subst (λ (k : ℕ). Stands bytes 0 (k ∷ (flat_map vector_bytes b.0.0 ++ flat_map node_bytes n.0.0)) n.0.1) (sym vectors.1) all in
    subst (λ (y : ProofTree × ℕ). IsTree y.0 × Stands bytes 0 (bytes_of y.0) y.1) (ok_is {F = TreeFault} made x n.2) (is_tree b.0.0 n.0.0 (omega (arith, vectors.1, count.1)) vectors.2 vectors.3 nodes.few nodes.trees nodes.numbers, stands)

pub read_again : (T : ProofTree) (bytes : List ℕ) (next : ℕ) → IsTree T → Stands bytes 0 (bytes_of T) next → read bytes ≡ Ok (T, next)
unfolding read bytes_of
read_again T bytes next is p =
    let first = stand_first bytes 0 (length T.vectors ∷ []) (flat_map vector_bytes T.vectors ++ flat_map node_bytes T.nodes) next p in
    let second : Stands bytes 1 (flat_map vector_bytes T.vectors ++ flat_map node_bytes T.nodes) next = stand_second bytes 0 (length T.vectors ∷ []) (flat_map vector_bytes T.vectors ++ flat_map node_bytes T.nodes) next p in
    let vectors_there = stand_first bytes 1 (flat_map vector_bytes T.vectors) (flat_map node_bytes T.nodes) next second in
    let nodes_there = stand_second bytes 1 (flat_map vector_bytes T.vectors) (flat_map node_bytes T.nodes) next second in
    let count_read : byte_at bytes 0 ≡ Ok (length T.vectors) = byte_again bytes 0 (length T.vectors) 1 first in
    let vectors_read = vectors_again T.vectors 12288 bytes 1 (1 + length (flat_map vector_bytes T.vectors)) vectors_there (listed_from T is.shape) is.shape.vectors.few_pairs in
    let nodes_read = nodes_again T.nodes 4095 1 bytes (1 + length (flat_map vector_bytes T.vectors)) next nodes_there is.shape.one_tree is.shape.few_nodes (recursion_from_All IsNode T.nodes is.numbers) in
    rw (count_read, vectors_read, nodes_read) refl

-- the vectors of a tree are short
pub short_vectors : (T : ProofTree) → IsProofTree T → All (λ v. length v ≤ 384) T.vectors
short_vectors T is = All-from_get_or (λ v. length v ≤ 384) T.vectors [] is.vectors.short

-- what was read is what the bytes begin with
pub is_found : (bytes : List ℕ) (r : Result (ProofTree × ℕ) TreeFault) → IsBytes bytes → Gives Memory (λ (x : ProofTree × ℕ). x) r (read bytes)
    → IfOk r (λ x. IsTree x.0 × BeginsWith bytes x.0 × (x.1 ≡ length (bytes_of x.0)))
is_found bytes (Ok x) fits given =
    let found = read_stands bytes x fits given in
    (found.0, (drop x.1 bytes, found.1.parts), omega (arith, found.1.ends))
is_found bytes (Err e) fits given = tt

-- whatever follows
pub stands_at_front : (text rest : List ℕ) → Stands (text ++ rest) 0 text (length text)
stands_at_front text rest = record { parts = ap (λ (t : List ℕ). text ++ t) (sym (drop_at text rest (length text) refl)); ends = omega arith }

pub is_read : (T : ProofTree) (bytes : List ℕ) → IsTree T → BeginsWith bytes T → read bytes ≡ Ok (T, length (bytes_of T))
is_read T bytes is front =
    rw front.1 (read_again T (bytes_of T ++ front.0) (length (bytes_of T)) is (stands_at_front (bytes_of T) front.0))

-- ---- how many bytes

pairs_len : (v : Multipliers) → length (flat_map pair_bytes v) ≡ 6 * length v
pairs_len [] = refl
pairs_len (pair ∷ v) = omega (arith, pairs_len v, ap length (flat_map-cons pair_bytes pair v), length-append (pair_bytes pair) (flat_map pair_bytes v))

vectors_len : (vs : List Multipliers) → length (flat_map vector_bytes vs) ≡ 2 * length vs + 6 * sum_by length vs
vectors_len [] = refl
vectors_len (v ∷ vs) =
    omega (arith, vectors_len vs, pairs_len v, sum_by-cons length v vs, ap length (flat_map-cons vector_bytes v vs), length-append (vector_bytes v) (flat_map vector_bytes vs))

node_len : (node : Node) → length (node_bytes node) ≤ 6
node_len (BranchItem i) = omega arith
node_len (BranchStimulus s) = omega arith
node_len (Bound v) = omega arith
node_len (Ray v) = omega arith
node_len (Count r) = omega arith
node_len Whole = omega arith
node_len Open = omega arith
node_len (Fix v goal) = omega arith

nodes_len : (nodes : List Node) → length (flat_map node_bytes nodes) ≤ 6 * length nodes
nodes_len [] = omega arith
nodes_len (node ∷ nodes) = omega (arith, nodes_len nodes, node_len node, ap length (flat_map-cons node_bytes node nodes), length-append (node_bytes node) (flat_map node_bytes nodes))

pub few_bytes : (T : ProofTree) → IsTree T → length (bytes_of T) ≤ 98809
unfolding bytes_of
few_bytes T is =
    let vectors = vectors_len T.vectors in
    let nodes = nodes_len T.nodes in
    omega (arith, vectors, nodes, is.shape.vectors.few, is.shape.vectors.few_pairs, is.shape.few_nodes, length-append (flat_map vector_bytes T.vectors) (flat_map node_bytes T.nodes))

-- ---- the laws

pub written_is_read : (T : ProofTree) (rest : List ℕ) → IsTree T → read (bytes_of T ++ rest) ≡ Ok (T, length (bytes_of T))
written_is_read T rest is = is_read T (bytes_of T ++ rest) is (rest, refl)

pub one_spelling : (bytes : List ℕ) (T : ProofTree) (used : ℕ) → IsBytes bytes → read bytes ≡ Ok (T, used) → IsTree T × BeginsWith bytes T × (used ≡ length (bytes_of T))
one_spelling bytes T used fits e = is_found bytes (Ok (T, used)) fits e

pub no_spelling_begins_another : (T U : ProofTree) (x y : List ℕ) → IsTree T → IsTree U → bytes_of T ++ x ≡ bytes_of U ++ y → T ≡ U
no_spelling_begins_another T U x y t u same =
    let first : read (bytes_of T ++ x) ≡ Ok (T, length (bytes_of T)) = written_is_read T x t in
    let second : read (bytes_of T ++ x) ≡ Ok (U, length (bytes_of U)) = ap read same ∙ written_is_read U y u in
    ap (λ (x : ProofTree × ℕ). x.0) (ok_is {F = TreeFault} (T, length (bytes_of T)) (U, length (bytes_of U)) (sym first ∙ second))
