-- The text of a tree in hexadecimal digits is read back to its bytes.
use Rattle.std.proofs.Common.{◌≡◌, ℕ, zero, suc, ◌<◌, List, [], ◌∷◌, ◌++◌, length, Ok, arith}
use Rattle.std.specs.Int.{w16, w32, byte_at, to_be_bytes}
use Rattle.std.specs.List.{flat_map, AllByRecursion}
use Rattle.std.proofs.lemmas.List.Concat.{flat_map-cons}
use Rattle.std.proofs.lemmas.List.Elements.{recursion_from_All}
use Rattle.hex.specs.Hex.{IsBytes, encode_lower, decode_of}
use Rattle.hex.proofs.HexLemmas.{decode_of-encode_lower}
use Rattle.certificate_model.specs.declared.node.Node.{Node}
use Rattle.certificate_model.specs.declared.node.Node.TheVariants.{BranchItem, BranchStimulus, Bound, Ray, Count, Whole, Open, Fix}
use Rattle.certificate_model.specs.Relaxed.{Multipliers}
use Rattle.certificate_model.specs.ProofTrees.{ProofTree}
use Rattle.proof_tree.specs.Shape.{IsTree, IsNode}
use Rattle.proof_tree.specs.Spelling.{pair_bytes, vector_bytes, node_bytes, bytes_of}

cons : (b : ℕ) (bs : List ℕ) → b < 256 → IsBytes bs → IsBytes (b ∷ bs)
cons b bs small rest zero = small
cons b bs small rest (suc i) = rest i

joined : (xs ys : List ℕ) → IsBytes xs → IsBytes ys → IsBytes (xs ++ ys)
joined [] ys a b i = b i
joined (x ∷ xs) ys a b zero = a zero
joined (x ∷ xs) ys a b (suc i) = joined xs ys (λ j. a (suc j)) b i

none : IsBytes []
none i = omega arith

small : (k n : ℕ) → byte_at k n < 256
small zero n = omega arith
small (suc k) n = omega arith

last : (n : ℕ) → IsBytes (byte_at 0 n ∷ [])
last n = cons (byte_at 0 n) [] (small 0 n) none

two : (n : ℕ) → IsBytes (to_be_bytes w16 n)
two n = cons (byte_at 1 n) (byte_at 0 n ∷ []) (small 1 n) (last n)

four : (n : ℕ) → IsBytes (to_be_bytes w32 n)
four n = cons (byte_at 3 n) (byte_at 2 n ∷ byte_at 1 n ∷ byte_at 0 n ∷ []) (small 3 n) (cons (byte_at 2 n) (byte_at 1 n ∷ byte_at 0 n ∷ []) (small 2 n) (two n))

each : {A : Type 0} (f : A → List ℕ) (xs : List A) → ((x : A) → IsBytes (f x)) → IsBytes (flat_map f xs)
each f [] h = none
each f (x ∷ xs) h = rw flat_map-cons (joined (f x) (flat_map f xs) (h x) (each f xs h))

vector_is : (v : Multipliers) → IsBytes (vector_bytes v)
vector_is v = joined (to_be_bytes w16 (length v)) (flat_map pair_bytes v) (two (length v)) (each pair_bytes v (λ pair. joined (to_be_bytes w16 pair.0) (to_be_bytes w32 pair.1) (two pair.0) (four pair.1)))

node_is : (node : Node) → IsNode node → IsBytes (node_bytes node)
node_is (BranchItem i) n = cons 1 (to_be_bytes w16 i) (omega arith) (two i)
node_is (BranchStimulus s) n = cons 2 (s ∷ []) (omega arith) (cons s [] (omega (arith, n.1)) none)
node_is (Bound v) n = cons 3 (v ∷ []) (omega arith) (cons v [] n none)
node_is (Ray v) n = cons 4 (v ∷ []) (omega arith) (cons v [] n none)
node_is (Count r) n = cons 5 (r ∷ []) (omega arith) (cons r [] (omega (arith, n)) none)
node_is Whole n = cons 6 [] (omega arith) none
node_is Open n = cons 7 [] (omega arith) none
node_is (Fix v goal) n = cons 8 (v ∷ to_be_bytes w32 goal) (omega arith) (cons v (to_be_bytes w32 goal) n.0 (four goal))

nodes_are : (nodes : List Node) → AllByRecursion IsNode nodes → IsBytes (flat_map node_bytes nodes)
nodes_are [] h = none
nodes_are (node ∷ nodes) h = rw flat_map-cons (joined (node_bytes node) (flat_map node_bytes nodes) (node_is node h.0) (nodes_are nodes h.1))

pub bytes_are : (T : ProofTree) → IsTree T → IsBytes (bytes_of T)
unfolding bytes_of
bytes_are T is =
    cons (length T.vectors) (flat_map vector_bytes T.vectors ++ flat_map node_bytes T.nodes) (omega (arith, is.shape.vectors.few))
    (joined (flat_map vector_bytes T.vectors) (flat_map node_bytes T.nodes) (each vector_bytes T.vectors vector_is) (nodes_are T.nodes (recursion_from_All IsNode T.nodes is.numbers)))

pub text_is_read : (T : ProofTree) → IsTree T → decode_of (encode_lower (bytes_of T)) ≡ Ok (bytes_of T)
text_is_read T is = decode_of-encode_lower (bytes_of T) (bytes_are T is)
