-- The text of a tree is read again.
use Rattle.std.proofs.Common.{◌≡◌, ℕ, zero, suc, ◌<◌, List, [], ◌∷◌, ◌++◌, length, Result, Ok, Err, sym, ap, ◌∙◌, arith}
use Rattle.std.specs.Prelude.{codes}
use Rattle.std.specs.List.{flat_map, All}
use Rattle.std.specs.Int.{w16, w32, to_be_bytes}
use Rattle.std.proofs.lemmas.List.{append-nil, append_cancel_right}
use Rattle.std.proofs.lemmas.List.Elements.{All-head, All-tail}
use Rattle.hex.specs.Hex.{IsBytes, decode_of, encode_lower}
use Rattle.hex.specs.declared.error.FromHexError.{FromHexError}
use Rattle.hex.proofs.HexLemmas.{decode_of-encode_lower}
use Rattle.certificate_model.specs.declared.node.Node.{Node}
use Rattle.certificate_model.specs.declared.node.Node.TheVariants.{BranchItem, BranchStimulus, Bound, Ray, Count, Whole, Open, Fix}
use Rattle.certificate_model.specs.Relaxed.{Multipliers}
use Rattle.certificate_model.specs.ProofTrees.{ProofTree}
use Rattle.proof_tree.specs.Shape.{IsTree, IsNode}
use Rattle.proof_tree.specs.Spelling.{pair_bytes, vector_bytes, node_bytes, bytes_of}
use Rattle.proof_tree.specs.Reading.{read}
use Rattle.proof_tree.specs.declared.fault.TreeFault.{TreeFault}
use Rattle.proof_tree.proofs.TreeLaws.{written_is_read}
use Rattle.exam_program.specs.Laws.{PrintedTreeIsReadBack, OneTreeOfText}
use Rattle.exam_program.specs.Texts.{tree_text}

-- ---- the bytes of a tree are bytes
none_bytes : IsBytes []
none_bytes i = omega arith

one_byte : (b : ℕ) (xs : List ℕ) → b < 256 → IsBytes xs → IsBytes (b ∷ xs)
one_byte b xs low others zero = low
one_byte b xs low others (suc i) = others i

append_bytes : (xs ys : List ℕ) → IsBytes xs → IsBytes ys → IsBytes (xs ++ ys)
append_bytes [] ys first second = second
append_bytes (x ∷ xs) ys first second = one_byte x (xs ++ ys) (first 0) (append_bytes xs ys (λ i. first (suc i)) second)

all_bytes : {X : Type 0} (f : X → List ℕ) (xs : List X) → All (λ x. IsBytes (f x)) xs → IsBytes (flat_map f xs)
all_bytes f [] each = none_bytes
all_bytes f (x ∷ xs) each = append_bytes (f x) (flat_map f xs) (All-head (λ y. IsBytes (f y)) x xs each) (all_bytes f xs (All-tail (λ y. IsBytes (f y)) x xs each))

two_bytes : (n : ℕ) → IsBytes (to_be_bytes w16 n)
two_bytes n zero = omega arith
two_bytes n (suc zero) = omega arith
two_bytes n (suc (suc i)) = omega arith

four_bytes : (n : ℕ) → IsBytes (to_be_bytes w32 n)
four_bytes n zero = omega arith
four_bytes n (suc zero) = omega arith
four_bytes n (suc (suc zero)) = omega arith
four_bytes n (suc (suc (suc zero))) = omega arith
four_bytes n (suc (suc (suc (suc i)))) = omega arith

pair_is : (pair : ℕ × ℕ) → IsBytes (pair_bytes pair)
pair_is pair = append_bytes (to_be_bytes w16 pair.0) (to_be_bytes w32 pair.1) (two_bytes pair.0) (four_bytes pair.1)

vector_is : (v : Multipliers) → IsBytes (vector_bytes v)
vector_is v = append_bytes (to_be_bytes w16 (length v)) (flat_map pair_bytes v) (two_bytes (length v)) (all_bytes pair_bytes v (λ k d lt. pair_is _))

short_node : (kind n : ℕ) → kind < 256 → n < 256 → IsBytes (kind ∷ n ∷ [])
short_node kind n low number = one_byte kind (n ∷ []) low (one_byte n [] number none_bytes)

node_is : (node : Node) → IsNode node → IsBytes (node_bytes node)
node_is (BranchItem i) is = one_byte 1 (to_be_bytes w16 i) (omega arith) (two_bytes i)
node_is (BranchStimulus s) is = short_node 2 s (omega arith) (omega (arith, is.1))
node_is (Bound v) is = short_node 3 v (omega arith) is
node_is (Ray v) is = short_node 4 v (omega arith) is
node_is (Count r) is = short_node 5 r (omega arith) (omega (arith, is))
node_is Whole is = one_byte 6 [] (omega arith) none_bytes
node_is Open is = one_byte 7 [] (omega arith) none_bytes
node_is (Fix v goal) is = one_byte 8 (v ∷ to_be_bytes w32 goal) (omega arith) (one_byte v (to_be_bytes w32 goal) is.0 (four_bytes goal))

tree_is : (T : ProofTree) → IsTree T → IsBytes (bytes_of T)
unfolding bytes_of
tree_is T is =
    one_byte (length T.vectors) (flat_map vector_bytes T.vectors ++ flat_map node_bytes T.nodes) (omega (arith, is.shape.vectors.few))
    (append_bytes (flat_map vector_bytes T.vectors) (flat_map node_bytes T.nodes) (all_bytes vector_bytes T.vectors (λ k d lt. vector_is _)) (all_bytes node_bytes T.nodes (λ k d lt. node_is _ (is.numbers k d lt))))

-- ---- reading them
pub printed_tree_is_read_back : PrintedTreeIsReadBack
printed_tree_is_read_back T is =
    record {
      digits = decode_of-encode_lower (bytes_of T) (tree_is T is);
      tree = ap read (sym (append-nil (bytes_of T))) ∙ written_is_read T [] is;
    }

abbrev tree_in : Result (ProofTree × ℕ) TreeFault → ProofTree → ProofTree
tree_in (Ok found) other = found.0
tree_in (Err fault) other = other

same_bytes : (T U : ProofTree) → IsTree T → IsTree U → bytes_of T ≡ bytes_of U → T ≡ U
same_bytes T U t u e = ap (λ (r : Result (ProofTree × ℕ) TreeFault). tree_in r T) (sym (printed_tree_is_read_back T t).tree ∙ (ap read e ∙ (printed_tree_is_read_back U u).tree))

ok_same : (r : Result (List ℕ) FromHexError) (x y : List ℕ) → r ≡ Ok x → r ≡ Ok y → x ≡ y
ok_same r x y e f = cc

pub one_tree_of_text : OneTreeOfText
unfolding tree_text
one_tree_of_text T U t u e =
    let digits : encode_lower (bytes_of T) ≡ encode_lower (bytes_of U) = append_cancel_right (encode_lower (bytes_of T)) (encode_lower (bytes_of U)) (codes "\n") e in
    same_bytes T U t u (ok_same (decode_of (encode_lower (bytes_of T))) (bytes_of T) (bytes_of U) (printed_tree_is_read_back T t).digits (ap decode_of digits ∙ (printed_tree_is_read_back U u).digits))
