-- Reading one after the other, as loops do.
use Rattle.std.proofs.Common.{◌≡◌, ℕ, zero, suc, ◌-◌, ◌+◌, ◌≤◌, ◌<◌, ◌⊎◌, inl, inr, List, [], ◌∷◌, ◌++◌, length, Result, Ok, Err, refl, sym, ap, ◌∙◌, append_assoc, arith, ltb, false}
use Rattle.std.proofs.lemmas.Bool.{lt-ltb, le-ltb}
use Rattle.std.proofs.lemmas.List.{append-nil}
use Rattle.exam_text.specs.First.{◌>>=◌}
use Rattle.certificate_model.specs.declared.node.Node.{Node}
use Rattle.certificate_model.specs.Relaxed.{Multipliers}
use Rattle.proof_tree.specs.declared.fault.TreeFault.{TreeFault}
use Rattle.proof_tree.specs.declared.fault.TreeFault.TheVariants.{Memory, Unfinished, TooLong}
use Rattle.proof_tree.specs.Shape.{children}
use Rattle.proof_tree.specs.Reading.{pair_at, pairs_at, multipliers_at, vectors_at, node_at, nodes_at}

-- what was read before, and what is still read
abbrev pub with_front : {A : Type 0} → List A → Result (List A × ℕ) TreeFault → Result (List A × ℕ) TreeFault
with_front front read = read >>= λ x. Ok (front ++ x.0, x.1)

regroup : {A : Type 0} (front : List A) (n : A) (read : Result (List A × ℕ) TreeFault) → with_front front (read >>= λ x. Ok (n ∷ x.0, x.1)) ≡ with_front (front ++ n ∷ []) read
regroup {A} front n (Ok x) = ap (λ (ns : List A). Ok (ns, x.1)) (simp append_assoc)
regroup front n (Err f) = refl

-- ---- pairs

pub pairs_go_on : (front : Multipliers) (count i : ℕ) (bytes : List ℕ) (at low : ℕ) (pair : ℕ × ℕ) (total : Result (Multipliers × ℕ) TreeFault) → i < count → pair_at bytes at low ≡ Ok pair
    → with_front front (pairs_at (count - i) bytes at low) ≡ total → with_front (front ++ pair ∷ []) (pairs_at (count - (i + 1)) bytes (at + 6) (pair.0 + 1)) ≡ total
unfolding pairs_at
pairs_go_on front count i bytes at low pair total lt h so_far =
    let k : count - i ≡ suc (count - (i + 1)) = omega arith in
    let one : with_front front (pairs_at (count - i) bytes at low) ≡ with_front (front ++ pair ∷ []) (pairs_at (count - (i + 1)) bytes (at + 6) (pair.0 + 1)) = rw (k, h) (regroup front pair (pairs_at (count - (i + 1)) bytes (at + 6) (pair.0 + 1))) in
    sym one ∙ so_far

pub pairs_end : (front : Multipliers) (count i : ℕ) (bytes : List ℕ) (at low : ℕ) (fault : TreeFault) (total : Result (Multipliers × ℕ) TreeFault) → i < count → pair_at bytes at low ≡ Err fault
    → with_front front (pairs_at (count - i) bytes at low) ≡ total → total ≡ Err fault
unfolding pairs_at
pairs_end front count i bytes at low fault total lt h so_far =
    let k : count - i ≡ suc (count - (i + 1)) = omega arith in
    let one : with_front front (pairs_at (count - i) bytes at low) ≡ Err fault = rw (k, h) refl in
    sym so_far ∙ one

pub pairs_done : (front : Multipliers) (count i : ℕ) (bytes : List ℕ) (at low : ℕ) (total : Result (Multipliers × ℕ) TreeFault) → count ≤ i
    → with_front front (pairs_at (count - i) bytes at low) ≡ total → total ≡ Ok (front, at)
unfolding pairs_at
pairs_done front count i bytes at low total le so_far =
    let k : count - i ≡ 0 = omega arith in
    let one : with_front front (pairs_at (count - i) bytes at low) ≡ Ok (front, at) = rw k (ap (λ (ps : Multipliers). Ok (ps, at)) (append-nil front)) in
    sym so_far ∙ one

-- ---- vectors

pub vectors_go_on : (front : List Multipliers) (room count i : ℕ) (bytes : List ℕ) (at : ℕ) (v : Multipliers) (next : ℕ) (total : Result (List Multipliers × ℕ) TreeFault) → i < count → multipliers_at room bytes at ≡ Ok (v, next)
    → with_front front (vectors_at room (count - i) bytes at) ≡ total → with_front (front ++ v ∷ []) (vectors_at (room - length v) (count - (i + 1)) bytes next) ≡ total
unfolding vectors_at
vectors_go_on front room count i bytes at v next total lt h so_far =
    let k : count - i ≡ suc (count - (i + 1)) = omega arith in
    let one : with_front front (vectors_at room (count - i) bytes at) ≡ with_front (front ++ v ∷ []) (vectors_at (room - length v) (count - (i + 1)) bytes next) = rw (k, h) (regroup front v (vectors_at (room - length v) (count - (i + 1)) bytes next)) in
    sym one ∙ so_far

pub vectors_end : (front : List Multipliers) (room count i : ℕ) (bytes : List ℕ) (at : ℕ) (fault : TreeFault) (total : Result (List Multipliers × ℕ) TreeFault) → i < count → (fault ≡ Memory) ⊎ (multipliers_at room bytes at ≡ Err fault)
    → with_front front (vectors_at room (count - i) bytes at) ≡ total → (fault ≡ Memory) ⊎ (total ≡ Err fault)
unfolding vectors_at
vectors_end front room count i bytes at fault total lt (inl m) so_far = inl m
vectors_end front room count i bytes at fault total lt (inr h) so_far =
    let k : count - i ≡ suc (count - (i + 1)) = omega arith in
    let one : with_front front (vectors_at room (count - i) bytes at) ≡ Err fault = rw (k, h) refl in
    inr (sym so_far ∙ one)

pub vectors_done : (front : List Multipliers) (room count i : ℕ) (bytes : List ℕ) (at : ℕ) (total : Result (List Multipliers × ℕ) TreeFault) → count ≤ i
    → with_front front (vectors_at room (count - i) bytes at) ≡ total → total ≡ Ok (front, at)
unfolding vectors_at
vectors_done front room count i bytes at total le so_far =
    let k : count - i ≡ 0 = omega arith in
    let one : with_front front (vectors_at room (count - i) bytes at) ≡ Ok (front, at) = rw k (ap (λ (vs : List Multipliers). Ok (vs, at)) (append-nil front)) in
    sym so_far ∙ one

-- ---- nodes

pub nodes_go_on : (front : List Node) (room waiting : ℕ) (bytes : List ℕ) (at : ℕ) (node : Node) (next : ℕ) (total : Result (List Node × ℕ) TreeFault) → 0 < room → 0 < waiting → at < length bytes → node_at bytes at ≡ Ok (node, next)
    → with_front front (nodes_at room waiting bytes at) ≡ total → with_front (front ++ node ∷ []) (nodes_at (room - 1) (waiting - 1 + children node) bytes next) ≡ total
unfolding nodes_at
nodes_go_on front zero waiting bytes at node next total some wait there h so_far = absurd (omega arith)
nodes_go_on front (suc room) zero bytes at node next total some wait there h so_far = absurd (omega arith)
nodes_go_on front (suc room) (suc waiting) bytes at node next total some wait there h so_far =
    let less : suc room - 1 ≡ room = omega arith in
    let fewer : suc waiting - 1 ≡ waiting = omega arith in
    let one : with_front front (nodes_at (suc room) (suc waiting) bytes at) ≡ with_front (front ++ node ∷ []) (nodes_at room (waiting + children node) bytes next) = rw (lt-ltb at (length bytes) there, h) (regroup front node (nodes_at room (waiting + children node) bytes next)) in
    rw (less, fewer) (sym one ∙ so_far)

pub nodes_end : (front : List Node) (room waiting : ℕ) (bytes : List ℕ) (at : ℕ) (fault : TreeFault) (total : Result (List Node × ℕ) TreeFault) → 0 < room → 0 < waiting → at < length bytes → node_at bytes at ≡ Err fault
    → with_front front (nodes_at room waiting bytes at) ≡ total → total ≡ Err fault
unfolding nodes_at
nodes_end front zero waiting bytes at fault total some wait there h so_far = absurd (omega arith)
nodes_end front (suc room) zero bytes at fault total some wait there h so_far = absurd (omega arith)
nodes_end front (suc room) (suc waiting) bytes at fault total some wait there h so_far =
    let one : with_front front (nodes_at (suc room) (suc waiting) bytes at) ≡ Err fault = rw (lt-ltb at (length bytes) there, h) refl in
    sym so_far ∙ one

pub nodes_unfinished : (front : List Node) (room waiting : ℕ) (bytes : List ℕ) (at : ℕ) (total : Result (List Node × ℕ) TreeFault) → 0 < waiting → at ≡ length bytes
    → with_front front (nodes_at room waiting bytes at) ≡ total → total ≡ Err (Unfinished at)
unfolding nodes_at
nodes_unfinished front room zero bytes at total wait none so_far = absurd (omega arith)
nodes_unfinished front zero (suc waiting) bytes at total wait none so_far =
    let past : ltb at (length bytes) ≡ false = le-ltb at (length bytes) (omega arith) in
    let one : with_front front (nodes_at 0 (suc waiting) bytes at) ≡ Err (Unfinished at) = rw past refl in
    sym so_far ∙ one
nodes_unfinished front (suc room) (suc waiting) bytes at total wait none so_far =
    let past : ltb at (length bytes) ≡ false = le-ltb at (length bytes) (omega arith) in
    let one : with_front front (nodes_at (suc room) (suc waiting) bytes at) ≡ Err (Unfinished at) = rw past refl in
    sym so_far ∙ one

pub nodes_too_long : (front : List Node) (room waiting : ℕ) (bytes : List ℕ) (at : ℕ) (total : Result (List Node × ℕ) TreeFault) → room ≡ 0 → 0 < waiting → at < length bytes
    → with_front front (nodes_at room waiting bytes at) ≡ total → total ≡ Err (TooLong at)
unfolding nodes_at
nodes_too_long front room zero bytes at total none wait there so_far = absurd (omega arith)
nodes_too_long front (suc room) (suc waiting) bytes at total none wait there so_far = absurd cc
nodes_too_long front zero (suc waiting) bytes at total none wait there so_far =
    let one : with_front front (nodes_at 0 (suc waiting) bytes at) ≡ Err (TooLong at) = rw (lt-ltb at (length bytes) there) refl in
    sym so_far ∙ one

pub nodes_done : (front : List Node) (room waiting : ℕ) (bytes : List ℕ) (at : ℕ) (total : Result (List Node × ℕ) TreeFault) → waiting ≡ 0
    → with_front front (nodes_at room waiting bytes at) ≡ total → total ≡ Ok (front, at)
unfolding nodes_at
nodes_done front room (suc waiting) bytes at total none so_far = absurd cc
nodes_done front zero zero bytes at total none so_far = sym so_far ∙ ap (λ (ns : List Node). Ok (ns, at)) (append-nil front)
nodes_done front (suc room) zero bytes at total none so_far = sym so_far ∙ ap (λ (ns : List Node). Ok (ns, at)) (append-nil front)
