-- The first bytes of a tree, cut off anywhere before its end, are Short, or Unfinished at their
-- end.
use Rattle.std.proofs.Common.{◌≡◌, ℕ, zero, suc, ◌+◌, ◌-◌, ◌<◌, ◌≤◌, ◌⊎◌, inl, inr, true, false, ltb, leb, eqb, ◌||◌, List, [], ◌∷◌, length, get_or, take, drop, Option, None, Result, Ok, Err, refl, sym, ap, subst, ◌∙◌, arith}
use Rattle.std.specs.Int.{Width, w16, w32, byte_len, from_be_bytes}
use Rattle.std.proofs.lemmas.Bool.{cases_lt, lt-ltb, le-ltb}
use Rattle.std.proofs.lemmas.List.{take-take, drop-take, length-take-le, get_or-take, append-nil}
use Rattle.exam_text.specs.First.{◌>>=◌, unless, fault_where}
use Rattle.exam_text.proofs.Firsts.{bind_ok, unless_ok, ok_is, done}
use Rattle.certificate_model.specs.declared.node.Node.{Node}
use Rattle.certificate_model.specs.declared.node.Node.TheVariants.{BranchItem, BranchStimulus, Bound, Ray, Count, Whole, Open, Fix}
use Rattle.certificate_model.specs.Relaxed.{Multipliers}
use Rattle.certificate_model.specs.ProofTrees.{ProofTree}
use Rattle.proof_tree.specs.declared.fault.TreeFault.{TreeFault}
use Rattle.proof_tree.specs.declared.fault.TreeFault.TheVariants.{Short, BadVector, BadKind, Unfinished, TooLong}
use Rattle.proof_tree.specs.Shape.{IsTree, children}
use Rattle.proof_tree.specs.Spelling.{bytes_of}
use Rattle.proof_tree.specs.Reading.{number_at, byte_at, pair_at, pairs_at, multipliers_at, vectors_at, item_branch_at, stimulus_branch_at, bound_at, ray_at, count_at, fix_at, node_of_kind, node_at, nodes_at, read}
use Rattle.proof_tree.specs.Cuts.{IsCutOff}
use Rattle.proof_tree.proofs.Fields.{guard_ok, there_ok}
use Rattle.proof_tree.proofs.NodeLaws.{chosen}
use Rattle.proof_tree.proofs.TreeLaws.{guard_there, never_ok, written_is_read}

-- what was read up to `next` is read of the first k bytes too, or they are cut off
abbrev pub ReadsOrCut : {A : Type 0} → ℕ → ℕ → Result A TreeFault → A → Type 0
ReadsOrCut k next cut x = ((next ≤ k) × (cut ≡ Ok x)) ⊎ IsCutOff k cut

cut_short : {A B : Type 0} (k : ℕ) (r : Result A TreeFault) (f : A → Result B TreeFault) → IsCutOff k r → IsCutOff k (r >>= f)
cut_short k r f (inl e) = inl (rw e refl)
cut_short k r f (inr e) = inr (rw e refl)

and_then : {A B : Type 0} (k mid next : ℕ) (r : Result A TreeFault) (x : A) (f : A → Result B TreeFault) (y : B) → ReadsOrCut k mid r x → (mid ≤ k → ReadsOrCut k next (f x) y) → ReadsOrCut k next (r >>= f) y
and_then k mid next r x f y (inl h) g = rw h.1 (g h.0)
and_then k mid next r x f y (inr h) g = inr (cut_short k r f h)

and_passes : {A : Type 0} (k next : ℕ) (o : Option TreeFault) (r : Result A TreeFault) (y : A) → o ≡ None → ReadsOrCut k next r y → ReadsOrCut k next (unless o r) y
and_passes k next o r y e h = rw e h

-- ---- numbers

cut_piece : (k at m : ℕ) (l : List ℕ) → at + m ≤ k → take m (drop at (take k l)) ≡ take m (drop at l)
cut_piece k at m l le =
    let whole : at + (k - at) ≡ k = omega arith in
    let d : drop at (take k l) ≡ take (k - at) (drop at l) = subst (λ (n : ℕ). drop at (take n l) ≡ take (k - at) (drop at l)) whole (drop-take at (k - at) l) in
    ap (take m) d ∙ take-take m (k - at) (drop at l) (omega arith)

cut_number : (w : Width) (bytes : List ℕ) (k at n : ℕ) → k ≤ length bytes → number_at w bytes at ≡ Ok n → ReadsOrCut k (at + byte_len w) (number_at w (take k bytes) at) n
cut_number w bytes k at n kb e =
    let g = guard_ok (ltb (length bytes) (at + byte_len w)) Short (from_be_bytes w (take (byte_len w) (drop at bytes))) n e in
    let len : length (take k bytes) ≡ k = length-take-le k bytes kb in
    elim (cases_lt k (at + byte_len w)) [
      | inl lt ↦ (let test : ltb k (at + byte_len w) ≡ true = lt-ltb k (at + byte_len w) lt in inr (inl (rw (len, test) refl)))
      | inr le ↦ (let test : ltb k (at + byte_len w) ≡ false = le-ltb k (at + byte_len w) le in
          let piece : take (byte_len w) (drop at (take k bytes)) ≡ take (byte_len w) (drop at bytes) = cut_piece k at (byte_len w) bytes le in
          inl (le, rw (len, test, piece, g.1) refl))
    ]

cut_byte : (bytes : List ℕ) (k at b : ℕ) → k ≤ length bytes → byte_at bytes at ≡ Ok b → ReadsOrCut k (at + 1) (byte_at (take k bytes) at) b
cut_byte bytes k at b kb e =
    let g = there_ok (ltb at (length bytes)) Short (get_or bytes at 0) b e in
    let len : length (take k bytes) ≡ k = length-take-le k bytes kb in
    elim (cases_lt at k) [
      | inl lt ↦ (let test : ltb at k ≡ true = lt-ltb at k lt in
          let same : get_or (take k bytes) at 0 ≡ get_or bytes at 0 = get_or-take k bytes at 0 lt in
          inl (omega arith, rw (len, test, same, g.1) refl))
      | inr le ↦ (let test : ltb at k ≡ false = le-ltb at k le in inr (inl (rw (len, test) refl)))
    ]

-- ---- vectors

cut_pair : (bytes : List ℕ) (k at low : ℕ) (pair : ℕ × ℕ) → k ≤ length bytes → pair_at bytes at low ≡ Ok pair → ReadsOrCut k (at + 6) (pair_at (take k bytes) at low) pair
unfolding pair_at
cut_pair bytes k at low pair kb e =
    let a = bind_ok (number_at w16 bytes at) (λ side. unless (fault_where (ltb side low || leb 386 side) (BadVector at)) (number_at w32 bytes (at + 2) >>= λ m. unless (fault_where (eqb m 0 || ltb 16777216 m) (BadVector (at + 2))) (Ok (side, m)))) pair e in
    let u = unless_ok (fault_where (ltb a.0 low || leb 386 a.0) (BadVector at)) (number_at w32 bytes (at + 2) >>= λ m. unless (fault_where (eqb m 0 || ltb 16777216 m) (BadVector (at + 2))) (Ok (a.0, m))) pair a.2 in
    let b = bind_ok (number_at w32 bytes (at + 2)) (λ m. unless (fault_where (eqb m 0 || ltb 16777216 m) (BadVector (at + 2))) (Ok (a.0, m))) pair u.1 in
    let v = unless_ok (fault_where (eqb b.0 0 || ltb 16777216 b.0) (BadVector (at + 2))) (Ok (a.0, b.0)) pair b.2 in
    and_then k (at + 2) (at + 6) (number_at w16 (take k bytes) at) a.0 (λ side. unless (fault_where (ltb side low || leb 386 side) (BadVector at)) (number_at w32 (take k bytes) (at + 2) >>= λ m. unless (fault_where (eqb m 0 || ltb 16777216 m) (BadVector (at + 2))) (Ok (side, m)))) pair (cut_number w16 bytes k at a.0 kb a.1)
    (λ le. and_passes k (at + 6) (fault_where (ltb a.0 low || leb 386 a.0) (BadVector at)) _ pair u.0
    (and_then k (at + 2 + 4) (at + 6) (number_at w32 (take k bytes) (at + 2)) b.0 (λ m. unless (fault_where (eqb m 0 || ltb 16777216 m) (BadVector (at + 2))) (Ok (a.0, m))) pair (cut_number w32 bytes k (at + 2) b.0 kb b.1)
    (λ le. and_passes k (at + 6) (fault_where (eqb b.0 0 || ltb 16777216 b.0) (BadVector (at + 2))) _ pair v.0 (inl (omega arith, v.1)))))

cut_pairs : (count : ℕ) (bytes : List ℕ) (k at low : ℕ) (x : Multipliers × ℕ) → k ≤ length bytes → at ≤ k → pairs_at count bytes at low ≡ Ok x → ReadsOrCut k x.1 (pairs_at count (take k bytes) at low) x
unfolding pairs_at
cut_pairs zero bytes k at low x kb there e = inl (omega (arith, there, ap (λ (y : Multipliers × ℕ). y.1) (ok_is {F = TreeFault} ([], at) x e)), e)
cut_pairs (suc count) bytes k at low x kb there e =
    let a = bind_ok (pair_at bytes at low) (λ first. pairs_at count bytes (at + 6) (first.0 + 1) >>= λ others. Ok (first ∷ others.0, others.1)) x e in
    let b = bind_ok (pairs_at count bytes (at + 6) (a.0.0 + 1)) (λ others. Ok (a.0 ∷ others.0, others.1)) x a.2 in
    let same : b.0.1 ≡ x.1 = ap (λ (y : Multipliers × ℕ). y.1) (ok_is {F = TreeFault} (a.0 ∷ b.0.0, b.0.1) x b.2) in
    and_then k (at + 6) x.1 (pair_at (take k bytes) at low) a.0 (λ first. pairs_at count (take k bytes) (at + 6) (first.0 + 1) >>= λ others. Ok (first ∷ others.0, others.1)) x (cut_pair bytes k at low a.0 kb a.1)
    (λ le. and_then k b.0.1 x.1 (pairs_at count (take k bytes) (at + 6) (a.0.0 + 1)) b.0 (λ others. Ok (a.0 ∷ others.0, others.1)) x (cut_pairs count bytes k (at + 6) (a.0.0 + 1) b.0 kb le b.1)
    (λ within. inl (omega (arith, same, within), b.2)))

cut_multipliers : (room : ℕ) (bytes : List ℕ) (k at : ℕ) (x : Multipliers × ℕ) → k ≤ length bytes → multipliers_at room bytes at ≡ Ok x → ReadsOrCut k x.1 (multipliers_at room (take k bytes) at) x
unfolding multipliers_at
cut_multipliers room bytes k at x kb e =
    let a = bind_ok (number_at w16 bytes at) (λ count. unless (fault_where (ltb 384 count || ltb room count) (BadVector at)) (pairs_at count bytes (at + 2) 0)) x e in
    let u = unless_ok (fault_where (ltb 384 a.0 || ltb room a.0) (BadVector at)) (pairs_at a.0 bytes (at + 2) 0) x a.2 in
    and_then k (at + 2) x.1 (number_at w16 (take k bytes) at) a.0 (λ count. unless (fault_where (ltb 384 count || ltb room count) (BadVector at)) (pairs_at count (take k bytes) (at + 2) 0)) x (cut_number w16 bytes k at a.0 kb a.1)
    (λ le. and_passes k x.1 (fault_where (ltb 384 a.0 || ltb room a.0) (BadVector at)) (pairs_at a.0 (take k bytes) (at + 2) 0) x u.0 (cut_pairs a.0 bytes k (at + 2) 0 x kb le u.1))

cut_vectors : (room count : ℕ) (bytes : List ℕ) (k at : ℕ) (x : List Multipliers × ℕ) → k ≤ length bytes → at ≤ k → vectors_at room count bytes at ≡ Ok x → ReadsOrCut k x.1 (vectors_at room count (take k bytes) at) x
unfolding vectors_at
cut_vectors room zero bytes k at x kb there e = inl (omega (arith, there, ap (λ (y : List Multipliers × ℕ). y.1) (ok_is {F = TreeFault} ([], at) x e)), e)
cut_vectors room (suc count) bytes k at x kb there e =
    let a = bind_ok (multipliers_at room bytes at) (λ first. vectors_at (room - length first.0) count bytes first.1 >>= λ others. Ok (first.0 ∷ others.0, others.1)) x e in
    let b = bind_ok (vectors_at (room - length a.0.0) count bytes a.0.1) (λ others. Ok (a.0.0 ∷ others.0, others.1)) x a.2 in
    let same : b.0.1 ≡ x.1 = ap (λ (y : List Multipliers × ℕ). y.1) (ok_is {F = TreeFault} (a.0.0 ∷ b.0.0, b.0.1) x b.2) in
    and_then k a.0.1 x.1 (multipliers_at room (take k bytes) at) a.0 (λ first. vectors_at (room - length first.0) count (take k bytes) first.1 >>= λ others. Ok (first.0 ∷ others.0, others.1)) x (cut_multipliers room bytes k at a.0 kb a.1)
    (λ le. and_then k b.0.1 x.1 (vectors_at (room - length a.0.0) count (take k bytes) a.0.1) b.0 (λ others. Ok (a.0.0 ∷ others.0, others.1)) x (cut_vectors (room - length a.0.0) count bytes k a.0.1 b.0 kb le b.1)
    (λ within. inl (omega (arith, same, within), b.2)))

-- ---- nodes

-- a node of a kind and a number of one byte
cut_numbered : (bytes : List ℕ) (k at n : ℕ) (f : ℕ → Result (Node × ℕ) TreeFault) (x : Node × ℕ) → k ≤ length bytes → byte_at bytes (at + 1) ≡ Ok n → f n ≡ Ok x → x.1 ≡ at + 2 → ReadsOrCut k x.1 (byte_at (take k bytes) (at + 1) >>= f) x
cut_numbered bytes k at n f x kb e h end =
    and_then k (at + 1 + 1) x.1 (byte_at (take k bytes) (at + 1)) n f x (cut_byte bytes k (at + 1) n kb e) (λ le. inl (omega (arith, end), h))

place_of : (node : Node) (next : ℕ) (x : Node × ℕ) → done {F = TreeFault} (node, next) ≡ Ok x → x.1 ≡ next
place_of node next x e = ap (λ (y : Node × ℕ). y.1) (sym (ok_is {F = TreeFault} (node, next) x e))

cut_item : (bytes : List ℕ) (k at : ℕ) (x : Node × ℕ) → k ≤ length bytes → item_branch_at bytes at ≡ Ok x → ReadsOrCut k x.1 (item_branch_at (take k bytes) at) x
unfolding item_branch_at
cut_item bytes k at x kb e =
    let a = bind_ok (number_at w16 bytes (at + 1)) (λ item. unless (fault_where (leb 512 item) (BadKind at)) (Ok (BranchItem item, at + 3))) x e in
    let u = unless_ok (fault_where (leb 512 a.0) (BadKind at)) (Ok (BranchItem a.0, at + 3)) x a.2 in
    let end = place_of (BranchItem a.0) (at + 3) x u.1 in
    and_then k (at + 1 + 2) x.1 (number_at w16 (take k bytes) (at + 1)) a.0 (λ item. unless (fault_where (leb 512 item) (BadKind at)) (Ok (BranchItem item, at + 3))) x (cut_number w16 bytes k (at + 1) a.0 kb a.1)
    (λ le. inl (omega (arith, end), a.2))

cut_stimulus : (bytes : List ℕ) (k at : ℕ) (x : Node × ℕ) → k ≤ length bytes → stimulus_branch_at bytes at ≡ Ok x → ReadsOrCut k x.1 (stimulus_branch_at (take k bytes) at) x
unfolding stimulus_branch_at
cut_stimulus bytes k at x kb e =
    let f : ℕ → Result (Node × ℕ) TreeFault = λ s. unless (fault_where (eqb s 0 || ltb 64 s) (BadKind at)) (Ok (BranchStimulus s, at + 2)) in
    let a = bind_ok (byte_at bytes (at + 1)) f x e in
    let u = unless_ok (fault_where (eqb a.0 0 || ltb 64 a.0) (BadKind at)) (Ok (BranchStimulus a.0, at + 2)) x a.2 in
    cut_numbered bytes k at a.0 f x kb a.1 a.2 (place_of (BranchStimulus a.0) (at + 2) x u.1)

cut_bound : (bytes : List ℕ) (k at : ℕ) (x : Node × ℕ) → k ≤ length bytes → bound_at bytes at ≡ Ok x → ReadsOrCut k x.1 (bound_at (take k bytes) at) x
unfolding bound_at
cut_bound bytes k at x kb e =
    let f : ℕ → Result (Node × ℕ) TreeFault = λ v. Ok (Bound v, at + 2) in
    let a = bind_ok (byte_at bytes (at + 1)) f x e in
    cut_numbered bytes k at a.0 f x kb a.1 a.2 (place_of (Bound a.0) (at + 2) x a.2)

cut_ray : (bytes : List ℕ) (k at : ℕ) (x : Node × ℕ) → k ≤ length bytes → ray_at bytes at ≡ Ok x → ReadsOrCut k x.1 (ray_at (take k bytes) at) x
unfolding ray_at
cut_ray bytes k at x kb e =
    let f : ℕ → Result (Node × ℕ) TreeFault = λ v. Ok (Ray v, at + 2) in
    let a = bind_ok (byte_at bytes (at + 1)) f x e in
    cut_numbered bytes k at a.0 f x kb a.1 a.2 (place_of (Ray a.0) (at + 2) x a.2)

cut_count : (bytes : List ℕ) (k at : ℕ) (x : Node × ℕ) → k ≤ length bytes → count_at bytes at ≡ Ok x → ReadsOrCut k x.1 (count_at (take k bytes) at) x
unfolding count_at
cut_count bytes k at x kb e =
    let f : ℕ → Result (Node × ℕ) TreeFault = λ r. unless (fault_where (ltb 192 r) (BadKind at)) (Ok (Count r, at + 2)) in
    let a = bind_ok (byte_at bytes (at + 1)) f x e in
    let u = unless_ok (fault_where (ltb 192 a.0) (BadKind at)) (Ok (Count a.0, at + 2)) x a.2 in
    cut_numbered bytes k at a.0 f x kb a.1 a.2 (place_of (Count a.0) (at + 2) x u.1)

cut_fix : (bytes : List ℕ) (k at : ℕ) (x : Node × ℕ) → k ≤ length bytes → fix_at bytes at ≡ Ok x → ReadsOrCut k x.1 (fix_at (take k bytes) at) x
unfolding fix_at
cut_fix bytes k at x kb e =
    let f : ℕ → Result (Node × ℕ) TreeFault = λ v. number_at w32 bytes (at + 2) >>= λ goal. Ok (Fix v goal, at + 6) in
    let a = bind_ok (byte_at bytes (at + 1)) f x e in
    let b = bind_ok (number_at w32 bytes (at + 2)) (λ goal. Ok (Fix a.0 goal, at + 6)) x a.2 in
    let end = place_of (Fix a.0 b.0) (at + 6) x b.2 in
    and_then k (at + 1 + 1) x.1 (byte_at (take k bytes) (at + 1)) a.0 (λ v. number_at w32 (take k bytes) (at + 2) >>= λ goal. Ok (Fix v goal, at + 6)) x (cut_byte bytes k (at + 1) a.0 kb a.1)
    (λ le. and_then k (at + 2 + 4) x.1 (number_at w32 (take k bytes) (at + 2)) b.0 (λ goal. Ok (Fix a.0 goal, at + 6)) x (cut_number w32 bytes k (at + 2) b.0 kb b.1)
    (λ within. inl (omega (arith, end), b.2)))

cut_kind : (bytes : List ℕ) (k at kind : ℕ) (x : Node × ℕ) → k ≤ length bytes → at + 1 ≤ k → node_of_kind kind bytes at ≡ Ok x → ReadsOrCut k x.1 (node_of_kind kind (take k bytes) at) x
unfolding node_of_kind
cut_kind bytes k at kind x kb there e =
    elim (chosen (eqb kind 1) (item_branch_at bytes at) _ (Ok x) e) [
      | inl h ↦ rw h.0 (cut_item bytes k at x kb h.1)
      | inr r1 ↦ elim (chosen (eqb kind 2) (stimulus_branch_at bytes at) _ (Ok x) r1.1) [
        | inl h ↦ rw (r1.0, h.0) (cut_stimulus bytes k at x kb h.1)
        | inr r2 ↦ elim (chosen (eqb kind 3) (bound_at bytes at) _ (Ok x) r2.1) [
          | inl h ↦ rw (r1.0, r2.0, h.0) (cut_bound bytes k at x kb h.1)
          | inr r3 ↦ elim (chosen (eqb kind 4) (ray_at bytes at) _ (Ok x) r3.1) [
            | inl h ↦ rw (r1.0, r2.0, r3.0, h.0) (cut_ray bytes k at x kb h.1)
            | inr r4 ↦ elim (chosen (eqb kind 5) (count_at bytes at) _ (Ok x) r4.1) [
              | inl h ↦ rw (r1.0, r2.0, r3.0, r4.0, h.0) (cut_count bytes k at x kb h.1)
              | inr r5 ↦ elim (chosen (eqb kind 6) (Ok (Whole, at + 1)) _ (Ok x) r5.1) [
                | inl h ↦ rw (r1.0, r2.0, r3.0, r4.0, r5.0, h.0) (inl (omega (arith, there, place_of Whole (at + 1) x h.1), h.1))
                | inr r6 ↦ elim (chosen (eqb kind 7) (Ok (Open, at + 1)) _ (Ok x) r6.1) [
                  | inl h ↦ rw (r1.0, r2.0, r3.0, r4.0, r5.0, r6.0, h.0) (inl (omega (arith, there, place_of Open (at + 1) x h.1), h.1))
                  | inr r7 ↦ elim (chosen (eqb kind 8) (fix_at bytes at) _ (Ok x) r7.1) [
                    | inl h ↦ rw (r1.0, r2.0, r3.0, r4.0, r5.0, r6.0, r7.0, h.0) (cut_fix bytes k at x kb h.1)
                    | inr r8 ↦ absurd (let no = r8.1 in cc)
                  ]
                ]
              ]
            ]
          ]
        ]
      ]
    ]

cut_node : (bytes : List ℕ) (k at : ℕ) (x : Node × ℕ) → k ≤ length bytes → node_at bytes at ≡ Ok x → ReadsOrCut k x.1 (node_at (take k bytes) at) x
unfolding node_at
cut_node bytes k at x kb e =
    let a = bind_ok (byte_at bytes at) (λ kind. node_of_kind kind bytes at) x e in
    and_then k (at + 1) x.1 (byte_at (take k bytes) at) a.0 (λ kind. node_of_kind kind (take k bytes) at) x (cut_byte bytes k at a.0 kb a.1) (λ le. cut_kind bytes k at a.0 x kb le a.2)

cut_nodes : (room waiting : ℕ) (bytes : List ℕ) (k at : ℕ) (x : List Node × ℕ) → k ≤ length bytes → at ≤ k → nodes_at room waiting bytes at ≡ Ok x → ReadsOrCut k x.1 (nodes_at room waiting (take k bytes) at) x
unfolding nodes_at
cut_nodes zero zero bytes k at x kb there e = inl (omega (arith, there, ap (λ (y : List Node × ℕ). y.1) (ok_is {F = TreeFault} ([], at) x e)), e)
cut_nodes (suc room) zero bytes k at x kb there e = inl (omega (arith, there, ap (λ (y : List Node × ℕ). y.1) (ok_is {F = TreeFault} ([], at) x e)), e)
cut_nodes zero (suc waiting) bytes k at x kb there e = absurd (never_ok (ltb at (length bytes)) (TooLong at) (Unfinished at) x e)
cut_nodes (suc room) (suc waiting) bytes k at x kb there e =
    let g = guard_there (ltb at (length bytes)) (node_at bytes at >>= λ first. nodes_at room (waiting + children first.0) bytes first.1 >>= λ others. Ok (first.0 ∷ others.0, others.1)) (Unfinished at) x e in
    let a = bind_ok (node_at bytes at) (λ first. nodes_at room (waiting + children first.0) bytes first.1 >>= λ others. Ok (first.0 ∷ others.0, others.1)) x g.1 in
    let b = bind_ok (nodes_at room (waiting + children a.0.0) bytes a.0.1) (λ others. Ok (a.0.0 ∷ others.0, others.1)) x a.2 in
    let same : b.0.1 ≡ x.1 = ap (λ (y : List Node × ℕ). y.1) (ok_is {F = TreeFault} (a.0.0 ∷ b.0.0, b.0.1) x b.2) in
    let len : length (take k bytes) ≡ k = length-take-le k bytes kb in
    elim (cases_lt at k) [
      | inl lt ↦ (let test : ltb at k ≡ true = lt-ltb at k lt in
          rw (len, test) (and_then k a.0.1 x.1 (node_at (take k bytes) at) a.0 (λ first. nodes_at room (waiting + children first.0) (take k bytes) first.1 >>= λ others. Ok (first.0 ∷ others.0, others.1)) x (cut_node bytes k at a.0 kb a.1)
          (λ le. and_then k b.0.1 x.1 (nodes_at room (waiting + children a.0.0) (take k bytes) a.0.1) b.0 (λ others. Ok (a.0.0 ∷ others.0, others.1)) x (cut_nodes room (waiting + children a.0.0) bytes k a.0.1 b.0 kb le b.1)
          (λ within. inl (omega (arith, same, within), b.2)))))
      | inr le ↦ (let test : ltb at k ≡ false = le-ltb at k le in
          let end : at ≡ k = omega arith in
          inr (inr (rw (len, test) (ap (λ (n : ℕ). Err (Unfinished n)) end))))
    ]

-- ---- the tree

cut_read : (bytes : List ℕ) (k : ℕ) (x : ProofTree × ℕ) → k ≤ length bytes → read bytes ≡ Ok x → ReadsOrCut k x.1 (read (take k bytes)) x
unfolding read
cut_read bytes k x kb e =
    let a = bind_ok (byte_at bytes 0) (λ count. vectors_at 12288 count bytes 1 >>= λ vectors. nodes_at 4095 1 bytes vectors.1 >>= λ nodes. Ok (record { vectors = vectors.0; nodes = nodes.0 }, nodes.1)) x e in
    let b = bind_ok (vectors_at 12288 a.0 bytes 1) (λ vectors. nodes_at 4095 1 bytes vectors.1 >>= λ nodes. Ok (record { vectors = vectors.0; nodes = nodes.0 }, nodes.1)) x a.2 in
    let n = bind_ok (nodes_at 4095 1 bytes b.0.1) (λ nodes. Ok (record { vectors = b.0.0; nodes = nodes.0 }, nodes.1)) x b.2 in
    let same : n.0.1 ≡ x.1 = ap (λ (y : ProofTree × ℕ). y.1) (ok_is {F = TreeFault} (record { vectors = b.0.0; nodes = n.0.0 }, n.0.1) x n.2) in
    and_then k 1 x.1 (byte_at (take k bytes) 0) a.0 (λ count. vectors_at 12288 count (take k bytes) 1 >>= λ vectors. nodes_at 4095 1 (take k bytes) vectors.1 >>= λ nodes. Ok (record { vectors = vectors.0; nodes = nodes.0 }, nodes.1)) x (cut_byte bytes k 0 a.0 kb a.1)
    (λ le. and_then k b.0.1 x.1 (vectors_at 12288 a.0 (take k bytes) 1) b.0 (λ vectors. nodes_at 4095 1 (take k bytes) vectors.1 >>= λ nodes. Ok (record { vectors = vectors.0; nodes = nodes.0 }, nodes.1)) x (cut_vectors 12288 a.0 bytes k 1 b.0 kb le b.1)
    (λ behind. and_then k n.0.1 x.1 (nodes_at 4095 1 (take k bytes) b.0.1) n.0 (λ nodes. Ok (record { vectors = b.0.0; nodes = nodes.0 }, nodes.1)) x (cut_nodes 4095 1 bytes k b.0.1 n.0 kb behind n.1)
    (λ within. inl (omega (arith, same, within), n.2))))

never_past : {A : Type 0} (k next : ℕ) (r : Result A TreeFault) (x : A) → k < next → ReadsOrCut k next r x → IsCutOff k r
never_past k next r x lt (inl h) = absurd (omega (arith, h.0))
never_past k next r x lt (inr h) = h

pub cut_off_is_told : (T : ProofTree) (k : ℕ) → IsTree T → k < length (bytes_of T) → IsCutOff k (read (take k (bytes_of T)))
cut_off_is_told T k is lt =
    let whole : read (bytes_of T) ≡ Ok (T, length (bytes_of T)) = ap read (sym (append-nil (bytes_of T))) ∙ written_is_read T [] is in
    never_past k (length (bytes_of T)) (read (take k (bytes_of T))) (T, length (bytes_of T)) lt (cut_read (bytes_of T) k (T, length (bytes_of T)) (omega arith) whole)
