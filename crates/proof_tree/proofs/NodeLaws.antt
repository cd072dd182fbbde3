-- A node that is read is the node that was written, and what was written is read again.
use Rattle.std.proofs.Common.{◌≡◌, ℕ, ◌+◌, ◌^◌, ◌<◌, ◌≤◌, ◌⊎◌, inl, inr, Bool, true, false, cond, ltb, leb, eqb, ◌||◌, List, [], ◌∷◌, Ok, refl, ap, subst, arith}
use Rattle.std.specs.Int.{w16, w32, to_be_bytes}
use Rattle.std.proofs.lemmas.Bool.{or_parts, or_from, ltb-false, leb-false, eqb-true, eqb-false, le-ltb, lt-leb, ne_eqb}
use Rattle.exam_text.specs.First.{◌>>=◌, unless, fault_where}
use Rattle.exam_text.proofs.Firsts.{bind_ok, unless_ok, none_where, ok_is}
use Rattle.certificate_model.specs.declared.node.Node.{Node}
use Rattle.certificate_model.specs.declared.node.Node.TheVariants.{BranchItem, BranchStimulus, Bound, Ray, Count, Whole, Open, Fix}
use Rattle.proof_tree.specs.declared.fault.TreeFault.{TreeFault}
use Rattle.proof_tree.specs.declared.fault.TreeFault.TheVariants.{BadKind}
use Rattle.proof_tree.specs.Shape.{IsNode}
use Rattle.proof_tree.specs.Spelling.{node_bytes}
use Rattle.proof_tree.specs.Reading.{number_at, byte_at, item_branch_at, stimulus_branch_at, bound_at, ray_at, count_at, fix_at, node_of_kind, node_at}
use Rattle.proof_tree.proofs.Fields.{IsBytes, Stands, stand_both, stand_first, stand_second, wide16, wide32, number_stands, number_again, byte_stands, byte_again}

-- the bytes have the node that was read there, and its number is in its range
abbrev pub Found : List ℕ → ℕ → Node × ℕ → Type 0
Found bytes at x = Stands bytes at (node_bytes x.0) x.1 × IsNode x.0

pub chosen : {A : Type 0} (b : Bool) (x y z : A) → cond b x y ≡ z → ((b ≡ true) × (x ≡ z)) ⊎ ((b ≡ false) × (y ≡ z))
chosen true x y z e = inl (refl, e)
chosen false x y z e = inr (refl, e)

-- a kind and a number of one byte, one after the other
kind_and_byte : (bytes : List ℕ) (at kind n : ℕ) → Stands bytes at (kind ∷ []) (at + 1) → Stands bytes (at + 1) (n ∷ []) (at + 1 + 1) → Stands bytes at (kind ∷ n ∷ []) (at + 2)
kind_and_byte bytes at kind n p q =
    let two : at + 1 + 1 ≡ at + 2 = omega arith in
    subst (λ (m : ℕ). Stands bytes at (kind ∷ n ∷ []) m) two (stand_both bytes at (kind ∷ []) (at + 1) (n ∷ []) (at + 1 + 1) p q)

item_branch_stands : (bytes : List ℕ) (at : ℕ) (x : Node × ℕ) → IsBytes bytes → Stands bytes at (1 ∷ []) (at + 1) → item_branch_at bytes at ≡ Ok x → Found bytes at x
unfolding item_branch_at
item_branch_stands bytes at x fits kind e =
    let a = bind_ok (number_at w16 bytes (at + 1)) (λ item. unless (fault_where (leb 512 item) (BadKind at)) (Ok (BranchItem item, at + 3))) x e in
    let u = unless_ok (fault_where (leb 512 a.0) (BadKind at)) (Ok (BranchItem a.0, at + 3)) x a.2 in
    let test : a.0 < 512 = leb-false _ _ (none_where (leb 512 a.0) (BadKind at) u.0) in
    let second = number_stands w16 (2 ^ 16) wide16 bytes (at + 1) a.0 fits a.1 in
    let both = stand_both bytes at (1 ∷ []) (at + 1) (to_be_bytes w16 a.0) (at + 1 + 2) kind second.0 in
    let three : at + 1 + 2 ≡ at + 3 = omega arith in
    let whole : Stands bytes at (1 ∷ to_be_bytes w16 a.0) (at + 3) = subst (λ (m : ℕ). Stands bytes at (1 ∷ to_be_bytes w16 a.0) m) three both in
    subst (Found bytes at) (ok_is {F = TreeFault} (BranchItem a.0, at + 3) x u.1) (whole, test)

stimulus_branch_stands : (bytes : List ℕ) (at : ℕ) (x : Node × ℕ) → IsBytes bytes → Stands bytes at (2 ∷ []) (at + 1) → stimulus_branch_at bytes at ≡ Ok x → Found bytes at x
unfolding stimulus_branch_at
stimulus_branch_stands bytes at x fits kind e =
    let a = bind_ok (byte_at bytes (at + 1)) (λ s. unless (fault_where (eqb s 0 || ltb 64 s) (BadKind at)) (Ok (BranchStimulus s, at + 2))) x e in
    let u = unless_ok (fault_where (eqb a.0 0 || ltb 64 a.0) (BadKind at)) (Ok (BranchStimulus a.0, at + 2)) x a.2 in
    let test = or_parts (eqb a.0 0) (ltb 64 a.0) (none_where (eqb a.0 0 || ltb 64 a.0) (BadKind at) u.0) in
    let some = eqb-false a.0 0 test.0 in
    let few : a.0 ≤ 64 = ltb-false _ _ test.1 in
    let second = byte_stands bytes (at + 1) a.0 fits a.1 in
    subst (Found bytes at) (ok_is {F = TreeFault} (BranchStimulus a.0, at + 2) x u.1) (kind_and_byte bytes at 2 a.0 kind second.0, (omega (arith, some), few))

bound_stands : (bytes : List ℕ) (at : ℕ) (x : Node × ℕ) → IsBytes bytes → Stands bytes at (3 ∷ []) (at + 1) → bound_at bytes at ≡ Ok x → Found bytes at x
unfolding bound_at
bound_stands bytes at x fits kind e =
    let a = bind_ok (byte_at bytes (at + 1)) (λ v. Ok (Bound v, at + 2)) x e in
    let second = byte_stands bytes (at + 1) a.0 fits a.1 in
    subst (Found bytes at) (ok_is {F = TreeFault} (Bound a.0, at + 2) x a.2) (kind_and_byte bytes at 3 a.0 kind second.0, second.1)

ray_stands : (bytes : List ℕ) (at : ℕ) (x : Node × ℕ) → IsBytes bytes → Stands bytes at (4 ∷ []) (at + 1) → ray_at bytes at ≡ Ok x → Found bytes at x
unfolding ray_at
ray_stands bytes at x fits kind e =
    let a = bind_ok (byte_at bytes (at + 1)) (λ v. Ok (Ray v, at + 2)) x e in
    let second = byte_stands bytes (at + 1) a.0 fits a.1 in
    subst (Found bytes at) (ok_is {F = TreeFault} (Ray a.0, at + 2) x a.2) (kind_and_byte bytes at 4 a.0 kind second.0, second.1)

count_stands : (bytes : List ℕ) (at : ℕ) (x : Node × ℕ) → IsBytes bytes → Stands bytes at (5 ∷ []) (at + 1) → count_at bytes at ≡ Ok x → Found bytes at x
unfolding count_at
count_stands bytes at x fits kind e =
    let a = bind_ok (byte_at bytes (at + 1)) (λ r. unless (fault_where (ltb 192 r) (BadKind at)) (Ok (Count r, at + 2))) x e in
    let u = unless_ok (fault_where (ltb 192 a.0) (BadKind at)) (Ok (Count a.0, at + 2)) x a.2 in
    let few : a.0 ≤ 192 = ltb-false _ _ (none_where (ltb 192 a.0) (BadKind at) u.0) in
    let second = byte_stands bytes (at + 1) a.0 fits a.1 in
    subst (Found bytes at) (ok_is {F = TreeFault} (Count a.0, at + 2) x u.1) (kind_and_byte bytes at 5 a.0 kind second.0, few)

fix_stands : (bytes : List ℕ) (at : ℕ) (x : Node × ℕ) → IsBytes bytes → Stands bytes at (8 ∷ []) (at + 1) → fix_at bytes at ≡ Ok x → Found bytes at x
unfolding fix_at
fix_stands bytes at x fits kind e =
    let a = bind_ok (byte_at bytes (at + 1)) (λ v. number_at w32 bytes (at + 2) >>= λ goal. Ok (Fix v goal, at + 6)) x e in
    let b = bind_ok (number_at w32 bytes (at + 2)) (λ goal. Ok (Fix a.0 goal, at + 6)) x a.2 in
    let second = byte_stands bytes (at + 1) a.0 fits a.1 in
    let front = kind_and_byte bytes at 8 a.0 kind second.0 in
    let third = number_stands w32 (2 ^ 32) wide32 bytes (at + 2) b.0 fits b.1 in
    let both = stand_both bytes at (8 ∷ a.0 ∷ []) (at + 2) (to_be_bytes w32 b.0) (at + 2 + 4) front third.0 in
    let six : at + 2 + 4 ≡ at + 6 = omega arith in
    let whole : Stands bytes at (8 ∷ a.0 ∷ to_be_bytes w32 b.0) (at + 6) = subst (λ (m : ℕ). Stands bytes at (8 ∷ a.0 ∷ to_be_bytes w32 b.0) m) six both in
    subst (Found bytes at) (ok_is {F = TreeFault} (Fix a.0 b.0, at + 6) x b.2) (whole, (second.1, third.1))

-- the kind is this one
as_kind : (bytes : List ℕ) (at kind k : ℕ) → eqb kind k ≡ true → Stands bytes at (kind ∷ []) (at + 1) → Stands bytes at (k ∷ []) (at + 1)
as_kind bytes at kind k test p = subst (λ (n : ℕ). Stands bytes at (n ∷ []) (at + 1)) (eqb-true kind k test) p

kind_stands : (bytes : List ℕ) (at kind : ℕ) (x : Node × ℕ) → IsBytes bytes → Stands bytes at (kind ∷ []) (at + 1) → node_of_kind kind bytes at ≡ Ok x → Found bytes at x
unfolding node_of_kind
kind_stands bytes at kind x fits p e =
    elim (chosen (eqb kind 1) (item_branch_at bytes at) _ (Ok x) e) [
      | inl h ↦ item_branch_stands bytes at x fits (as_kind bytes at kind 1 h.0 p) h.1
      | inr r1 ↦ elim (chosen (eqb kind 2) (stimulus_branch_at bytes at) _ (Ok x) r1.1) [
        | inl h ↦ stimulus_branch_stands bytes at x fits (as_kind bytes at kind 2 h.0 p) h.1
        | inr r2 ↦ elim (chosen (eqb kind 3) (bound_at bytes at) _ (Ok x) r2.1) [
          | inl h ↦ bound_stands bytes at x fits (as_kind bytes at kind 3 h.0 p) h.1
          | inr r3 ↦ elim (chosen (eqb kind 4) (ray_at bytes at) _ (Ok x) r3.1) [
            | inl h ↦ ray_stands bytes at x fits (as_kind bytes at kind 4 h.0 p) h.1
            | inr r4 ↦ elim (chosen (eqb kind 5) (count_at bytes at) _ (Ok x) r4.1) [
              | inl h ↦ count_stands bytes at x fits (as_kind bytes at kind 5 h.0 p) h.1
              | inr r5 ↦ elim (chosen (eqb kind 6) (Ok (Whole, at + 1)) _ (Ok x) r5.1) [
                | inl h ↦ subst (Found bytes at) (ok_is {F = TreeFault} (Whole, at + 1) x h.1) (as_kind bytes at kind 6 h.0 p, tt)
                | inr r6 ↦ elim (chosen (eqb kind 7) (Ok (Open, at + 1)) _ (Ok x) r6.1) [
                  | inl h ↦ subst (Found bytes at) (ok_is {F = TreeFault} (Open, at + 1) x h.1) (as_kind bytes at kind 7 h.0 p, tt)
                  | inr r7 ↦ elim (chosen (eqb kind 8) (fix_at bytes at) _ (Ok x) r7.1) [
                    | inl h ↦ fix_stands bytes at x fits (as_kind bytes at kind 8 h.0 p) h.1
                    | inr r8 ↦ absurd (let no = r8.1 in cc)
                  ]
                ]
              ]
            ]
          ]
        ]
      ]
    ]

pub node_stands : (bytes : List ℕ) (at : ℕ) (x : Node × ℕ) → IsBytes bytes → node_at bytes at ≡ Ok x → Found bytes at x
unfolding node_at
node_stands bytes at x fits e =
    let a = bind_ok (byte_at bytes at) (λ kind. node_of_kind kind bytes at) x e in
    kind_stands bytes at a.0 x fits (byte_stands bytes at a.0 fits a.1).0 a.2

-- ---- and again

kind_again : (bytes : List ℕ) (at kind : ℕ) (number : List ℕ) (next : ℕ) → Stands bytes at (kind ∷ number) next → byte_at bytes at ≡ Ok kind
kind_again bytes at kind number next p = byte_again bytes at kind (at + 1) (stand_first bytes at (kind ∷ []) number next p)

byte_behind : (bytes : List ℕ) (at kind n next : ℕ) → Stands bytes at (kind ∷ n ∷ []) next → byte_at bytes (at + 1) ≡ Ok n
byte_behind bytes at kind n next p = byte_again bytes (at + 1) n next (stand_second bytes at (kind ∷ []) (n ∷ []) next p)

pub node_again : (node : Node) (bytes : List ℕ) (at next : ℕ) → Stands bytes at (node_bytes node) next → IsNode node → node_at bytes at ≡ Ok (node, next)
unfolding node_at node_of_kind item_branch_at stimulus_branch_at bound_at ray_at count_at fix_at
node_again (BranchItem i) bytes at next p is =
    let kind = kind_again bytes at 1 (to_be_bytes w16 i) next p in
    let second : Stands bytes (at + 1) (to_be_bytes w16 i) next = stand_second bytes at (1 ∷ []) (to_be_bytes w16 i) next p in
    let number : number_at w16 bytes (at + 1) ≡ Ok i = number_again w16 (2 ^ 16) wide16 bytes (at + 1) i next second (omega (arith, is)) in
    let test : leb 512 i ≡ false = lt-leb 512 i is in
    let end : at + 3 ≡ next = omega (arith, p.ends) in
    rw (kind, number, test) (ap (λ (n : ℕ). Ok (BranchItem i, n)) end)
node_again (BranchStimulus s) bytes at next p is =
    let kind = kind_again bytes at 2 (s ∷ []) next p in
    let number = byte_behind bytes at 2 s next p in
    let test : (eqb s 0 || ltb 64 s) ≡ false = or_from _ _ (ne_eqb s 0 (omega (arith, is.0))) (le-ltb 64 s is.1) in
    let end : at + 2 ≡ next = omega (arith, p.ends) in
    rw (kind, number, test) (ap (λ (n : ℕ). Ok (BranchStimulus s, n)) end)
node_again (Bound v) bytes at next p is =
    let kind = kind_again bytes at 3 (v ∷ []) next p in
    let number = byte_behind bytes at 3 v next p in
    let end : at + 2 ≡ next = omega (arith, p.ends) in
    rw (kind, number) (ap (λ (n : ℕ). Ok (Bound v, n)) end)
node_again (Ray v) bytes at next p is =
    let kind = kind_again bytes at 4 (v ∷ []) next p in
    let number = byte_behind bytes at 4 v next p in
    let end : at + 2 ≡ next = omega (arith, p.ends) in
    rw (kind, number) (ap (λ (n : ℕ). Ok (Ray v, n)) end)
node_again (Count r) bytes at next p is =
    let kind = kind_again bytes at 5 (r ∷ []) next p in
    let number = byte_behind bytes at 5 r next p in
    let test : ltb 192 r ≡ false = le-ltb 192 r is in
    let end : at + 2 ≡ next = omega (arith, p.ends) in
    rw (kind, number, test) (ap (λ (n : ℕ). Ok (Count r, n)) end)
node_again Whole bytes at next p is =
    let kind = kind_again bytes at 6 [] next p in
    let end : at + 1 ≡ next = omega (arith, p.ends) in
    rw kind (ap (λ (n : ℕ). Ok (Whole, n)) end)
node_again Open bytes at next p is =
    let kind = kind_again bytes at 7 [] next p in
    let end : at + 1 ≡ next = omega (arith, p.ends) in
    rw kind (ap (λ (n : ℕ). Ok (Open, n)) end)
node_again (Fix v goal) bytes at next p is =
    let kind = kind_again bytes at 8 (v ∷ to_be_bytes w32 goal) next p in
    let rest : Stands bytes (at + 1) (v ∷ to_be_bytes w32 goal) next = stand_second bytes at (8 ∷ []) (v ∷ to_be_bytes w32 goal) next p in
    let vector : byte_at bytes (at + 1) ≡ Ok v = byte_again bytes (at + 1) v (at + 1 + 1) (stand_first bytes (at + 1) (v ∷ []) (to_be_bytes w32 goal) next rest) in
    let last : Stands bytes (at + 2) (to_be_bytes w32 goal) next = subst (λ (m : ℕ). Stands bytes m (to_be_bytes w32 goal) next) (omega arith) (stand_second bytes (at + 1) (v ∷ []) (to_be_bytes w32 goal) next rest) in
    let number : number_at w32 bytes (at + 2) ≡ Ok goal = number_again w32 (2 ^ 32) wide32 bytes (at + 2) goal next last (omega (arith, is.1)) in
    let end : at + 6 ≡ next = omega (arith, p.ends) in
    rw (kind, vector, number) (ap (λ (n : ℕ). Ok (Fix v goal, n)) end)
