-- A node that is read is the node that was written, and what was written is read again.
use Rattle.std.proofs.Common.{◌≡◌, ℕ, ◌+◌, ◌^◌, ◌<◌, ◌≤◌, ◌⊎◌, inl, inr, Bool, true, false, cond, ltb, leb, eqb, List, [], ◌∷◌, Ok, refl, ap, subst, arith}
use Rattle.std.specs.Int.{w16, to_be_bytes}
use Rattle.std.proofs.lemmas.Bool.{ltb-false, leb-false, eqb-true, le-ltb, lt-leb}
use Rattle.exam_text.specs.First.{◌>>=◌, unless, fault_where}
use Rattle.exam_text.proofs.Firsts.{bind_ok, unless_ok, none_where, ok_is}
use Rattle.series_model.specs.declared.node.SeriesNode.{SeriesNode}
use Rattle.series_model.specs.declared.node.SeriesNode.TheVariants.{Branch, Bound, Ray, Count, Whole, Open, Use, Twin}
use Rattle.proof_tree.specs.declared.fault.TreeFault.{TreeFault}
use Rattle.proof_tree.specs.declared.fault.TreeFault.TheVariants.{BadKind}
use Rattle.series_tree.specs.Shape.{IsNode}
use Rattle.series_tree.specs.Spelling.{node_bytes}
use Rattle.proof_tree.specs.Reading.{number_at, byte_at}
use Rattle.series_tree.specs.Reading.{form_at, item_at, branch_at, bound_at, ray_at, count_at, use_at, twin_at, node_of_kind, node_at}
use Rattle.proof_tree.proofs.Fields.{IsBytes, Stands, stand_both, stand_first, stand_second, wide16, number_stands, number_again, byte_stands, byte_again}

-- the bytes have the node that was read there, and its number is in its range
abbrev pub Found : List ℕ → ℕ → SeriesNode × ℕ → Type 0
Found bytes at x = Stands bytes at (node_bytes x.0) x.1 × IsNode x.0

pub chosen : {A : Type 0} (b : Bool) (x y z : A) → cond b x y ≡ z → ((b ≡ true) × (x ≡ z)) ⊎ ((b ≡ false) × (y ≡ z))
chosen true x y z e = inl (refl, e)
chosen false x y z e = inr (refl, e)

-- a kind and a number of one byte, one after the other
kind_and_byte : (bytes : List ℕ) (at kind n : ℕ) → Stands bytes at (kind ∷ []) (at + 1) → Stands bytes (at + 1) (n ∷ []) (at + 1 + 1) → Stands bytes at (kind ∷ n ∷ []) (at + 2)
kind_and_byte bytes at kind n p q =
    let two : at + 1 + 1 ≡ at + 2 = omega arith in
    subst (λ (m : ℕ). Stands bytes at (kind ∷ n ∷ []) m) two (stand_both bytes at (kind ∷ []) (at + 1) (n ∷ []) (at + 1 + 1) p q)

-- a form, and an item
form_stands : (bytes : List ℕ) (at node f : ℕ) → IsBytes bytes → form_at bytes at node ≡ Ok f → Stands bytes at (f ∷ []) (at + 1) × (f < 4)
unfolding form_at
form_stands bytes at node f fits e =
    let a = bind_ok (byte_at bytes at) (λ form. unless (fault_where (leb 4 form) (BadKind node)) (Ok form)) f e in
    let u = unless_ok (fault_where (leb 4 a.0) (BadKind node)) (Ok a.0) f a.2 in
    let test : a.0 < 4 = leb-false _ _ (none_where (leb 4 a.0) (BadKind node) u.0) in
    subst (λ (n : ℕ). Stands bytes at (n ∷ []) (at + 1) × (n < 4)) (ok_is {F = TreeFault} a.0 f u.1) ((byte_stands bytes at a.0 fits a.1).0, test)

item_stands : (bytes : List ℕ) (at node i : ℕ) → IsBytes bytes → item_at bytes at node ≡ Ok i → Stands bytes at (to_be_bytes w16 i) (at + 2) × (i < 512)
unfolding item_at
item_stands bytes at node i fits e =
    let a = bind_ok (number_at w16 bytes at) (λ item. unless (fault_where (leb 512 item) (BadKind node)) (Ok item)) i e in
    let u = unless_ok (fault_where (leb 512 a.0) (BadKind node)) (Ok a.0) i a.2 in
    let test : a.0 < 512 = leb-false _ _ (none_where (leb 512 a.0) (BadKind node) u.0) in
    subst (λ (n : ℕ). Stands bytes at (to_be_bytes w16 n) (at + 2) × (n < 512)) (ok_is {F = TreeFault} a.0 i u.1) ((number_stands w16 (2 ^ 16) wide16 bytes at a.0 fits a.1).0, test)

-- a kind, a form and what follows, one after the other
kind_form_and : (bytes : List ℕ) (at kind f : ℕ) (rest : List ℕ) (next : ℕ) → Stands bytes at (kind ∷ []) (at + 1) → Stands bytes (at + 1) (f ∷ []) (at + 1 + 1) → Stands bytes (at + 2) rest next → Stands bytes at (kind ∷ f ∷ rest) next
kind_form_and bytes at kind f rest next p q r = stand_both bytes at (kind ∷ f ∷ []) (at + 2) rest next (kind_and_byte bytes at kind f p q) r

-- a form and an item, as branches have them
form_item_stands : (bytes : List ℕ) (at kind f i : ℕ) → IsBytes bytes → Stands bytes at (kind ∷ []) (at + 1) → form_at bytes (at + 1) at ≡ Ok f → item_at bytes (at + 2) at ≡ Ok i → Stands bytes at (kind ∷ f ∷ to_be_bytes w16 i) (at + 4) × (f < 4) × (i < 512)
form_item_stands bytes at kind f i fits p e d =
    let form = form_stands bytes (at + 1) at f fits e in
    let item = item_stands bytes (at + 2) at i fits d in
    let four : at + 2 + 2 ≡ at + 4 = omega arith in
    let whole = kind_form_and bytes at kind f (to_be_bytes w16 i) (at + 2 + 2) p form.0 item.0 in
    (subst (λ (m : ℕ). Stands bytes at (kind ∷ f ∷ to_be_bytes w16 i) m) four whole, form.1, item.1)

branch_stands : (bytes : List ℕ) (at : ℕ) (x : SeriesNode × ℕ) → IsBytes bytes → Stands bytes at (1 ∷ []) (at + 1) → branch_at bytes at ≡ Ok x → Found bytes at x
unfolding branch_at
branch_stands bytes at x fits kind e =
    let a = bind_ok (form_at bytes (at + 1) at) (λ form. item_at bytes (at + 2) at >>= λ item. Ok (Branch form item, at + 4)) x e in
    let b = bind_ok (item_at bytes (at + 2) at) (λ item. Ok (Branch a.0 item, at + 4)) x a.2 in
    let whole = form_item_stands bytes at 1 a.0 b.0 fits kind a.1 b.1 in
    subst (Found bytes at) (ok_is {F = TreeFault} (Branch a.0 b.0, at + 4) x b.2) (whole.0, (whole.1, whole.2))

twin_stands : (bytes : List ℕ) (at : ℕ) (x : SeriesNode × ℕ) → IsBytes bytes → Stands bytes at (8 ∷ []) (at + 1) → twin_at bytes at ≡ Ok x → Found bytes at x
unfolding twin_at
twin_stands bytes at x fits kind e =
    let a = bind_ok (form_at bytes (at + 1) at) (λ form. item_at bytes (at + 2) at >>= λ item. Ok (Twin form item, at + 4)) x e in
    let b = bind_ok (item_at bytes (at + 2) at) (λ item. Ok (Twin a.0 item, at + 4)) x a.2 in
    let whole = form_item_stands bytes at 8 a.0 b.0 fits kind a.1 b.1 in
    subst (Found bytes at) (ok_is {F = TreeFault} (Twin a.0 b.0, at + 4) x b.2) (whole.0, (whole.1, whole.2))

use_stands : (bytes : List ℕ) (at : ℕ) (x : SeriesNode × ℕ) → IsBytes bytes → Stands bytes at (7 ∷ []) (at + 1) → use_at bytes at ≡ Ok x → Found bytes at x
unfolding use_at
use_stands bytes at x fits kind e =
    let a = bind_ok (item_at bytes (at + 1) at) (λ item. Ok (Use item, at + 3)) x e in
    let item = item_stands bytes (at + 1) at a.0 fits a.1 in
    let both = stand_both bytes at (7 ∷ []) (at + 1) (to_be_bytes w16 a.0) (at + 1 + 2) kind item.0 in
    let three : at + 1 + 2 ≡ at + 3 = omega arith in
    let whole : Stands bytes at (7 ∷ to_be_bytes w16 a.0) (at + 3) = subst (λ (m : ℕ). Stands bytes at (7 ∷ to_be_bytes w16 a.0) m) three both in
    subst (Found bytes at) (ok_is {F = TreeFault} (Use a.0, at + 3) x a.2) (whole, item.1)

bound_stands : (bytes : List ℕ) (at : ℕ) (x : SeriesNode × ℕ) → IsBytes bytes → Stands bytes at (2 ∷ []) (at + 1) → bound_at bytes at ≡ Ok x → Found bytes at x
unfolding bound_at
bound_stands bytes at x fits kind e =
    let a = bind_ok (byte_at bytes (at + 1)) (λ v. Ok (Bound v, at + 2)) x e in
    let second = byte_stands bytes (at + 1) a.0 fits a.1 in
    subst (Found bytes at) (ok_is {F = TreeFault} (Bound a.0, at + 2) x a.2) (kind_and_byte bytes at 2 a.0 kind second.0, second.1)

ray_stands : (bytes : List ℕ) (at : ℕ) (x : SeriesNode × ℕ) → IsBytes bytes → Stands bytes at (3 ∷ []) (at + 1) → ray_at bytes at ≡ Ok x → Found bytes at x
unfolding ray_at
ray_stands bytes at x fits kind e =
    let a = bind_ok (byte_at bytes (at + 1)) (λ v. Ok (Ray v, at + 2)) x e in
    let second = byte_stands bytes (at + 1) a.0 fits a.1 in
    subst (Found bytes at) (ok_is {F = TreeFault} (Ray a.0, at + 2) x a.2) (kind_and_byte bytes at 3 a.0 kind second.0, second.1)

count_stands : (bytes : List ℕ) (at : ℕ) (x : SeriesNode × ℕ) → IsBytes bytes → Stands bytes at (4 ∷ []) (at + 1) → count_at bytes at ≡ Ok x → Found bytes at x
unfolding count_at
count_stands bytes at x fits kind e =
    let a = bind_ok (form_at bytes (at + 1) at) (λ form. byte_at bytes (at + 2) >>= λ r. unless (fault_where (ltb 192 r) (BadKind at)) (Ok (Count form r, at + 3))) x e in
    let b = bind_ok (byte_at bytes (at + 2)) (λ r. unless (fault_where (ltb 192 r) (BadKind at)) (Ok (Count a.0 r, at + 3))) x a.2 in
    let u = unless_ok (fault_where (ltb 192 b.0) (BadKind at)) (Ok (Count a.0 b.0, at + 3)) x b.2 in
    let few : b.0 ≤ 192 = ltb-false _ _ (none_where (ltb 192 b.0) (BadKind at) u.0) in
    let form = form_stands bytes (at + 1) at a.0 fits a.1 in
    let row = byte_stands bytes (at + 2) b.0 fits b.1 in
    let three : at + 2 + 1 ≡ at + 3 = omega arith in
    let whole = kind_form_and bytes at 4 a.0 (b.0 ∷ []) (at + 2 + 1) kind form.0 row.0 in
    subst (Found bytes at) (ok_is {F = TreeFault} (Count a.0 b.0, at + 3) x u.1) (subst (λ (m : ℕ). Stands bytes at (4 ∷ a.0 ∷ b.0 ∷ []) m) three whole, (form.1, few))

-- the kind is this one
as_kind : (bytes : List ℕ) (at kind k : ℕ) → eqb kind k ≡ true → Stands bytes at (kind ∷ []) (at + 1) → Stands bytes at (k ∷ []) (at + 1)
as_kind bytes at kind k test p = subst (λ (n : ℕ). Stands bytes at (n ∷ []) (at + 1)) (eqb-true kind k test) p

kind_stands : (bytes : List ℕ) (at kind : ℕ) (x : SeriesNode × ℕ) → IsBytes bytes → Stands bytes at (kind ∷ []) (at + 1) → node_of_kind kind bytes at ≡ Ok x → Found bytes at x
unfolding node_of_kind
kind_stands bytes at kind x fits p e =
    elim (chosen (eqb kind 1) (branch_at bytes at) _ (Ok x) e) [
      | inl h ↦ branch_stands bytes at x fits (as_kind bytes at kind 1 h.0 p) h.1
      | inr r1 ↦ elim (chosen (eqb kind 2) (bound_at bytes at) _ (Ok x) r1.1) [
        | inl h ↦ bound_stands bytes at x fits (as_kind bytes at kind 2 h.0 p) h.1
        | inr r2 ↦ elim (chosen (eqb kind 3) (ray_at bytes at) _ (Ok x) r2.1) [
          | inl h ↦ ray_stands bytes at x fits (as_kind bytes at kind 3 h.0 p) h.1
          | inr r3 ↦ elim (chosen (eqb kind 4) (count_at bytes at) _ (Ok x) r3.1) [
            | inl h ↦ count_stands bytes at x fits (as_kind bytes at kind 4 h.0 p) h.1
            | inr r4 ↦ elim (chosen (eqb kind 5) (Ok (Whole, at + 1)) _ (Ok x) r4.1) [
              | inl h ↦ subst (Found bytes at) (ok_is {F = TreeFault} (Whole, at + 1) x h.1) (as_kind bytes at kind 5 h.0 p, tt)
              | inr r5 ↦ elim (chosen (eqb kind 6) (Ok (Open, at + 1)) _ (Ok x) r5.1) [
                | inl h ↦ subst (Found bytes at) (ok_is {F = TreeFault} (Open, at + 1) x h.1) (as_kind bytes at kind 6 h.0 p, tt)
                | inr r6 ↦ elim (chosen (eqb kind 7) (use_at bytes at) _ (Ok x) r6.1) [
                  | inl h ↦ use_stands bytes at x fits (as_kind bytes at kind 7 h.0 p) h.1
                  | inr r7 ↦ elim (chosen (eqb kind 8) (twin_at bytes at) _ (Ok x) r7.1) [
                    | inl h ↦ twin_stands bytes at x fits (as_kind bytes at kind 8 h.0 p) h.1
                    | inr r8 ↦ absurd (let no = r8.1 in cc)
                  ]
                ]
              ]
            ]
          ]
        ]
      ]
    ]

pub node_stands : (bytes : List ℕ) (at : ℕ) (x : SeriesNode × ℕ) → IsBytes bytes → node_at bytes at ≡ Ok x → Found bytes at x
unfolding node_at
node_stands bytes at x fits e =
    let a = bind_ok (byte_at bytes at) (λ kind. node_of_kind kind bytes at) x e in
    kind_stands bytes at a.0 x fits (byte_stands bytes at a.0 fits a.1).0 a.2

-- ---- and again

kind_again : (bytes : List ℕ) (at kind : ℕ) (number : List ℕ) (next : ℕ) → Stands bytes at (kind ∷ number) next → byte_at bytes at ≡ Ok kind
kind_again bytes at kind number next p = byte_again bytes at kind (at + 1) (stand_first bytes at (kind ∷ []) number next p)

byte_behind : (bytes : List ℕ) (at kind n next : ℕ) → Stands bytes at (kind ∷ n ∷ []) next → byte_at bytes (at + 1) ≡ Ok n
byte_behind bytes at kind n next p = byte_again bytes (at + 1) n next (stand_second bytes at (kind ∷ []) (n ∷ []) next p)

form_again : (bytes : List ℕ) (at node f next : ℕ) → Stands bytes at (f ∷ []) next → f < 4 → form_at bytes at node ≡ Ok f
unfolding form_at
form_again bytes at node f next p low =
    let read = byte_again bytes at f next p in
    let test : leb 4 f ≡ false = lt-leb 4 f low in
    rw (read, test) refl

item_again : (bytes : List ℕ) (at node i next : ℕ) → Stands bytes at (to_be_bytes w16 i) next → i < 512 → item_at bytes at node ≡ Ok i
unfolding item_at
item_again bytes at node i next p low =
    let read : number_at w16 bytes at ≡ Ok i = number_again w16 (2 ^ 16) wide16 bytes at i next p (omega arith) in
    let test : leb 512 i ≡ false = lt-leb 512 i low in
    rw (read, test) refl

-- a form after the kind, and what follows it
form_behind : (bytes : List ℕ) (at kind f : ℕ) (rest : List ℕ) (next : ℕ) → Stands bytes at (kind ∷ f ∷ rest) next → Stands bytes (at + 1) (f ∷ []) (at + 1 + 1)
form_behind bytes at kind f rest next p = stand_first bytes (at + 1) (f ∷ []) rest next (stand_second bytes at (kind ∷ []) (f ∷ rest) next p)

rest_behind : (bytes : List ℕ) (at kind f : ℕ) (rest : List ℕ) (next : ℕ) → Stands bytes at (kind ∷ f ∷ rest) next → Stands bytes (at + 2) rest next
rest_behind bytes at kind f rest next p = stand_second bytes at (kind ∷ f ∷ []) rest next p

pub node_again : (node : SeriesNode) (bytes : List ℕ) (at next : ℕ) → Stands bytes at (node_bytes node) next → IsNode node → node_at bytes at ≡ Ok (node, next)
unfolding node_at node_of_kind branch_at bound_at ray_at count_at use_at twin_at
node_again (Branch f i) bytes at next p is =
    let kind = kind_again bytes at 1 (f ∷ to_be_bytes w16 i) next p in
    let form = form_again bytes (at + 1) at f (at + 1 + 1) (form_behind bytes at 1 f (to_be_bytes w16 i) next p) is.0 in
    let item = item_again bytes (at + 2) at i next (rest_behind bytes at 1 f (to_be_bytes w16 i) next p) is.1 in
    let end : at + 4 ≡ next = omega (arith, p.ends) in
    rw (kind, form, item) (ap (λ (n : ℕ). Ok (Branch f i, n)) end)
node_again (Bound v) bytes at next p is =
    let kind = kind_again bytes at 2 (v ∷ []) next p in
    let number = byte_behind bytes at 2 v next p in
    let end : at + 2 ≡ next = omega (arith, p.ends) in
    rw (kind, number) (ap (λ (n : ℕ). Ok (Bound v, n)) end)
node_again (Ray v) bytes at next p is =
    let kind = kind_again bytes at 3 (v ∷ []) next p in
    let number = byte_behind bytes at 3 v next p in
    let end : at + 2 ≡ next = omega (arith, p.ends) in
    rw (kind, number) (ap (λ (n : ℕ). Ok (Ray v, n)) end)
node_again (Count f r) bytes at next p is =
    let kind = kind_again bytes at 4 (f ∷ r ∷ []) next p in
    let form = form_again bytes (at + 1) at f (at + 1 + 1) (form_behind bytes at 4 f (r ∷ []) next p) is.0 in
    let row = byte_again bytes (at + 2) r next (rest_behind bytes at 4 f (r ∷ []) next p) in
    let test : ltb 192 r ≡ false = le-ltb 192 r is.1 in
    let end : at + 3 ≡ next = omega (arith, p.ends) in
    rw (kind, form, row, test) (ap (λ (n : ℕ). Ok (Count f r, n)) end)
node_again Whole bytes at next p is =
    let kind = kind_again bytes at 5 [] next p in
    let end : at + 1 ≡ next = omega (arith, p.ends) in
    rw kind (ap (λ (n : ℕ). Ok (Whole, n)) end)
node_again Open bytes at next p is =
    let kind = kind_again bytes at 6 [] next p in
    let end : at + 1 ≡ next = omega (arith, p.ends) in
    rw kind (ap (λ (n : ℕ). Ok (Open, n)) end)
node_again (Use i) bytes at next p is =
    let kind = kind_again bytes at 7 (to_be_bytes w16 i) next p in
    let second : Stands bytes (at + 1) (to_be_bytes w16 i) next = stand_second bytes at (7 ∷ []) (to_be_bytes w16 i) next p in
    let item = item_again bytes (at + 1) at i next second is in
    let end : at + 3 ≡ next = omega (arith, p.ends) in
    rw (kind, item) (ap (λ (n : ℕ). Ok (Use i, n)) end)
node_again (Twin f i) bytes at next p is =
    let kind = kind_again bytes at 8 (f ∷ to_be_bytes w16 i) next p in
    let form = form_again bytes (at + 1) at f (at + 1 + 1) (form_behind bytes at 8 f (to_be_bytes w16 i) next p) is.0 in
    let item = item_again bytes (at + 2) at i next (rest_behind bytes at 8 f (to_be_bytes w16 i) next p) is.1 in
    let end : at + 4 ≡ next = omega (arith, p.ends) in
    rw (kind, form, item) (ap (λ (n : ℕ). Ok (Twin f i, n)) end)
