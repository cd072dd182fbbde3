-- A vector that is read is the vector that was written, and what was written is read again.
use Rattle.std.proofs.Common.{◌≡◌, ℕ, zero, suc, ◌+◌, ◌-◌, ◌^◌, ◌<◌, ◌≤◌, false, ltb, leb, eqb, ◌||◌, List, [], ◌∷◌, ◌++◌, length, None, Ok, refl, sym, ap, subst, arith}
use Rattle.std.specs.Int.{w16, w32, to_be_bytes}
use Rattle.std.specs.List.{flat_map, AllByRecursion, sum_by}
use Rattle.std.proofs.lemmas.Bool.{or_parts, or_from, ltb-false, leb-false, eqb-false, le-ltb, lt-leb, ne_eqb}
use Rattle.std.proofs.lemmas.List.Concat.{flat_map-cons}
use Rattle.std.proofs.lemmas.List.Sums.{sum_by-cons}
use Rattle.exam_text.specs.First.{◌>>=◌, unless, fault_where}
use Rattle.exam_text.proofs.Firsts.{bind_ok, unless_ok, none_where, ok_is}
use Rattle.certificate_model.specs.Relaxed.{Multipliers}
use Rattle.certificate_model.specs.ProofTrees.{IsVector}
use Rattle.proof_tree.specs.declared.fault.TreeFault.{TreeFault}
use Rattle.proof_tree.specs.declared.fault.TreeFault.TheVariants.{BadVector}
use Rattle.proof_tree.specs.Spelling.{pair_bytes, vector_bytes}
use Rattle.proof_tree.specs.Reading.{number_at, pair_at, pairs_at, multipliers_at, vectors_at}
use Rattle.proof_tree.proofs.Fields.{IsBytes, Stands, nothing_stands, stand_both, stand_first, stand_second, wide16, wide32, number_stands, number_again}

-- a side from `low` on, and a multiplier
pub record IsPair (low : ℕ) (pair : ℕ × ℕ) : Type 0 where
  pub from : low ≤ pair.0
  pub side : pair.0 < 386
  pub some : 0 < pair.1
  pub few : pair.1 ≤ 16777216

abbrev pub HaveLowSides : Multipliers → Type 0
HaveLowSides v = AllByRecursion (λ pair. pair.0 < 386) v

-- a vector of a tree: its sides are below 386, and its pairs few
abbrev pub IsListed : Multipliers → Type 0
IsListed v = IsVector 0 v × HaveLowSides v × (length v ≤ 384)

pub pair_stands : (bytes : List ℕ) (at low : ℕ) (pair : ℕ × ℕ) → IsBytes bytes → pair_at bytes at low ≡ Ok pair → Stands bytes at (pair_bytes pair) (at + 6) × IsPair low pair
unfolding pair_at
pair_stands bytes at low pair fits e =
    let a = bind_ok (number_at w16 bytes at) (λ side. unless (fault_where (ltb side low || leb 386 side) (BadVector at)) (number_at w32 bytes (at + 2) >>= λ m. unless (fault_where (eqb m 0 || ltb 16777216 m) (BadVector (at + 2))) (Ok (side, m)))) pair e in
    let u = unless_ok (fault_where (ltb a.0 low || leb 386 a.0) (BadVector at)) (number_at w32 bytes (at + 2) >>= λ m. unless (fault_where (eqb m 0 || ltb 16777216 m) (BadVector (at + 2))) (Ok (a.0, m))) pair a.2 in
    let b = bind_ok (number_at w32 bytes (at + 2)) (λ m. unless (fault_where (eqb m 0 || ltb 16777216 m) (BadVector (at + 2))) (Ok (a.0, m))) pair u.1 in
    let v = unless_ok (fault_where (eqb b.0 0 || ltb 16777216 b.0) (BadVector (at + 2))) (Ok (a.0, b.0)) pair b.2 in
    let side_test = or_parts (ltb a.0 low) (leb 386 a.0) (none_where (ltb a.0 low || leb 386 a.0) (BadVector at) u.0) in
    let multiplier_test = or_parts (eqb b.0 0) (ltb 16777216 b.0) (none_where (eqb b.0 0 || ltb 16777216 b.0) (BadVector (at + 2)) v.0) in
    let from : low ≤ a.0 = ltb-false _ _ side_test.0 in
    let side : a.0 < 386 = leb-false _ _ side_test.1 in
    let not_none = eqb-false b.0 0 multiplier_test.0 in
    let few : b.0 ≤ 16777216 = ltb-false _ _ multiplier_test.1 in
    let first = number_stands w16 (2 ^ 16) wide16 bytes at a.0 fits a.1 in
    let second = number_stands w32 (2 ^ 32) wide32 bytes (at + 2) b.0 fits b.1 in
    let both = stand_both bytes at (to_be_bytes w16 a.0) (at + 2) (to_be_bytes w32 b.0) (at + 2 + 4) first.0 second.0 in
    let six : at + 2 + 4 ≡ at + 6 = omega arith in
    let whole : Stands bytes at (pair_bytes (a.0, b.0)) (at + 6) = subst (λ (n : ℕ). Stands bytes at (pair_bytes (a.0, b.0)) n) six both in
    let is : IsPair low (a.0, b.0) = record { from = from; side = side; some = omega (arith, not_none); few = few } in
    subst (λ (p : ℕ × ℕ). Stands bytes at (pair_bytes p) (at + 6) × IsPair low p) (ok_is {F = TreeFault} (a.0, b.0) pair v.1) (whole, is)

pub pair_again : (bytes : List ℕ) (at low : ℕ) (pair : ℕ × ℕ) (next : ℕ) → Stands bytes at (pair_bytes pair) next → IsPair low pair → pair_at bytes at low ≡ Ok pair
unfolding pair_at
pair_again bytes at low pair next p is =
    let first = stand_first bytes at (to_be_bytes w16 pair.0) (to_be_bytes w32 pair.1) next p in
    let second = stand_second bytes at (to_be_bytes w16 pair.0) (to_be_bytes w32 pair.1) next p in
    let side_read : number_at w16 bytes at ≡ Ok pair.0 = number_again w16 (2 ^ 16) wide16 bytes at pair.0 (at + 2) first (omega (arith, is.side)) in
    let multiplier_read : number_at w32 bytes (at + 2) ≡ Ok pair.1 = number_again w32 (2 ^ 32) wide32 bytes (at + 2) pair.1 next second (omega (arith, is.few)) in
    let side_test : (ltb pair.0 low || leb 386 pair.0) ≡ false = or_from _ _ (le-ltb pair.0 low is.from) (lt-leb 386 pair.0 is.side) in
    let multiplier_test : (eqb pair.1 0 || ltb 16777216 pair.1) ≡ false = or_from _ _ (ne_eqb pair.1 0 (omega (arith, is.some))) (le-ltb 16777216 pair.1 is.few) in
    rw (side_read, side_test, multiplier_read, multiplier_test) refl

pub pairs_stand : (count : ℕ) (bytes : List ℕ) (at low : ℕ) (x : Multipliers × ℕ) → IsBytes bytes → pairs_at count bytes at low ≡ Ok x
    → Stands bytes at (flat_map pair_bytes x.0) x.1 × (length x.0 ≡ count) × IsVector low x.0 × HaveLowSides x.0
unfolding pairs_at
pairs_stand zero bytes at low x fits e =
    subst (λ (y : Multipliers × ℕ). Stands bytes at (flat_map pair_bytes y.0) y.1 × (length y.0 ≡ 0) × IsVector low y.0 × HaveLowSides y.0) (ok_is {F = TreeFault} ([], at) x e) (nothing_stands bytes at, refl, tt, tt)
pairs_stand (suc count) bytes at low x fits e =
    let a = bind_ok (pair_at bytes at low) (λ first. pairs_at count bytes (at + 6) (first.0 + 1) >>= λ others. Ok (first ∷ others.0, others.1)) x e in
    let b = bind_ok (pairs_at count bytes (at + 6) (a.0.0 + 1)) (λ others. Ok (a.0 ∷ others.0, others.1)) x a.2 in
    let first = pair_stands bytes at low a.0 fits a.1 in
    let others = pairs_stand count bytes (at + 6) (a.0.0 + 1) b.0 fits b.1 in
    let both = stand_both bytes at (pair_bytes a.0) (at + 6) (flat_map pair_bytes b.0.0) b.0.1 first.0 others.0 in
    let made : Multipliers × ℕ = (a.0 ∷ b.0.0, b.0.1) in
    subst (λ (y : Multipliers × ℕ). Stands bytes at (flat_map pair_bytes y.0) y.1 × (length y.0 ≡ suc count) × IsVector low y.0 × HaveLowSides y.0) (ok_is {F = TreeFault} made x b.2)
    (rw flat_map-cons both, ap suc others.1, (first.1.from, first.1.some, first.1.few, others.2), (first.1.side, others.3))

pub pairs_again : (v : Multipliers) (bytes : List ℕ) (at low next : ℕ) → Stands bytes at (flat_map pair_bytes v) next → IsVector low v → HaveLowSides v → pairs_at (length v) bytes at low ≡ Ok (v, next)
unfolding pairs_at
pairs_again [] bytes at low next p is low_sides = ap (λ (n : ℕ). Ok ([], n)) (omega (arith, p.ends))
pairs_again (pair ∷ v) bytes at low next p is low_sides =
    let q : Stands bytes at (pair_bytes pair ++ flat_map pair_bytes v) next = subst (λ (t : List ℕ). Stands bytes at t next) (flat_map-cons pair_bytes pair v) p in
    let first = stand_first bytes at (pair_bytes pair) (flat_map pair_bytes v) next q in
    let second : Stands bytes (at + 6) (flat_map pair_bytes v) next = stand_second bytes at (pair_bytes pair) (flat_map pair_bytes v) next q in
    let here : pair_at bytes at low ≡ Ok pair = pair_again bytes at low pair (at + 6) first (record { from = is.0; side = low_sides.0; some = is.1; few = is.2 }) in
    let others : pairs_at (length v) bytes (at + 6) (pair.0 + 1) ≡ Ok (v, next) = pairs_again v bytes (at + 6) (pair.0 + 1) next second is.3 low_sides.1 in
    rw (here, others) refl

few_there : (room count : ℕ) (at : ℕ) → fault_where (ltb 384 count || ltb room count) (BadVector at) ≡ None → (count ≤ 384) × (count ≤ room)
few_there room count at e =
    let tests = or_parts (ltb 384 count) (ltb room count) (none_where (ltb 384 count || ltb room count) (BadVector at) e) in
    (ltb-false 384 count tests.0, ltb-false room count tests.1)

pub vector_stands : (room : ℕ) (bytes : List ℕ) (at : ℕ) (x : Multipliers × ℕ) → IsBytes bytes → multipliers_at room bytes at ≡ Ok x → Stands bytes at (vector_bytes x.0) x.1 × IsListed x.0 × (length x.0 ≤ room)
unfolding multipliers_at
vector_stands room bytes at x fits e =
    let a = bind_ok (number_at w16 bytes at) (λ count. unless (fault_where (ltb 384 count || ltb room count) (BadVector at)) (pairs_at count bytes (at + 2) 0)) x e in
    let u = unless_ok (fault_where (ltb 384 a.0 || ltb room a.0) (BadVector at)) (pairs_at a.0 bytes (at + 2) 0) x a.2 in
    let few = few_there room a.0 at u.0 in
    let first = number_stands w16 (2 ^ 16) wide16 bytes at a.0 fits a.1 in
    let pairs = pairs_stand a.0 bytes (at + 2) 0 x fits u.1 in
    let both = stand_both bytes at (to_be_bytes w16 a.0) (at + 2) (flat_map pair_bytes x.0) x.1 first.0 pairs.0 in
    (subst (λ (n : ℕ). Stands bytes at (to_be_bytes w16 n ++ flat_map pair_bytes x.0) x.1) (sym pairs.1) both, (pairs.2, pairs.3, omega (arith, pairs.1, few)), omega (arith, pairs.1, few))

pub vector_again : (v : Multipliers) (room : ℕ) (bytes : List ℕ) (at next : ℕ) → Stands bytes at (vector_bytes v) next → IsListed v → length v ≤ room → multipliers_at room bytes at ≡ Ok (v, next)
unfolding multipliers_at
vector_again v room bytes at next p is few =
    let first = stand_first bytes at (to_be_bytes w16 (length v)) (flat_map pair_bytes v) next p in
    let second : Stands bytes (at + 2) (flat_map pair_bytes v) next = stand_second bytes at (to_be_bytes w16 (length v)) (flat_map pair_bytes v) next p in
    let count_read : number_at w16 bytes at ≡ Ok (length v) = number_again w16 (2 ^ 16) wide16 bytes at (length v) (at + 2) first (omega (arith, is.2)) in
    let count_test : (ltb 384 (length v) || ltb room (length v)) ≡ false = or_from _ _ (le-ltb 384 (length v) is.2) (le-ltb room (length v) few) in
    rw (count_read, count_test) (pairs_again v bytes (at + 2) 0 next second is.0 is.1)

pub vectors_stand : (room count : ℕ) (bytes : List ℕ) (at : ℕ) (x : List Multipliers × ℕ) → IsBytes bytes → vectors_at room count bytes at ≡ Ok x
    → Stands bytes at (flat_map vector_bytes x.0) x.1 × (length x.0 ≡ count) × AllByRecursion IsListed x.0 × (sum_by length x.0 ≤ room)
unfolding vectors_at
vectors_stand room zero bytes at x fits e =
    subst (λ (y : List Multipliers × ℕ). Stands bytes at (flat_map vector_bytes y.0) y.1 × (length y.0 ≡ 0) × AllByRecursion IsListed y.0 × (sum_by length y.0 ≤ room)) (ok_is {F = TreeFault} ([], at) x e) (nothing_stands bytes at, refl, tt, omega arith)
vectors_stand room (suc count) bytes at x fits e =
    let a = bind_ok (multipliers_at room bytes at) (λ first. vectors_at (room - length first.0) count bytes first.1 >>= λ others. Ok (first.0 ∷ others.0, others.1)) x e in
    let b = bind_ok (vectors_at (room - length a.0.0) count bytes a.0.1) (λ others. Ok (a.0.0 ∷ others.0, others.1)) x a.2 in
    let first = vector_stands room bytes at a.0 fits a.1 in
    let others = vectors_stand (room - length a.0.0) count bytes a.0.1 b.0 fits b.1 in
    let both = stand_both bytes at (vector_bytes a.0.0) a.0.1 (flat_map vector_bytes b.0.0) b.0.1 first.0 others.0 in
    let made : List Multipliers × ℕ = (a.0.0 ∷ b.0.0, b.0.1) in
    let few : sum_by length (a.0.0 ∷ b.0.0) ≤ room = omega (arith, sum_by-cons length a.0.0 b.0.0, first.2, others.3) in
    subst (λ (y : List Multipliers × ℕ). Stands bytes at (flat_map vector_bytes y.0) y.1 × (length y.0 ≡ suc count) × AllByRecursion IsListed y.0 × (sum_by length y.0 ≤ room)) (ok_is {F = TreeFault} made x b.2)
    (rw flat_map-cons both, ap suc others.1, (first.1, others.2), few)

pub vectors_again : (vs : List Multipliers) (room : ℕ) (bytes : List ℕ) (at next : ℕ) → Stands bytes at (flat_map vector_bytes vs) next → AllByRecursion IsListed vs → sum_by length vs ≤ room → vectors_at room (length vs) bytes at ≡ Ok (vs, next)
unfolding vectors_at
vectors_again [] room bytes at next p is few = ap (λ (n : ℕ). Ok ([], n)) (omega (arith, p.ends))
vectors_again (v ∷ vs) room bytes at next p is few =
    let q : Stands bytes at (vector_bytes v ++ flat_map vector_bytes vs) next = subst (λ (t : List ℕ). Stands bytes at t next) (flat_map-cons vector_bytes v vs) p in
    let first = stand_first bytes at (vector_bytes v) (flat_map vector_bytes vs) next q in
    let second = stand_second bytes at (vector_bytes v) (flat_map vector_bytes vs) next q in
    let split = sum_by-cons length v vs in
    let here : multipliers_at room bytes at ≡ Ok (v, at + length (vector_bytes v)) = vector_again v room bytes at (at + length (vector_bytes v)) first is.0 (omega (arith, split)) in
    let others : vectors_at (room - length v) (length vs) bytes (at + length (vector_bytes v)) ≡ Ok (vs, next) = vectors_again vs (room - length v) bytes (at + length (vector_bytes v)) next second is.1 (omega (arith, split)) in
    rw (here, others) refl
