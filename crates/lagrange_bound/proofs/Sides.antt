-- The multipliers of sides in an array.
use Rattle.std.proofs.Common.{◌≡◌, ◌≢◌, ℕ, zero, suc, ◌+◌, ◌-◌, ◌<◌, ◌≤◌, List, [], ◌∷◌, length, drop, get_or, set, cond, ◌==◌, inl, inr, refl, sym, ap, ◌∙◌, arith, drop-cons}
use Rattle.std.proofs.lemmas.List.{get_or-set_same, get_or-set_other}
use Rattle.std.proofs.lemmas.Bool.Decides.{eqb_tells}
use Rattle.certificate_model.specs.ProofTrees.{IsVector}
use Rattle.certificate_model.specs.Relaxed.{Multipliers, multiplier}

pub at_most : (v : Multipliers) (from k : ℕ) (d : ℕ × ℕ) → IsVector from v → k < length v → (get_or v k d).1 ≤ 16777216
at_most [] from k d is w = absurd (omega arith)
at_most (pair ∷ pairs) from zero d is w = is.2
at_most (pair ∷ pairs) from (suc k) d is w = at_most pairs (pair.0 + 1) k d is.3 (omega arith)

set_is : (xs : List ℕ) (side x s : ℕ) → side < length xs → get_or (set xs side x) s 0 ≡ cond (side == s) x (get_or xs s 0)
set_is xs side x s within =
    elim (eqb_tells side s) [
      | inl (e, same) ↦ rw e (ap (λ (t : ℕ). get_or (set xs side x) t 0) (sym same) ∙ get_or-set_same xs side x 0 within)
      | inr (e, other) ↦ let ne : s ≢ side = λ same. other (sym same) in rw e (get_or-set_other xs side s x 0 ne)
    ]

-- one more pair from the end
pub one_more : (v : Multipliers) (xs : List ℕ) (k : ℕ) (pair : ℕ × ℕ) → k < length v → pair ≡ get_or v (length v - 1 - k) pair → pair.0 < length xs
    → ((s : ℕ) → get_or xs s 0 ≡ multiplier (drop (length v - k) v) s)
    → (s : ℕ) → get_or (set xs pair.0 pair.1) s 0 ≡ multiplier (drop (length v - (k + 1)) v) s
one_more v xs k pair w is within before s =
    let i = length v - 1 - k in
    let place : length v - (k + 1) ≡ i = omega arith in
    let next : length v - k ≡ suc i = omega arith in
    let low : i < length v = omega arith in
    let split : drop i v ≡ get_or v i pair ∷ drop (suc i) v = drop-cons v i pair low in
    let rest : multiplier (drop (suc i) v) s ≡ get_or xs s 0 = sym (before s ∙ ap (λ (n : ℕ). multiplier (drop n v) s) next) in
    set_is xs pair.0 pair.1 s within
    ∙ sym (
    ap (λ (n : ℕ). multiplier (drop n v) s) place
    ∙ ap (λ (p : Multipliers). multiplier p s) split
    ∙ ap (λ (p : ℕ × ℕ). cond (p.0 == s) p.1 (multiplier (drop (suc i) v) s)) (sym is)
    ∙ ap (λ (m : ℕ). cond (pair.0 == s) pair.1 m) rest
    )

pub bounded : (xs : List ℕ) (side x : ℕ) → side < length xs → x ≤ 16777216 → ((s : ℕ) → get_or xs s 0 ≤ 16777216) → (s : ℕ) → get_or (set xs side x) s 0 ≤ 16777216
bounded xs side x within few all s =
    elim (eqb_tells side s) [
      | inl (e, same) ↦ omega (arith, ap (λ (t : ℕ). get_or (set xs side x) t 0) (sym same) ∙ get_or-set_same xs side x 0 within)
      | inr (e, other) ↦ let ne : s ≢ side = λ same. other (sym same) in omega (arith, get_or-set_other xs side s x 0 ne, all s)
    ]

pub none : (v : Multipliers) (n s : ℕ) → n ≡ length v → multiplier (drop n v) s ≡ 0
none [] zero s e = refl
none [] (suc n) s e = refl
none (pair ∷ pairs) zero s e = absurd (omega arith)
none (pair ∷ pairs) (suc n) s e = none pairs n s (omega arith)
