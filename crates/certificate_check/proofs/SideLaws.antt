-- The multipliers of sides.
use Rattle.std.proofs.Common.{◌≡◌, ◌≢◌, ℕ, ◌+◌, ◌<◌, ◌≤◌, ◌⊎◌, inl, inr, List, [], ◌∷◌, length, get_or, set, refl, sym, ap, ◌∙◌, arith}
use Rattle.std.proofs.lemmas.List.{get_or_past, get_or-set_same, get_or-set_other, get_or-replicate, length-replicate}
use Rattle.std.proofs.Math.ListN.{replicate}
use Rattle.std.proofs.lemmas.Bool.{cases_lt, cases_eq}
use Rattle.std.proofs.lemmas.Bool.Decides.{eqb_tells}
use Rattle.certificate_model.specs.ProofTrees.{IsVector}
use Rattle.certificate_model.specs.Relaxed.{Multipliers, multiplier}

none_below : (from k : ℕ) (v : Multipliers) → IsVector from v → k < from → multiplier v k ≡ 0
none_below from k [] is low = refl
none_below from k (pair ∷ pairs) is low =
    elim (eqb_tells pair.0 k) [
      | inl (e, same) ↦ absurd (omega (arith, is.0))
      | inr (e, other) ↦ rw e (none_below (pair.0 + 1) k pairs is.3 (omega (arith, is.0)))
    ]

pub multiplier_high : (from k : ℕ) (v : Multipliers) → IsVector from v → multiplier v k ≤ 16777216
multiplier_high from k [] is = omega arith
multiplier_high from k (pair ∷ pairs) is =
    elim (eqb_tells pair.0 k) [
      | inl (e, same) ↦ rw e is.2
      | inr (e, other) ↦ rw e (multiplier_high (pair.0 + 1) k pairs is.3)
    ]

-- the sides below `from` have their multipliers, and what is left of the vector names those of the
-- others
pub record IsRead (v left : Multipliers) (sides : List ℕ) (from : ℕ) : Type 0 where
  pub vector : IsVector from left
  pub below : (k : ℕ) → k < from → get_or sides k 0 ≡ multiplier v k
  pub unread : (k : ℕ) → from ≤ k → get_or sides k 0 ≡ 0
  pub rest : (k : ℕ) → from ≤ k → multiplier v k ≡ multiplier left k

first_of : (pair : ℕ × ℕ) (pairs : Multipliers) (k : ℕ) → k ≡ pair.0 → multiplier (pair ∷ pairs) k ≡ pair.1
first_of pair pairs k e = elim (eqb_tells pair.0 k) [ inl (same, is) ↦ rw same refl | inr (other, not) ↦ absurd (not (sym e)) ]

next_of : (pair : ℕ × ℕ) (pairs : Multipliers) (k : ℕ) → k ≢ pair.0 → multiplier (pair ∷ pairs) k ≡ multiplier pairs k
next_of pair pairs k ne = elim (eqb_tells pair.0 k) [ inl (same, is) ↦ absurd (ne (sym is)) | inr (other, not) ↦ rw other refl ]

pub more_read : (v pairs : Multipliers) (pair : ℕ × ℕ) (sides : List ℕ) (from : ℕ) → pair.0 < length sides → IsRead v (pair ∷ pairs) sides from → IsRead v pairs (set sides pair.0 pair.1) (pair.0 + 1)
more_read v pairs pair sides from within read =
    record {
      vector = read.vector.3;
      below =
          λ k w.
          elim (cases_eq k pair.0) [
            | inl same ↦
                ap (λ (j : ℕ). get_or (set sides pair.0 pair.1) j 0) same
                ∙ get_or-set_same sides pair.0 pair.1 0 within
                ∙ sym (read.rest k (omega (arith, read.vector.0)) ∙ first_of pair pairs k same)
            | inr ne ↦ get_or-set_other sides pair.0 k pair.1 0 ne ∙ before k w ne (cases_lt k from)
          ];
      unread = λ k past. let ne : k ≢ pair.0 = omega arith in get_or-set_other sides pair.0 k pair.1 0 ne ∙ read.unread k (omega (arith, read.vector.0));
      rest = λ k past. read.rest k (omega (arith, read.vector.0)) ∙ next_of pair pairs k (omega arith);
    }
  where
    before : (k : ℕ) → k < pair.0 + 1 → k ≢ pair.0 → (k < from) ⊎ (from ≤ k) → get_or sides k 0 ≡ multiplier v k
    before k w ne (inl low) = read.below k low
    before k w ne (inr high) = read.unread k high ∙ sym (read.rest k high ∙ next_of pair pairs k ne ∙ none_below (pair.0 + 1) k pairs read.vector.3 w)

pub none_read : (v : Multipliers) (n : ℕ) → IsVector 0 v → IsRead v v (replicate {A = ℕ} n 0) 0
none_read v n is = record { vector = is; below = λ k w. absurd (omega arith); unread = λ k past. zeros n k; rest = λ k past. refl }
  where
    zeros : (n k : ℕ) → ◌≡◌ {A = ℕ} (get_or (replicate {A = ℕ} n 0) k 0) 0
    zeros n k = elim (cases_lt k n) [ inl low ↦ get_or-replicate n k 0 0 low | inr high ↦ get_or_past (replicate {A = ℕ} n 0) k 0 (omega (arith, length-replicate {A = ℕ} n 0)) ]

pub all_read : (v : Multipliers) (sides : List ℕ) (from : ℕ) → IsRead v [] sides from → (k : ℕ) → get_or sides k 0 ≡ multiplier v k
all_read v sides from read k = elim (cases_lt k from) [ inl low ↦ read.below k low | inr high ↦ read.unread k high ∙ sym (read.rest k high) ]
