-- The multipliers of sides.
use Rattle.std.proofs.Common.{◌≡◌, ◌≢◌, ℕ, ◌+◌, ◌-◌, ◌*◌, ◌<◌, ◌≤◌, ◌⊎◌, inl, inr, true, false, ◌&&◌, ◌==◌, List, [], ◌∷◌, length, get_or, set, refl, sym, ap, ◌∙◌, subst, arith, nat_le, nat_lt}
use Rattle.std.proofs.lemmas.List.{get_or_read_under, get_or_past, get_or-set_same, get_or-set_other, get_or-replicate, length-replicate}
use Rattle.std.proofs.Math.ListN.{replicate}
use Rattle.std.proofs.lemmas.Bool.{cases_lt, cases_eq, lt-ltb, ltb-true, le-leb, leb-true, eq-eqb, ne_eqb, and_parts, and_from}
use Rattle.std.proofs.Math.Bool.{true≢false}
use Rattle.std.proofs.lemmas.Bool.Decides.{eqb_tells}
use Rattle.certificate_model.specs.Relaxed.{Multipliers, multiplier}
use Rattle.form_model.proofs.SumLaws.{either}
use Rattle.series_model.specs.SeriesTrees.{Certificate, vector_at, Ascends}
use Rattle.series_model.specs.SeriesBounds.{first_side, multipliers_of}

none_below : (from k : ℕ) (v : Multipliers) → Ascends from v → k < from → multiplier v k ≡ 0
none_below from k [] is low = refl
none_below from k (pair ∷ pairs) is low =
    elim (eqb_tells pair.0 k) [
      | inl (e, same) ↦ absurd (omega (arith, is.0))
      | inr (e, other) ↦ rw e (none_below (pair.0 + 1) k pairs is.3 (omega (arith, is.0)))
    ]

-- the sides below `from` have their multipliers, and what is left of the vector names those of the
-- others
pub record IsRead (v left : Multipliers) (sides : List ℕ) (from : ℕ) : Type 0 where
  pub vector : Ascends from left
  pub below : (k : ℕ) → k < from → get_or sides k 0 ≡ multiplier v k
  pub unread : (k : ℕ) → from ≤ k → get_or sides k 0 ≡ 0
  pub rest : (k : ℕ) → from ≤ k → multiplier v k ≡ multiplier left k

first_of : (pair : ℕ × ℕ) (pairs : Multipliers) (k : ℕ) → k ≡ pair.0 → multiplier (pair ∷ pairs) k ≡ pair.1
first_of pair pairs k e = elim (eqb_tells pair.0 k) [ inl (same, is) ↦ rw same refl | inr (other, not) ↦ absurd (not (sym e)) ]

next_of : (pair : ℕ × ℕ) (pairs : Multipliers) (k : ℕ) → k ≢ pair.0 → multiplier (pair ∷ pairs) k ≡ multiplier pairs k
next_of pair pairs k ne = elim (eqb_tells pair.0 k) [ inl (same, is) ↦ absurd (ne (sym is)) | inr (other, not) ↦ rw other refl ]

pub more_read : (v pairs : Multipliers) (pair : ℕ × ℕ) (sides : List ℕ) (from : ℕ) → pair.0 < length sides → IsRead v (pair ∷ pairs) sides from → IsRead v pairs (set sides pair.0 pair.1) (pair.0 + 1)
more_read v pairs pair sides from within read =
    record {
      vector = read.vector.3;
      below =
          λ k w.
          elim (cases_eq k pair.0) [
            | inl same ↦
                ap (λ (j : ℕ). get_or (set sides pair.0 pair.1) j 0) same
                ∙ get_or-set_same sides pair.0 pair.1 0 within
                ∙ sym (read.rest k (omega (arith, read.vector.0)) ∙ first_of pair pairs k same)
            | inr ne ↦ get_or-set_other sides pair.0 k pair.1 0 ne ∙ before k w ne (cases_lt k from)
          ];
      unread = λ k past. let ne : k ≢ pair.0 = omega arith in get_or-set_other sides pair.0 k pair.1 0 ne ∙ read.unread k (omega (arith, read.vector.0));
      rest = λ k past. read.rest k (omega (arith, read.vector.0)) ∙ next_of pair pairs k (omega arith);
    }
  where
    before : (k : ℕ) → k < pair.0 + 1 → k ≢ pair.0 → (k < from) ⊎ (from ≤ k) → get_or sides k 0 ≡ multiplier v k
    before k w ne (inl low) = read.below k low
    before k w ne (inr high) = read.unread k high ∙ sym (read.rest k high ∙ next_of pair pairs k ne ∙ none_below (pair.0 + 1) k pairs read.vector.3 w)

pub none_read : (v : Multipliers) (n : ℕ) → Ascends 0 v → IsRead v v (replicate {A = ℕ} n 0) 0
none_read v n is = record { vector = is; below = λ k w. absurd (omega arith); unread = λ k past. zeros n k; rest = λ k past. refl }
  where
    zeros : (n k : ℕ) → ◌≡◌ {A = ℕ} (get_or (replicate {A = ℕ} n 0) k 0) 0
    zeros n k = elim (cases_lt k n) [ inl low ↦ get_or-replicate n k 0 0 low | inr high ↦ get_or_past (replicate {A = ℕ} n 0) k 0 (omega (arith, length-replicate {A = ℕ} n 0)) ]

pub all_read : (v : Multipliers) (sides : List ℕ) (from : ℕ) → IsRead v [] sides from → (k : ℕ) → get_or sides k 0 ≡ multiplier v k
all_read v sides from read k = elim (cases_lt k from) [ inl low ↦ read.below k low | inr high ↦ read.unread k high ∙ sym (read.rest k high) ]

-- ---- the sides of one form
-- a form's multiplier of a side is the vector's of that side of the form
pub multiplier_of : (f : ℕ) (v : Multipliers) (k : ℕ) → k < 384 → multiplier (multipliers_of f v) k ≡ multiplier v (first_side f + k)
multiplier_of f [] k w = refl
multiplier_of f (pair ∷ pairs) k w =
    let rest = multiplier_of f pairs k w in
    elim (either (nat_le (first_side f) pair.0 && nat_lt pair.0 (first_side f + 384))) [
      | inl inside ↦
          let low : first_side f ≤ pair.0 = leb-true (first_side f) pair.0 (and_parts _ _ inside).0 in
          rw inside (
          elim (eqb_tells pair.0 (first_side f + k)) [
            | inl (e, same) ↦ (let here : (pair.0 - first_side f == k) ≡ true = eq-eqb (pair.0 - first_side f) k (omega arith) in rw (here, e) refl)
            | inr (e, other) ↦ (let here : (pair.0 - first_side f == k) ≡ false = ne_eqb (pair.0 - first_side f) k (λ d. other (omega arith)) in rw (here, e) rest)
          ])
      | inr outside ↦
          let ne : (pair.0 == first_side f + k) ≡ false = ne_eqb pair.0 (first_side f + k) (λ d. absurd (true≢false (sym (inside_if pair.0 k w d) ∙ outside))) in
          rw (outside, ne) rest
    ]
  where
    inside_if : (side k : ℕ) → k < 384 → side ≡ first_side f + k → (nat_le (first_side f) side && nat_lt side (first_side f + 384)) ≡ true
    inside_if side k w e = and_from _ _ (le-leb (first_side f) side (omega arith)) (lt-ltb side (first_side f + 384) (omega arith))

-- and it has none past these
pub no_multiplier_past : (f : ℕ) (v : Multipliers) (k : ℕ) → 384 ≤ k → multiplier (multipliers_of f v) k ≡ 0
no_multiplier_past f [] k past = refl
no_multiplier_past f (pair ∷ pairs) k past =
    let rest = no_multiplier_past f pairs k past in
    elim (either (nat_le (first_side f) pair.0 && nat_lt pair.0 (first_side f + 384))) [
      | inl inside ↦
          let high : pair.0 < first_side f + 384 = ltb-true pair.0 (first_side f + 384) (and_parts (nat_le (first_side f) pair.0) (nat_lt pair.0 (first_side f + 384)) inside).1 in
          let ne : (pair.0 - first_side f == k) ≡ false = ne_eqb (pair.0 - first_side f) k (λ d. absurd (omega arith)) in
          rw (inside, ne) rest
      | inr outside ↦ rw outside rest
    ]

pub own_sides : (f : ℕ) (v : Multipliers) (sides own : List ℕ) → length own ≡ 384
    → ((side : ℕ) → get_or sides side 0 ≡ multiplier v side)
    → ((k : ℕ) → k < 384 → get_or own k 0 ≡ get_or sides (768 + 384 * f + k) 0)
    → (side : ℕ) → get_or own side 0 ≡ multiplier (multipliers_of f v) side
own_sides f v sides own len all each side =
    elim (cases_lt side 384) [
      | inl low ↦ each side low ∙ all (768 + 384 * f + side) ∙ sym (multiplier_of f v side low)
      | inr high ↦ get_or_past own side 0 (omega (arith, len)) ∙ sym (no_multiplier_past f v side high)
    ]

-- a write keeps what holds of the numbers before it
pub number_written : (P : ℕ → ℕ → Type 0) (xs : List ℕ) (n x : ℕ) → n < length xs → ((k : ℕ) → k < n → P k (get_or xs k 0)) → P n x → (k : ℕ) → k < n + 1 → P k (get_or (set xs n x) k 0)
number_written P xs n x within before here k w =
    elim (cases_lt k n) [
      | inl low ↦ let ne : k ≢ n = omega arith in subst (P k) (sym (get_or-set_other xs n k x 0 ne)) (before k low)
      | inr high ↦
          let e : n ≡ k = omega arith in
          subst (λ (j : ℕ). P j (get_or (set xs n x) j 0)) e (subst (P n) (sym (get_or-set_same xs n x 0 within)) here)
    ]

-- the vector that is read is the tree's
pub vector_read : (T : Certificate) (vectors : List Multipliers) (v : ℕ) (pairs : Multipliers) → vectors ≡ T.vectors → pairs ≡ get_or vectors v pairs → v < length vectors → pairs ≡ vector_at T v
vector_read T vectors v pairs same is within = get_or_read_under vectors v (length vectors) pairs [] is within refl ∙ ap (λ (vs : List Multipliers). get_or vs v []) same
