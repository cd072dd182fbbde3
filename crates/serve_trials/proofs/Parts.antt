-- Beginnings of a piece.
use Rattle.std.proofs.Common.{◌≡◌, ◌++◌, ℕ, List, take, sym, ap, ◌∙◌, subst, arith, inl, inr, length-take}
use Rattle.std.proofs.lemmas.Bool.{cases_lt}
use Rattle.std.proofs.lemmas.List.{take_all, take-take}
use Rattle.exam_edge.specs.Allowing.{MayWrite}

beginning : (piece : List ℕ) (n k : ℕ) → (m : ℕ) × (take k (take n piece) ≡ take m piece)
beginning piece n k = elim (cases_lt n k) [
  | inl lt ↦ (n, take_all k (take n piece) (let is = length-take n piece in omega arith))
  | inr le ↦ (k, take-take k n piece (omega arith))
]

-- where a piece may be written, a beginning of it may
pub may_begin : (allowed : List ℕ → Type 0) (written piece part : List ℕ) (n : ℕ) → part ≡ take n piece
    → MayWrite allowed written piece → MayWrite allowed written part
may_begin allowed written piece part n is h k =
    let b = beginning piece n k in
    subst (λ (x : List ℕ). allowed (written ++ x)) (sym (ap (take k) is ∙ b.1)) (h b.0)
