-- A list whose slice was lent and written.
use Rattle.std.proofs.Common.{◌≡◌, ℕ, List, ◌++◌, take, length, subst}
use Rattle.std.proofs.Math.Seq.{take-append_seam}

-- a slice of the whole length is the list afterwards
pub written_back : {A : Type 0} (xs zs : List A) (n : ℕ) → length xs ≡ n → take n (xs ++ zs) ≡ xs
written_back xs zs n e = subst (λ (k : ℕ). take k (xs ++ zs) ≡ xs) e (take-append_seam xs zs)
