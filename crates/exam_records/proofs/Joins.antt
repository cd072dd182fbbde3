-- Pieces that were written one after the other.
use Rattle.std.proofs.Common.{◌≡◌, ℕ, List, ◌∷◌, ◌++◌, Result, Ok, Err, ap, ◌∙◌, append_assoc}
use Rattle.std.specs.Prelude.{OnOk, if◌then◌else◌}
use Rattle.std.specs.Result.{is_ok}

-- three pieces
pub three_pieces : (old x y z first second third : List ℕ) → first ≡ old ++ x → second ≡ first ++ y → third ≡ second ++ z → third ≡ old ++ (x ++ (y ++ z))
three_pieces old x y z first second third e f g = rw (g, f, e) (simp append_assoc)

-- and four
pub four_pieces : (old w x y z first second third fourth : List ℕ) → first ≡ old ++ w → second ≡ first ++ x → third ≡ second ++ y → fourth ≡ third ++ z → fourth ≡ old ++ (w ++ (x ++ (y ++ z)))
four_pieces old w x y z first second third fourth e f g h = rw (h, g, f, e) (simp append_assoc)

-- a start, and its list after its sets
pub started_pieces : (old session booking sets list first second : List ℕ) (kind count : ℕ) → first ≡ old ++ kind ∷ (session ++ (booking ++ count ∷ sets)) → second ≡ first ++ list → second ≡ old ++ kind ∷ (session ++ (booking ++ count ∷ (sets ++ list)))
started_pieces old session booking sets list first second kind count e f =
    f ∙ (ap (λ (t : List ℕ). t ++ list) e
    ∙ (append_assoc old (kind ∷ (session ++ (booking ++ count ∷ sets))) list
    ∙ ap (λ (t : List ℕ). old ++ kind ∷ t) (append_assoc session (booking ++ count ∷ sets) list ∙ ap (λ (t : List ℕ). session ++ t) (append_assoc booking (count ∷ sets) list))))

-- a list that is one or the other, where it was written
pub if_written : {T E : Type 0} (r : Result T E) (items written kept : List ℕ) → items ≡ (if is_ok r then written else kept) → OnOk r (items ≡ written)
if_written (Ok x) items written kept e = e
if_written (Err x) items written kept e = tt
