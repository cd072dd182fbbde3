-- What may be written to a link.
use Rattle.std.specs.Prelude.{ℕ, Bool, List, ◌++◌, take, IsTrue}

-- after what was written, each beginning of the piece is allowed
abbrev pub MayWrite : (List ℕ → Type 0) → List ℕ → List ℕ → Type 0
MayWrite allowed written piece = (k : ℕ) → allowed (written ++ take k piece)

-- what was allowed is allowed still
abbrev pub StillAllows : {S : Type 0} → (S → List ℕ → Type 0) → S → S → Type 0
StillAllows allows old new = (text : List ℕ) → allows old text → allows new text

-- each object that reports its bytes allows each text
abbrev pub AllowsAll : {S : Type 0} → (S → Bool) → (S → List ℕ → Type 0) → Type 0
AllowsAll {S} tells allows = (object : S) → IsTrue (tells object) → (text : List ℕ)
    → allows object text
