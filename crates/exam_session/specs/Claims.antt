-- Why a tree doesn't show what an entry claims of it.
use Rattle.std.specs.Prelude.{◌≡◌, ℕ, Option}
use Rattle.bank_tables.specs.Items.{Set}
use Rattle.form_model.specs.Problem.{Problem}
use Rattle.certificate_model.specs.ProofTrees.{ProofTree}
use Rattle.history_model.specs.declared.illegal.Illegal.{Illegal}
use Rattle.history_model.specs.declared.illegal.Illegal.TheVariants.{NotSpent, Tree}
use Rattle.history_model.specs.declared.claim.Claim.{Claim}
use Rattle.history_model.specs.Judging.{HasTree, HasVerdict, IsAsked}

-- there is no tree of so many nodes, spent where that is asked for; or its verdict isn't the one
-- asked for
abbrev pub IsNotShown : Problem → Option Set → ℕ → ℕ → Claim → Option ProofTree → Illegal → Type 0
IsNotShown P X budget nodes claim tree (NotSpent number) =
    (HasTree P budget nodes claim tree → ⊥) × (number ≡ nodes)
IsNotShown P X budget nodes claim tree (Tree verdict) =
    HasTree P budget nodes claim tree × HasVerdict P X tree verdict × (IsAsked claim verdict → ⊥)
IsNotShown P X budget nodes claim tree reason = ⊥
