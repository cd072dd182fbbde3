-- What a node that fixes items settles, and the path below it.
use Rattle.std.specs.Prelude.{◌≡◌, ℕ, Bool, ◌&&◌, nat_lt, List, get_or, IsTrue, IsFalse, Option, Some, None, Result, Ok, Err}
use Rattle.bank_tables.specs.Items.{Set, has}
use Rattle.certificate_model.specs.declared.node.Node.{Node}
use Rattle.certificate_model.specs.declared.node.Node.TheVariants.{Fix}
use Rattle.certificate_model.specs.declared.verdict.Reason.{Reason}
use Rattle.form_model.specs.Plan.{bound_at}
use Rattle.form_model.specs.Problem.{Problem}
use Rattle.certificate_model.specs.Fixing.{is_put_out, is_taken_in, is_settled_on, fixed_path, settles}
use Rattle.certificate_model.specs.Paths.{Path, is_open}
use Rattle.certificate_model.specs.ProofTrees.{ProofTree, vector_at}
use Rattle.certificate_model.specs.Relaxed.{Multipliers}
use Rattle.certificate_model.specs.Spending.{IsSpentNode}
use Rattle.certificate_model.specs.Verdicts.{IsSound, IsUnsound}
use Rattle.certificate_check.specs.Cuts.{path_of}
use Rattle.certificate_check.specs.declared.cut.Cut.{Cut}
use Rattle.certificate_check.specs.declared.fixing.Fixed.{Fixed}
use Rattle.certificate_check.specs.declared.walk.Unsound.{Unsound}

-- an open stimulus with fewer items left, by these counts, than a form that uses it has
unfoldable pub lacks_items : Problem → Path → List ℕ → ℕ → Bool
lacks_items P p left s = is_open P p s && nat_lt (get_or left s 0) (bound_at P.plan s).low

-- the sets are what a vector settles for a goal
pub record AreFixed (P : Problem) (p : Path) (v : Multipliers) (goal : ℕ) (f : Fixed) : Type 0 where
  pub taken : (i : ℕ) → has f.taken i ≡ is_taken_in P p v goal i
  pub out : (i : ℕ) → has f.out i ≡ is_put_out P p v goal i
  pub branched_on : (s : ℕ) → has f.branched_on s ≡ is_settled_on P p v goal s

-- the path below, or nothing is settled
abbrev pub IsFixed : Problem → Path → Multipliers → ℕ → Option Cut → Type 0
IsFixed P p v goal None = IsFalse (settles P p v goal)
IsFixed P p v goal (Some cut) =
    IsTrue (settles P p v goal) × (path_of cut ≡ fixed_path P p v goal)

-- the node is sound, and this is the path below it; or this is why it is not
abbrev pub IsFixBelow : Problem → Option Set → ProofTree → Path → ℕ → ℕ → Result Cut Reason → Type 0
IsFixBelow P X T p which goal (Ok cut) = IsSound P X T p (Fix which goal)
    × (path_of cut ≡ fixed_path P p (vector_at T which) goal)
IsFixBelow P X T p which goal (Err reason) = IsUnsound P X T p (Fix which goal) reason

-- the path that a node goes on with: a Fix its own, any other the path that leads to it
abbrev pub onward : Problem → ProofTree → Path → Node → Path
onward P T p (Fix which goal) = fixed_path P p (vector_at T which) goal
onward P T p node = p

-- the node is sound, and this is the path that it goes on with; or it is the first unsound one
abbrev pub IsJudged : Problem → Option Set → ProofTree → ℕ → Path → Node → Result Cut Unsound → Type 0
IsJudged P X T at p node (Ok cut) = IsSound P X T p node × (path_of cut ≡ onward P T p node)
IsJudged P X T at p node (Err unsound) =
    (unsound.node ≡ at) × IsUnsound P X T p node unsound.reason

-- the node is as in a spent tree, and this is the path that it goes on with; or it is not
abbrev pub IsSpentOnward : Problem → ProofTree → Path → Node → Option Cut → Type 0
IsSpentOnward P T p node (Some cut) =
    IsSpentNode P T p node × (path_of cut ≡ onward P T p node)
IsSpentOnward P T p node None = IsSpentNode P T p node → ⊥

-- so it is of a Fix
abbrev pub IsSpentFix : Problem → ProofTree → Path → ℕ → ℕ → Option Cut → Type 0
IsSpentFix P T p which goal = IsSpentOnward P T p (Fix which goal)
