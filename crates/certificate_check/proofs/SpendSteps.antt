-- A walk through a spent tree.
use Rattle.std.proofs.Common.{◌≡◌, ℕ, suc, ◌+◌, ◌<◌, List, [], ◌∷◌, length, drop, Option, Some, None, Bool, true, refl, sym, subst, ◌∙◌, arith}
use Rattle.std.specs.Prelude.{is_some}
use Rattle.std.proofs.Math.Bool.{true≢false}
use Rattle.certificate_model.specs.declared.node.Node.{Node}
use Rattle.form_model.specs.Problem.{Problem}
use Rattle.certificate_model.specs.Paths.{Path, root}
use Rattle.certificate_model.specs.ProofTrees.{ProofTree, AreTrees}
use Rattle.certificate_model.specs.Spending.{AreSpentNodes, IsSpentNode}
use Rattle.certificate_model.specs.Verdicts.{below}
use Rattle.certificate_check.specs.Spends.{SpendsTo, IsSpending}

-- a leaf
pub leaf_spends : (P : Problem) (T : ProofTree) (at : ℕ) (p : Path) (node : Node)
    → drop at T.nodes ≡ node ∷ drop (at + 1) T.nodes
    → at < length T.nodes
    → below P T p node ≡ []
    → ((nodes : List Node) (wait : ℕ) → AreTrees (suc wait) (node ∷ nodes) → AreTrees wait nodes)
    → IsSpentNode P T p node
    → SpendsTo P T at p (at + 1)
leaf_spends P T at p node here within none makes spent =
    record {
      on = omega arith;
      within = omega arith;
      makes = λ wait h. makes (drop (at + 1) T.nodes) wait (rw here at h);
      whole = λ paths rest. rw here (spent, rw none rest);
      rest = λ paths whole. let parts : AreSpentNodes P T (node ∷ drop (at + 1) T.nodes) (p ∷ paths) = rw here at whole in rw none at parts.1;
    }

-- a Fix, and what is spent below it
pub fix_spends : (P : Problem) (T : ProofTree) (at : ℕ) (p q : Path) (node : Node)
    → drop at T.nodes ≡ node ∷ drop (at + 1) T.nodes
    → at < length T.nodes
    → below P T p node ≡ q ∷ []
    → ((nodes : List Node) (wait : ℕ) → AreTrees (suc wait) (node ∷ nodes) → AreTrees (suc wait) nodes)
    → IsSpentNode P T p node
    → (result : Option ℕ)
    → IsSpending P T (at + 1) q result
    → IsSpending P T at p result
fix_spends P T at p q node here within one makes spent (Some next) first =
    record {
      on = omega (arith, first.on);
      within = first.within;
      makes = λ wait h. first.makes wait (makes (drop (at + 1) T.nodes) wait (rw here at h));
      whole = λ paths rest. rw here (spent, rw one (first.whole paths rest));
      rest = λ paths whole. let parts : AreSpentNodes P T (node ∷ drop (at + 1) T.nodes) (p ∷ paths) = rw here at whole in first.rest paths (rw one at parts.1);
    }
fix_spends P T at p q node here within one makes spent None fails =
    λ paths whole. let parts : AreSpentNodes P T (node ∷ drop (at + 1) T.nodes) (p ∷ paths) = rw here at whole in fails paths (rw one at parts.1)

-- a node that is not as in a spent tree
pub not_spent : (P : Problem) (T : ProofTree) (at : ℕ) (p : Path) (node : Node)
    → drop at T.nodes ≡ node ∷ drop (at + 1) T.nodes
    → (IsSpentNode P T p node → ⊥)
    → IsSpending P T at p None
not_spent P T at p node here not =
    λ paths whole.
    let parts : AreSpentNodes P T (node ∷ drop (at + 1) T.nodes) (p ∷ paths) = rw here at whole in
    not parts.0

-- the whole tree
no_tree : (xs : List Node) → AreTrees 0 xs → xs ≡ []
no_tree [] h = refl
no_tree (node ∷ xs) h = absurd h

pub all_spent : (P : Problem) (T : ProofTree) (p : Path) (next : ℕ) → p ≡ root P → AreTrees 1 T.nodes → SpendsTo P T 0 p next → AreSpentNodes P T T.nodes (root P ∷ [])
all_spent P T p next at_root tree spends =
    let ended : drop next T.nodes ≡ [] = no_tree (drop next T.nodes) (spends.makes 0 tree) in
    let whole : AreSpentNodes P T T.nodes (p ∷ []) = spends.whole [] (rw ended tt) in
    subst (λ (q : Path). AreSpentNodes P T T.nodes (q ∷ [])) at_root whole

pub spent_where : (P : Problem) (T : ProofTree) (p : Path) (result : Option ℕ) (found : Bool) → found ≡ is_some result → p ≡ root P → AreTrees 1 T.nodes → IsSpending P T 0 p result → (found ≡ true → AreSpentNodes P T T.nodes (root P ∷ [])) × (AreSpentNodes P T T.nodes (root P ∷ []) → found ≡ true)
spent_where P T p (Some next) found is at_root tree spends = (λ _. all_spent P T p next at_root tree spends, λ _. is)
spent_where P T p None found is at_root tree fails = (λ h. absurd (true≢false (sym h ∙ is)), λ spent. absurd (fails [] (subst (λ (q : Path). AreSpentNodes P T T.nodes (q ∷ [])) (sym at_root) spent)))
