-- A walk through the whole tree gives its verdict.
use Rattle.std.proofs.Common.{◌≡◌, ℕ, zero, suc, ◌+◌, inl, inr, List, [], ◌∷◌, ◌++◌, drop, Option, Some, None, refl, subst}
use Rattle.std.specs.Prelude.{IsSomeAnd}
use Rattle.std.specs.Option.{option_map}
use Rattle.bank_tables.specs.Items.{Set, has}
use Rattle.certificate_model.specs.declared.node.Node.{Node}
use Rattle.certificate_model.specs.declared.verdict.Reason.{Reason}
use Rattle.certificate_model.specs.declared.verdict.Verdict.{Verdict}
use Rattle.certificate_model.specs.declared.verdict.Verdict.TheVariants.{Optimal, NoForm, Bad}
use Rattle.form_model.specs.Forms.{Best, HasNoForm}
use Rattle.form_model.specs.Problem.{Problem}
use Rattle.certificate_model.specs.Paths.{Path, root}
use Rattle.certificate_model.specs.ProofTrees.{ProofTree, AreTrees}
use Rattle.certificate_model.specs.Verdicts.{below, open_leaf, verdict_of, GivesFrom, IsVerdict}
use Rattle.certificate_model.proofs.TreeLaws.{optimal_is_best, no_form_is_none}
use Rattle.certificate_check.specs.Walks.{Passes}

no_tree : (xs : List Node) → AreTrees 0 xs → xs ≡ []
no_tree [] h = refl
no_tree (node ∷ xs) h = absurd h

pub whole_walk : (P : Problem) (X : Option Set) (T : ProofTree) (p : Path) (next after : ℕ) (verdict : Verdict) → p ≡ root P → AreTrees 1 T.nodes → Passes P X T 0 0 p next after → verdict ≡ verdict_of X after → GivesFrom P X T 0 0 T.nodes (root P ∷ []) verdict
whole_walk P X T p next after verdict at_root tree passes is =
    let ended : drop next T.nodes ≡ [] = no_tree (drop next T.nodes) (passes.makes 0 tree) in
    let gives : GivesFrom P X T 0 0 T.nodes (p ∷ []) verdict = passes.gives [] verdict (rw ended is) in
    subst (λ (q : Path). GivesFrom P X T 0 0 T.nodes (q ∷ []) verdict) at_root gives

-- with a form no tree shows that there is none, and without one none shows that it is best
wrong_end : (P : Problem) (X : Option Set) (T : ProofTree) (verdict : Verdict) → ((met : ℕ) → verdict ≡ verdict_of X met → ⊥) → ((at : ℕ) (reason : Reason) → verdict ≡ Bad at reason → ⊥) → (at met : ℕ) (nodes : List Node) (paths : List Path) → GivesFrom P X T at met nodes paths verdict → ⊥
wrong_end P X T verdict ends bad at met [] [] gives = ends met gives
wrong_end P X T verdict ends bad at met [] (p ∷ paths) gives = gives
wrong_end P X T verdict ends bad at met (node ∷ nodes) [] gives = gives
wrong_end P X T verdict ends bad at met (node ∷ nodes) (p ∷ paths) (inl sound) = wrong_end P X T verdict ends bad (at + 1) (met + open_leaf node) nodes (below P T p node ++ paths) sound.1
wrong_end P X T verdict ends bad at met (node ∷ nodes) (p ∷ paths) (inr unsound) = bad at unsound.0 unsound.2

not_optimal : (met : ℕ) → Optimal ≡ verdict_of None met → ⊥
not_optimal zero e = cc
not_optimal (suc met) e = cc

not_no_form : (X : Set) (met : ℕ) → NoForm ≡ verdict_of (Some X) met → ⊥
not_no_form X zero e = cc
not_no_form X (suc met) e = cc

pub optimal_has_form : (P : Problem) (form : Option (List ℕ)) (T : ProofTree) (verdict : Verdict) → IsVerdict P (option_map has form) T verdict → verdict ≡ Optimal → IsSomeAnd form (λ items. Best P (has items))
optimal_has_form P (Some items) T verdict is e = optimal_is_best P (has items) T (subst (IsVerdict P (Some (has items)) T) e is)
optimal_has_form P None T verdict (inl gives) e = absurd (wrong_end P None T Optimal not_optimal (λ at reason f. cc) 0 0 T.nodes (root P ∷ []) (subst (GivesFrom P None T 0 0 T.nodes (root P ∷ [])) e gives.1))
optimal_has_form P None T verdict (inr bad) e = absurd (let f = bad.1 in cc)

pub no_form_has_none : (P : Problem) (form : Option (List ℕ)) (T : ProofTree) (verdict : Verdict) → IsVerdict P (option_map has form) T verdict → verdict ≡ NoForm → HasNoForm P
no_form_has_none P None T verdict is e = no_form_is_none P T (subst (IsVerdict P None T) e is)
no_form_has_none P (Some items) T verdict (inl gives) e = absurd (wrong_end P (Some (has items)) T NoForm (not_no_form (has items)) (λ at reason f. cc) 0 0 T.nodes (root P ∷ []) (subst (GivesFrom P (Some (has items)) T 0 0 T.nodes (root P ∷ [])) e gives.1))
no_form_has_none P (Some items) T verdict (inr bad) e = absurd (let f = bad.1 in cc)
