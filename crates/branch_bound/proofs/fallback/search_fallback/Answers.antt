use Rattle.std.proofs.Common.{◌≡◌, ◌-◌, ◌/◌, ◌<◌, ◌≤◌, List, [], ◌∷◌, ◌++◌, length, refl, sym, ap, ap₂, ◌∙◌, subst, arith, Option}
use Rattle.std.specs.Option.{option_map}
use Rattle.bank_tables.specs.Items.{Set, has}
use Rattle.certificate_model.specs.declared.node.Node.{Node}
use Rattle.certificate_model.specs.Paths.{root}
use Rattle.form_model.specs.Problem.{Problem}
use Rattle.certificate_model.specs.ProofTrees.{ProofTree}
use Rattle.certificate_model.specs.Relaxed.{Multipliers}
use Rattle.certificate_model.specs.Spending.{open_leaves, IsSpent}
use Rattle.form_model.specs.Validity.{IsBudget}
use Rattle.certificate_model.specs.Verdicts.{verdict_of, IsFormOrNone, IsVerdict}
use Rattle.proof_tree.specs.Shape.{IsTree}
use Rattle.constraint_model.specs.Views.{problem_of}
use Rattle.branch_bound.specs.declared.outcome.Outcome.{Outcome}
use Rattle.branch_bound.specs.Assemblies.{IsAssembly}
use Rattle.branch_bound.specs.Comparing.{IsAsGood}
use Rattle.branch_bound.specs.Searches.{plain_tree, Adds}
use Rattle.branch_bound.specs.Showing.{Shows}
use Rattle.branch_bound.proofs.WholeSearch.{is_tree, is_assembly, number}
use Rattle.branch_bound.proofs.fallback.search_fallback.Goals as goal

-- a list that was empty before the search is what the search added
module _ (P : Problem) (B C : Option Set) (k m : _) (before after : List Node) (empty : before ≡ []) (adds : Adds P (root P) B k before C m after) where
  all_added : after ≡ adds.nodes
  all_added = adds.added ∙ ap (λ (xs : List Node). xs ++ adds.nodes) empty

  tree_made : (budget : _) (vectors : List Multipliers) → IsBudget budget → k ≡ (budget - 1) / 2 → vectors ≡ [] ∷ [] → IsTree (record { vectors = vectors; nodes = after })
  tree_made budget vectors is half one =
      let few : length adds.nodes ≤ 4095 = omega (arith, (number P B C k m adds.nodes adds.search budget is half).0, is.high) in
      let same : ◌≡◌ {A = ProofTree} (record { vectors = vectors; nodes = after }) (plain_tree adds.nodes) = ap₂ (λ (vs : List Multipliers) (ns : List Node). record { vectors = vs; nodes = ns }) one all_added in
      subst IsTree (sym same) (is_tree P B C k m adds.nodes adds.search few)

  assembled : (hint : Option Set) (budget : _) (vectors : List Multipliers) (T : ProofTree) (outcome : Outcome) (read : List Node)
      → IsBudget budget
      → k ≡ (budget - 1) / 2
      → vectors ≡ [] ∷ []
      → T ≡ record { vectors = vectors; nodes = after }
      → IsFormOrNone P B
      → IsAsGood P P.start B
      → IsAsGood P hint B
      → read ≡ after
      → ((T : ProofTree) (b : _) → IsVerdict P C T (verdict_of C (open_leaves read)) → (0 < open_leaves read → IsSpent P T b) → Shows P C T b outcome)
      → IsAssembly P hint budget T outcome
  assembled hint budget vectors T outcome read is half one made form start hinted same shows =
      let tree : T ≡ plain_tree adds.nodes = made ∙ ap₂ (λ (vs : List Multipliers) (ns : List Node). record { vectors = vs; nodes = ns }) one all_added in
      let all : read ≡ adds.nodes = same ∙ all_added in
      let shown = subst (λ (ns : List Node). (T : ProofTree) (b : _) → IsVerdict P C T (verdict_of C (open_leaves ns)) → (0 < open_leaves ns → IsSpent P T b) → Shows P C T b outcome) all shows in
      subst (λ (U : ProofTree). IsAssembly P hint budget U outcome) (sym tree) (is_assembly P B C k m adds.nodes adds.search hint budget outcome is half form start hinted shown)

pub outcome_of-outcome-requires-clause-form : goal.outcome_of-outcome-requires-clause-form
outcome_of-outcome-requires-clause-form c = (c.in_ok-search.ensures (root (problem_of c.args.problem.now)) c.root.ensures).search.form

pub new-tree-requires : goal.new-tree-requires
new-tree-requires c =
    let P = problem_of c.args.problem.now in
    let adds = c.in_ok-search.ensures (root P) c.root.ensures in
    let plain : c.new-plain.result ≡ [] = c.new-plain.ensures ∙ c.of.ensures ∙ c.new.ensures.items in
    let one : c.of-2.result ≡ [] ∷ [] = c.of-2.ensures ∙ c.in_ok-push.ensures.items ∙ ap₂ (λ (xs : List Multipliers) (v : Multipliers). xs ++ v ∷ []) c.new-vectors.ensures.items plain in
    let made = tree_made P (option_map has c.better_form.result) (option_map has c.search.new.state.best) ((c.args.budget - 1) / 2) c.search.new.state.branches c.new-2.result.items c.search.new.state.nodes.items c.new-2.ensures.items adds c.args.budget c.of-2.result c.requires.budget refl one in
    subst (λ (ns : List Node). IsTree (record { vectors = c.of-2.result; nodes = ns })) (sym c.of-3.ensures) made

pub returns : goal.returns
returns c =
    let P = problem_of c.args.problem.now in
    let adds = c.in_ok-search.ensures (root P) c.root.ensures in
    let plain : c.new-plain.result ≡ [] = c.new-plain.ensures ∙ c.of.ensures ∙ c.new.ensures.items in
    let one : c.of-2.result ≡ [] ∷ [] = c.of-2.ensures ∙ c.in_ok-push.ensures.items ∙ ap₂ (λ (xs : List Multipliers) (v : Multipliers). xs ++ v ∷ []) c.new-vectors.ensures.items plain in
    let tree : c.new-tree.result ≡ record { vectors = c.of-2.result; nodes = c.search.new.state.nodes.items } = c.new-tree.ensures ∙ ap (λ (ns : List Node). record { vectors = c.of-2.result; nodes = ns }) c.of-3.ensures in
    assembled
    P
    (option_map has c.better_form.result)
    (option_map has c.search.new.state.best)
    ((c.args.budget - 1) / 2)
    c.search.new.state.branches
    c.new-2.result.items
    c.search.new.state.nodes.items
    c.new-2.ensures.items
    adds
    (option_map has c.args.hint.now)
    c.args.budget
    c.of-2.result
    c.new-tree.result
    c.outcome_of-outcome.result
    c.as_slice.result.now
    c.requires.budget
    refl
    one
    tree
    c.better_form.ensures.form
    c.better_form.ensures.first
    c.better_form.ensures.second
    c.as_slice.ensures.value
    c.outcome_of-outcome.ensures
