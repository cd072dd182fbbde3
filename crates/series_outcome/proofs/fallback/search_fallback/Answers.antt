use Rattle.std.proofs.Common.{◌≡◌, ℕ, ◌+◌, ◌-◌, ◌*◌, ◌/◌, ◌^◌, ◌<◌, ◌≤◌, List, [], ◌++◌, length, refl, sym, ap, ap₂, ◌∙◌, subst, arith, Option}
use Rattle.bank_tables.specs.Tables.{size}
use Rattle.certificate_model.specs.Relaxed.{Multipliers}
use Rattle.form_model.specs.Validity.{IsBudget}
use Rattle.series_model.specs.declared.node.SeriesNode.{SeriesNode}
use Rattle.series_model.specs.Series.{SeriesProblem}
use Rattle.series_model.specs.SeriesPaths.{SeriesPath, root}
use Rattle.series_model.specs.SeriesTrees.{Certificate}
use Rattle.series_model.specs.SeriesVerdicts.{verdict_of}
use Rattle.series_tree.specs.Shape.{IsTree, open_leaves}
use Rattle.series_check.specs.Answers.{IsJudged}
use Rattle.series_check.specs.Cuts.{problem_of}
use Rattle.series_outcome.specs.declared.outcome.SeriesOutcome.{SeriesOutcome}
use Rattle.series_outcome.specs.Assemblies.{IsShown}
use Rattle.series_outcome.specs.Spending.{IsSpent}
use Rattle.series_outcome.specs.Searches.{plain_tree, value_known, Adds}
use Rattle.series_outcome.proofs.KnownLaws.{no_worse-trans}
use Rattle.series_outcome.proofs.WholeSearch.{is_tree, is_judged, is_spent, number, decided}
use Rattle.series_outcome.proofs.fallback.search_fallback.Goals as goal

-- a list that was empty before the search is what the search added
module _ (Q : SeriesProblem) (B C : Option ℕ) (k m : ℕ) (before after : List SeriesNode) (empty : before ≡ []) (adds : Adds Q root B k before C m after) where
  all_added : after ≡ adds.nodes
  all_added = adds.added ∙ ap (λ (xs : List SeriesNode). xs ++ adds.nodes) empty

  tree_is : (T : Certificate) (vectors : List Multipliers) (nodes : List SeriesNode) → vectors ≡ [] → nodes ≡ after → T ≡ record { vectors = vectors; nodes = nodes } → T ≡ plain_tree adds.nodes
  tree_is T vectors nodes none same made = made ∙ ap₂ (λ (vs : List Multipliers) (ns : List SeriesNode). record { vectors = vs; nodes = ns }) none (same ∙ all_added)

  tree_made : (budget : ℕ) (vectors : List Multipliers) (nodes : List SeriesNode) → IsBudget budget → k ≡ (budget - 1) / 2 → vectors ≡ [] → nodes ≡ after → IsTree (record { vectors = vectors; nodes = nodes })
  tree_made budget vectors nodes is half none same =
      let few : length adds.nodes ≤ 4095 = omega (arith, (number Q B C k m adds.nodes adds.search budget is half).0, is.high) in
      subst IsTree (sym (tree_is (record { vectors = vectors; nodes = nodes }) vectors nodes none same refl)) (is_tree Q B C k m adds.nodes adds.search few)

  shown : (budget : ℕ) (T : Certificate) (vectors : List Multipliers) (nodes read : List SeriesNode) (outcome : SeriesOutcome)
      → IsBudget budget
      → k ≡ (budget - 1) / 2
      → vectors ≡ []
      → nodes ≡ after
      → T ≡ record { vectors = vectors; nodes = nodes }
      → read ≡ after
      → ((T : Certificate) (b : ℕ) → IsJudged Q C T (verdict_of C (open_leaves read)) → (0 < open_leaves read → IsSpent Q T b) → IsShown Q T b outcome)
      → IsShown Q T budget outcome
  shown budget T vectors nodes read outcome is half none same made seen shows =
      let tree = tree_is T vectors nodes none same made in
      let all : read ≡ adds.nodes = seen ∙ all_added in
      let shown = subst (λ (ns : List SeriesNode). (T : Certificate) (b : ℕ) → IsJudged Q C T (verdict_of C (open_leaves ns)) → (0 < open_leaves ns → IsSpent Q T b) → IsShown Q T b outcome) all shows in
      subst (λ (U : Certificate). IsShown Q U budget outcome) (sym tree) (shown (plain_tree adds.nodes) budget (is_judged Q B C k m adds.nodes adds.search) (is_spent Q B C k m adds.nodes adds.search budget is half))

  all_decided : (budget : ℕ) (read : List SeriesNode) → IsBudget budget → k ≡ (budget - 1) / 2 → read ≡ after → 2 ^ (Q.forms * size Q.bank + 1) ≤ budget + 1 → open_leaves read ≡ 0
  all_decided budget read is half seen large = ap (λ (ns : List SeriesNode). open_leaves ns) (seen ∙ all_added) ∙ decided Q B C k m adds.nodes adds.search budget is half large

pub returns-clause-decided : goal.returns-clause-decided
returns-clause-decided c large =
    let Q = problem_of c.args.setting.now in
    let B = value_known c.args.known in
    let C = value_known c.search.new.state.best in
    let half = (c.args.budget - 1) / 2 in
    let adds = subst (λ (q : SeriesPath). Adds Q q B half c.new.result.items C c.search.new.state.branches c.search.new.state.nodes.items) c.root_cut.ensures c.in_ok-search.ensures.adds in
    c.in_ok-outcome.ensures.decided (all_decided Q B C half c.search.new.state.branches c.new.result.items c.search.new.state.nodes.items c.new.ensures.items adds c.args.budget c.as_slice.result.now c.requires.budget refl c.as_slice.ensures.value large)

pub new-tree-requires : goal.new-tree-requires
new-tree-requires c =
    let Q = problem_of c.args.setting.now in
    let B = value_known c.args.known in
    let C = value_known c.search.new.state.best in
    let half = (c.args.budget - 1) / 2 in
    let adds = subst (λ (q : SeriesPath). Adds Q q B half c.new.result.items C c.search.new.state.branches c.search.new.state.nodes.items) c.root_cut.ensures c.in_ok-search.ensures.adds in
    tree_made Q B C half c.search.new.state.branches c.new.result.items c.search.new.state.nodes.items c.new.ensures.items adds c.args.budget c.of.result c.of-2.result c.requires.budget refl (c.of.ensures ∙ c.new-2.ensures.items) c.of-2.ensures

pub returns-clause-shown : goal.returns-clause-shown
returns-clause-shown c =
    let Q = problem_of c.args.setting.now in
    let B = value_known c.args.known in
    let C = value_known c.search.new.state.best in
    let half = (c.args.budget - 1) / 2 in
    let adds = subst (λ (q : SeriesPath). Adds Q q B half c.new.result.items C c.search.new.state.branches c.search.new.state.nodes.items) c.root_cut.ensures c.in_ok-search.ensures.adds in
    shown Q B C half c.search.new.state.branches c.new.result.items c.search.new.state.nodes.items c.new.ensures.items adds c.args.budget c.new-tree.result c.of.result c.of-2.result c.as_slice.result.now c.in_ok-outcome.outcome c.requires.budget refl (c.of.ensures ∙ c.new-2.ensures.items) c.of-2.ensures c.new-tree.ensures c.as_slice.ensures.value c.in_ok-outcome.ensures.shown

pub returns-clause-keeps : goal.returns-clause-keeps
returns-clause-keeps c =
    let Q = problem_of c.args.setting.now in
    let B = value_known c.args.known in
    let C = value_known c.search.new.state.best in
    no_worse-trans Q B C c.in_ok-outcome.outcome c.in_ok-search.ensures.adds.search.no_worse c.in_ok-outcome.ensures.keeps
