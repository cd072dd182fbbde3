-- What the fallback search did on a path: nodes in preorder, and the best series known.
use Rattle.std.specs.Prelude.{◌≡◌, ℕ, ◌+◌, ◌*◌, ◌^◌, ◌≤◌, true, ◌⊎◌, List, [], ◌∷◌, ◌++◌, length, Option, Some, None}
use Rattle.std.specs.Option.{option_map}
use Rattle.bank_tables.specs.Sums.{sum_in}
use Rattle.form_model.specs.Forms.{size_in}
use Rattle.series_model.specs.declared.node.SeriesNode.{SeriesNode}
use Rattle.series_model.specs.Series.{SeriesProblem, IsSeries, IsSeriesList, IsValue, forms_of}
use Rattle.series_model.specs.SeriesPaths.{SeriesPath, is_free_in}
use Rattle.series_model.specs.SeriesTrees.{Certificate}
use Rattle.series_model.specs.SeriesVerdicts.{IsWholePath, IsSound, below, open_leaf}
use Rattle.series_tree.specs.Shape.{IsNode, IsBranch, open_leaves}
use Rattle.series_outcome.specs.declared.known.Known.{Known}
use Rattle.series_outcome.specs.Spending.{IsPossible, IsSpentNode, HasNoBranch, IsDepthFirst}

-- the tree of some nodes, without a vector
abbrev pub plain_tree : List SeriesNode → Certificate
plain_tree nodes = record { vectors = []; nodes = nodes }

-- how much is left to decide: the free items of each form, in number
abbrev pub undecided : SeriesProblem → SeriesPath → ℕ
undecided Q p = sum_in Q.forms (λ _. true) (λ f. size_in Q.bank (is_free_in Q p f))

-- a known series is one, and has its value
abbrev pub IsKnown : SeriesProblem → Option Known → Type 0
IsKnown Q None = Unit {0}
IsKnown Q (Some known) =
    IsSeries Q (forms_of known.sets) × IsValue Q (forms_of known.sets) known.value

-- its value, if there is one
abbrev pub value_known : Option Known → Option ℕ
value_known known = option_map (λ k. k.value) known

-- where there is a value, there is one that is no less
abbrev pub IsAsGood : Option ℕ → Option ℕ → Type 0
IsAsGood None second = Unit {0}
IsAsGood (Some first) (Some second) = first ≤ second
IsAsGood (Some first) None = ⊥

-- where there are sets and they are a series, there is a value that is no less
abbrev pub IsAsGoodAs : SeriesProblem → Option (List (List ℕ)) → Option ℕ → Type 0
IsAsGoodAs Q None second = Unit {0}
IsAsGoodAs Q (Some sets) second = (V : ℕ) → IsSeriesList Q sets → IsValue Q (forms_of sets) V
    → IsAsGood (Some V) second

-- the node suits the path, where no series with a value above U is sought, or no series at all: it
-- is sound, as in a tree that spends its budget
pub record Suits (Q : SeriesProblem) (U : Option ℕ) (p : SeriesPath)
    (node : SeriesNode) : Type 0 where
  pub sound : IsSound Q U (plain_tree []) p node
  pub spent : IsSpentNode Q p node
  pub number : IsNode node

-- so it is with each of the nodes in preorder, one subtree for each waiting path
abbrev pub AllSuit : SeriesProblem → Option ℕ → List SeriesNode → List SeriesPath → Type 0
AllSuit Q U [] [] = Unit {0}
AllSuit Q U [] (p ∷ paths) = ⊥
AllSuit Q U (node ∷ nodes) [] = ⊥
AllSuit Q U (node ∷ nodes) (p ∷ paths) =
    Suits Q U p node × AllSuit Q U nodes (below Q p node ++ paths)

-- a search through the path, with the value B or none and k branches left, made these nodes, and
-- left the value C or none and m branches
pub record IsSearch (Q : SeriesProblem) (p : SeriesPath) (B : Option ℕ) (k : ℕ) (C : Option ℕ)
    (m : ℕ) (nodes : List SeriesNode) : Type 0 where
  pub no_worse : IsAsGood B C
  pub suit : (U : Option ℕ) → IsAsGood C U → (rest : List SeriesNode) (paths : List SeriesPath)
      → AllSuit Q U rest paths → AllSuit Q U (nodes ++ rest) (p ∷ paths)
  pub number : length nodes + 2 * m ≡ 2 * k + 1
  pub depth_first : IsDepthFirst nodes
  pub ended : (open_leaves nodes ≡ 0) ⊎ (m ≡ 0)
  pub no_branch : k ≡ 0 → HasNoBranch nodes
  pub decided : 2 ^ undecided Q p ≤ k + 1
      → (open_leaves nodes ≡ 0) × (k + 1 ≤ m + 2 ^ undecided Q p)

-- nodes were added to those before by such a search
pub record Adds (Q : SeriesProblem) (p : SeriesPath) (B : Option ℕ) (k : ℕ)
    (before : List SeriesNode) (C : Option ℕ) (m : ℕ) (after : List SeriesNode) : Type 0 where
  pub nodes : List SeriesNode
  pub added : after ≡ before ++ nodes
  pub search : IsSearch Q p B k C m nodes

-- the leaf ends the path, with the value C or none
pub record Ends (Q : SeriesProblem) (p : SeriesPath) (B C : Option ℕ)
    (node : SeriesNode) : Type 0 where
  pub leaf : below Q p node ≡ []
  pub no_branch : IsBranch node → ⊥
  pub not_open : open_leaf node ≡ 0
  pub no_worse : IsAsGood B C
  pub suits : (U : Option ℕ) → IsAsGood C U → Suits Q U p node

-- no leaf ends the path, and the value or none is as before
pub record GoesOn (Q : SeriesProblem) (p : SeriesPath) (B C : Option ℕ) : Type 0 where
  pub same : C ≡ B
  pub possible : IsPossible Q p
  pub several : IsWholePath Q p → ⊥

abbrev pub IsLeafOrNone : SeriesProblem → SeriesPath → Option ℕ → Option ℕ → Option SeriesNode
    → Type 0
IsLeafOrNone Q p B C (Some node) = Ends Q p B C node
IsLeafOrNone Q p B C None = GoesOn Q p B C
