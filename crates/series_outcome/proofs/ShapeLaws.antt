-- The shape of a tree that was searched depth first.
use Rattle.std.proofs.Common.{Bool, true, false, List}
use Rattle.series_model.specs.declared.node.SeriesNode.{SeriesNode}
use Rattle.series_outcome.specs.Spending.{IsDepthFirst, HasNoBranch}

-- what the rest must be like, after an Open leaf or not
abbrev pub IsRestDepthFirst : Bool → List SeriesNode → Type 0
IsRestDepthFirst true nodes = HasNoBranch nodes
IsRestDepthFirst false nodes = IsDepthFirst nodes
