-- The shape of a tree that was searched depth first.
use Rattle.std.proofs.Common.{Bool, true, false, List}
use Rattle.certificate_model.specs.declared.node.Node.{Node}
use Rattle.certificate_model.specs.Spending.{IsDepthFirst, HasNoBranch}

-- what the rest must be like, after an Open leaf or not
abbrev pub IsRestDepthFirst : Bool → List Node → Type 0
IsRestDepthFirst true nodes = HasNoBranch nodes
IsRestDepthFirst false nodes = IsDepthFirst nodes
