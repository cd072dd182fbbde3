-- The answer on one node.
use Rattle.std.specs.Prelude.{Option, Some, None}
use Rattle.bank_tables.specs.Items.{Set}
use Rattle.certificate_model.specs.declared.node.Node.{Node}
use Rattle.certificate_model.specs.declared.verdict.Reason.{Reason}
use Rattle.form_model.specs.Problem.{Problem}
use Rattle.certificate_model.specs.Paths.{Path}
use Rattle.certificate_model.specs.ProofTrees.{ProofTree}
use Rattle.certificate_model.specs.Verdicts.{IsSound, IsUnsound}

-- the node is sound, or this is why it is not
abbrev pub IsNodeAnswer : Problem → Option Set → ProofTree → Path → Node → Option Reason → Type 0
IsNodeAnswer P X T p node None = IsSound P X T p node
IsNodeAnswer P X T p node (Some reason) = IsUnsound P X T p node reason
