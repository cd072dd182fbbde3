use Rattle.std.proofs.Common.{subst, arith}
use Rattle.exam_text.specs.First.{Gives}
use Rattle.proof_tree.specs.declared.fault.TreeFault.TheVariants.{Memory}
use Rattle.series_tree.proofs.TreeLaws.{is_found, is_read}
use Rattle.series_tree.proofs.reading.decode_series.Goals as goal

pub returns-clause-found : goal.returns-clause-found
returns-clause-found c = is_found c.args.bytes.now c.tree_of.result (λ i. omega (arith, c.type_inv.bytes i)) c.tree_of.ensures

pub returns-clause-only : goal.returns-clause-only
returns-clause-only c = λ T is front. subst (λ read. Gives Memory (λ x. x) c.tree_of.result read) (is_read T c.args.bytes.now is front) c.tree_of.ensures
