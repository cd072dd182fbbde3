-- The line of a fault of a plan text.
use Rattle.std.specs.Prelude.{ℕ, ◌++◌, List, codes}
use Rattle.std.specs.Fmt.{decimal}
use Rattle.exam_text.specs.Texts.{files_failed, no_memory}
use Rattle.constraint_model.specs.Texts.{draft_text}
use Rattle.spec_reader.specs.declared.line_fault.Kind.{Kind}
use Rattle.spec_reader.specs.declared.line_fault.Kind.TheVariants as kind
use Rattle.spec_reader.specs.declared.plan_fault.Name.TheVariants as name
use Rattle.spec_reader.specs.declared.plan_fault.PlanFault.{PlanFault}
use Rattle.spec_reader.specs.declared.plan_fault.PlanFault.TheVariants as plan

abbrev pub kind_text : Kind → List ℕ
kind_text kind.Word = codes " word\n"
kind_text kind.Shape = codes " shape\n"
kind_text kind.Number = codes " number\n"
kind_text kind.Set = codes " set\n"

unfoldable pub plan_text : PlanFault → List ℕ
plan_text plan.TooLong = codes "plan: too long\n"
plan_text (plan.Line line kind) = codes "plan: line " ++ (decimal line ++ kind_text kind)
plan_text (plan.Twice line) = codes "plan: line " ++ (decimal line ++ codes " twice\n")
plan_text (plan.Missing name.Length) = codes "plan: missing length\n"
plan_text (plan.Missing name.Prior) = codes "plan: missing prior\n"
plan_text (plan.Missing name.Key) = codes "plan: missing key\n"
plan_text (plan.Spec fault) = draft_text fault
plan_text plan.Source = files_failed
plan_text plan.Memory = no_memory
