-- The fault of a text whose lines have this one.
use Rattle.spec_reader.specs.declared.line_fault.LineFault.{LineFault}
use Rattle.spec_reader.specs.declared.line_fault.LineFault.TheVariants as line
use Rattle.spec_reader.specs.declared.plan_fault.PlanFault.{PlanFault}
use Rattle.spec_reader.specs.declared.plan_fault.PlanFault.TheVariants.{Line, Twice, Memory}

abbrev pub fault_of_line : LineFault → PlanFault
fault_of_line (line.Line at kind) = Line at kind
fault_of_line (line.Twice at) = Twice at
fault_of_line line.Memory = Memory
