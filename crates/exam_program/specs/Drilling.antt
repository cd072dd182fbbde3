-- Why a drill ends before its work is done.
use Rattle.exam_program.specs.declared.halt.Halt.{Halt}
use Rattle.exam_program.specs.declared.halt.Halt.TheVariants.{Sink, Memory}

-- the cause why a drill has no summary: memory ran out
abbrev pub HaltsAtDrill : Halt → Type 0
HaltsAtDrill Memory = Unit {0}
HaltsAtDrill halt = ⊥

-- such a cause, or the sink failed
abbrev pub IsOfDrill : Halt → Type 0
IsOfDrill Memory = Unit {0}
IsOfDrill Sink = Unit {0}
IsOfDrill halt = ⊥
