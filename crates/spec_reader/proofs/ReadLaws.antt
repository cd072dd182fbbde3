-- The faults of lines are those of the text.
use Rattle.std.proofs.Common.{◌≡◌, ◌⊎◌, inl, inr, ℕ, List, Err, refl}
use Rattle.exam_text.specs.Words.{lines_of}
use Rattle.bank_tables.specs.Tables.{Tables}
use Rattle.spec_reader.specs.declared.line_fault.LineFault.{LineFault}
use Rattle.spec_reader.specs.declared.line_fault.LineFault.TheVariants as line
use Rattle.spec_reader.specs.declared.plan_fault.PlanFault.TheVariants as fault
use Rattle.spec_reader.specs.Faults.{fault_of_line}
use Rattle.spec_reader.specs.Lines.{rules_of}
use Rattle.spec_reader.specs.Reading.{IsPlanFault}

pub line_fault_is : (b : Tables) (text : List ℕ) (f : LineFault) → (f ≡ line.Memory) ⊎ (rules_of (lines_of text) ≡ Err f) → (fault_of_line f ≡ fault.Memory) ⊎ IsPlanFault b text (fault_of_line f)
line_fault_is b text (line.Line at kind) (inl e) = absurd cc
line_fault_is b text (line.Line at kind) (inr e) = inr e
line_fault_is b text (line.Twice at) (inl e) = absurd cc
line_fault_is b text (line.Twice at) (inr e) = inr e
line_fault_is b text line.Memory h = inl refl
