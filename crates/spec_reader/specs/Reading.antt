-- What reading a plan text gives: a plan for the bank, or the first fault.
use Rattle.std.specs.Prelude.{◌≡◌, ℕ, ◌⊎◌, ◌<◌, ◌≤◌, ⊤, ◌||◌, ◌==◌, nat_lt, if◌then◌else◌, List, length, get_or, Option, Some, None, Ok, Err}
use Rattle.exam_text.specs.First.{◌orelse◌, first_below}
use Rattle.exam_text.specs.Words.{lines_of}
use Rattle.bank_tables.specs.Tables.{Tables}
use Rattle.form_model.specs.Plan.{Plan}
use Rattle.form_model.specs.Forms.{stimuli_of}
use Rattle.constraint_model.specs.declared.spec_fault.SpecFault.{SpecFault}
use Rattle.constraint_model.specs.declared.spec_fault.SpecFault.TheVariants.{BadStimulus}
use Rattle.constraint_model.specs.Faults.{front_fault, IsSpecFault}
use Rattle.spec_reader.specs.declared.line_fault.LineFault.TheVariants as line
use Rattle.spec_reader.specs.declared.plan_fault.Name.{Name}
use Rattle.spec_reader.specs.declared.plan_fault.PlanFault.{PlanFault}
use Rattle.spec_reader.specs.declared.plan_fault.PlanFault.TheVariants.{Source, TooLong, Line, Twice, Missing, Spec, Memory}
use Rattle.spec_reader.specs.Rules.{Said, Length, Stimulus}
use Rattle.spec_reader.specs.Lines.{rules_of, missing}
use Rattle.spec_reader.specs.Plans.{plan_said, drafted}

-- the rule that is read past the last one
abbrev pub no_rule : Said
no_rule = Length 0

abbrev pub rule_at : List Said → ℕ → Said
rule_at rules i = get_or rules i no_rule

-- a line that bounds a stimulus that is not in a bank with so many stimuli
abbrev pub number_fault : ℕ → Said → Option SpecFault
number_fault stimuli (Stimulus s low high) =
    if ((s == 0) || nat_lt stimuli s) then Some (BadStimulus s) else None
number_fault stimuli _ = None

-- the first such line
unfoldable pub numbers_fault : ℕ → List Said → Option SpecFault
numbers_fault stimuli rules =
    first_below (length rules) (λ i. number_fault stimuli (rule_at rules i))

-- the text's lines are well-formed, none that may occur only once is repeated, none is missing, and
-- they mean these rules
pub record AreRules (text : List ℕ) (rules : List Said) : Type 0 where
  pub lines : rules_of (lines_of text) ≡ Ok rules
  pub whole : missing rules ≡ None

-- the rules mean this plan for a bank
abbrev pub IsDraft : Tables → List Said → Plan → Type 0
IsDraft b rules plan = plan_said plan ≡ drafted (stimuli_of b) rules

-- the text means this plan for the bank
pub record IsPlanText (b : Tables) (text : List ℕ) (plan : Plan) : Type 0 where
  pub rules : List Said
  pub are : AreRules text rules
  pub stimuli : numbers_fault (stimuli_of b) rules ≡ None
  pub draft : IsDraft b rules plan

-- the tests from the length to the rows, and then that of the stimuli's numbers
abbrev pub early_fault : Tables → List Said → Plan → Option SpecFault
early_fault b rules plan = front_fault b plan orelse numbers_fault (stimuli_of b) rules

-- the first fault of what the rules mean: the early ones, then the others of a draft
abbrev pub IsFirstFault : Tables → List Said → Plan → SpecFault → Type 0
IsFirstFault b rules plan fault =
    (early_fault b rules plan ≡ Some fault)
    ⊎ ((early_fault b rules plan ≡ None) × IsSpecFault b plan fault)

-- the lines are well-formed and none is missing, and what they mean has this fault
pub record IsDraftFault (b : Tables) (text : List ℕ) (fault : SpecFault) : Type 0 where
  pub rules : List Said
  pub are : AreRules text rules
  pub plan : Plan
  pub draft : IsDraft b rules plan
  pub first : IsFirstFault b rules plan fault

-- the lines are well-formed, and this is the first that is missing
pub record IsMissing (text : List ℕ) (name : Name) : Type 0 where
  pub rules : List Said
  pub lines : rules_of (lines_of text) ≡ Ok rules
  pub first : missing rules ≡ Some name

-- the first fault of the text: the first faulty line, then what is missing, then the first fault of
-- what the lines mean
abbrev pub IsPlanFault : Tables → List ℕ → PlanFault → Type 0
IsPlanFault b text (Line at kind) = rules_of (lines_of text) ≡ Err (line.Line at kind)
IsPlanFault b text (Twice at) = rules_of (lines_of text) ≡ Err (line.Twice at)
IsPlanFault b text (Missing name) = IsMissing text name
IsPlanFault b text (Spec fault) = IsDraftFault b text fault
IsPlanFault b text Source = ⊥
IsPlanFault b text TooLong = ⊥
IsPlanFault b text Memory = ⊥

-- a fault of the text itself
abbrev pub IsOfText : PlanFault → Type 0
IsOfText Source = ⊥
IsOfText Memory = ⊥
IsOfText fault = Unit {0}

-- how long a plan text may be, in bytes
abbrev pub most_bytes : ℕ
most_bytes = 1048576

-- the first fault of a source with these bytes: it is too long exactly if they are more than
-- `most_bytes`; a failed source and lack of memory are possible with any bytes
abbrev pub IsReadFault : Tables → List ℕ → PlanFault → Type 0
IsReadFault b bytes Source = ⊤
IsReadFault b bytes Memory = ⊤
IsReadFault b bytes TooLong = most_bytes < length bytes
IsReadFault b bytes fault = (length bytes ≤ most_bytes) × IsPlanFault b bytes fault
