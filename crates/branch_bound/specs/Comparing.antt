-- Comparing the forms that a search is given and finds.
use Rattle.std.specs.Prelude.{◌≤◌, Option, Some, None}
use Rattle.bank_tables.specs.Items.{Set}
use Rattle.form_model.specs.Problem.{Problem}
use Rattle.form_model.specs.Forms.{Form, objective}

-- Z is there and a form only where X is there and no worse
abbrev pub IsAsGood : Problem → Option Set → Option Set → Type 0
IsAsGood P None X = Unit {0}
IsAsGood P (Some Z) (Some X) = Form P Z → objective P Z ≤ objective P X
IsAsGood P (Some Z) None = Form P Z → ⊥
