-- The line of a draft's fault.
use Rattle.std.specs.Prelude.{ℕ, ◌++◌, List, codes}
use Rattle.std.specs.Fmt.{decimal}
use Rattle.exam_text.specs.Texts.{no_memory}
use Rattle.constraint_model.specs.declared.spec_fault.SpecFault.{SpecFault}
use Rattle.constraint_model.specs.declared.spec_fault.SpecFault.TheVariants.{Length, BadPrior, TooManyRows, RowBounds, EmptySet, BadItem, BadQuantity, BadStimulus, BadRate, BadBands, BadBudget, BadLimit, BadBase, Memory}

unfoldable pub draft_text : SpecFault → List ℕ
draft_text Length = codes "plan: length\n"
draft_text BadPrior = codes "plan: prior\n"
draft_text TooManyRows = codes "plan: rows\n"
draft_text (RowBounds row) = codes "plan: row " ++ (decimal row ++ codes " bounds\n")
draft_text (EmptySet row) = codes "plan: row " ++ (decimal row ++ codes " empty\n")
draft_text (BadItem row) = codes "plan: row " ++ (decimal row ++ codes " item\n")
draft_text (BadQuantity row) = codes "plan: row " ++ (decimal row ++ codes " quantity\n")
draft_text (BadStimulus stimulus) = codes "plan: stimulus " ++ (decimal stimulus ++ codes "\n")
draft_text BadRate = codes "plan: rate\n"
draft_text BadBands = codes "plan: bands\n"
draft_text BadBudget = codes "plan: budget\n"
draft_text BadLimit = codes "plan: limit\n"
draft_text (BadBase breach) = codes "plan: base\n"
draft_text Memory = no_memory
