-- The words that ask to follow or to ship.
use Rattle.std.specs.Prelude.{◌≡◌, ℕ, List, Some}
use Rattle.bank_tables.specs.Tables.{Tables}
use Rattle.command_line.specs.Commands.{Command, IsLinked, command_of, files_of}
use Rattle.exam_program.specs.Bases.{IsBaseForm}
use Rattle.exam_program.specs.Halts.{Reads}
use Rattle.exam_program.specs.Outside.{Outside}
use Rattle.form_model.specs.Plan.{Plan}

-- the words ask to follow or to ship; the files are read, and this is the base form
pub record IsLinkOf (words : List (List ℕ)) (o : Outside) (b : Tables) (p : Plan)
    (base : List ℕ) : Type 0 where
  pub command : Command
  pub asked : command_of words ≡ Some command
  pub is_linked : IsLinked command
  pub bank : List ℕ
  pub plan : List ℕ
  pub names : files_of command ≡ Some (bank, plan)
  pub reads : Reads o.named o.content bank plan b p
  pub is_base : IsBaseForm b p base
