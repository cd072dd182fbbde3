-- What a server's links must allow.
use Rattle.std.specs.Prelude.{◌≡◌, ℕ, Bool, List, [], ◌∷◌, ◌++◌, map, Option, Some, IsTrue}
use Rattle.exam_office.specs.Files.{StandsSecond}
use Rattle.exam_office.specs.declared.mark.Mark.{Mark}
use Rattle.exam_office.specs.declared.mark.Mark.TheVariants.{Old, Opened}
use Rattle.exam_office.specs.Noting.{OpenedWith}
use Rattle.exam_program.specs.Bases.{IsBaseForm}
use Rattle.exam_program.specs.Halts.{Reads}
use Rattle.command_line.specs.Commands.{Serve, command_of}
use Rattle.history_model.specs.declared.entry.Entry.{Entry}
use Rattle.history_model.specs.Legality.{LegalRun}

-- the marks of an office over the journal on this disk, which was opened with a history, a legal
-- run; if the disk reports its content, the file that was found represents that history
pub record AreFirstMarks (disk_tells : Bool) (disk_identity : ℕ) (file : List ℕ)
    (office : OpenedWith) (opened : List Mark) : Type 0 where
  pub tells : office.tells ≡ disk_tells
  pub identity : office.identity ≡ disk_identity
  pub found : List Entry
  pub size : ℕ
  pub is : opened ≡ map Old found ++ Opened size ∷ []
  pub legal : LegalRun office.bank office.plan found
  pub stands : IsTrue disk_tells → StandsSecond office.bank office.plan found file

-- an office that a server with these words may open, and its first marks: it has the base form and,
-- if the files report their content, the bank and the plan that they describe
pub record IsOpenedBy (words : List (List ℕ)) (files_tell : Bool) (named : List ℕ → Bool)
    (content : List ℕ → List ℕ) (disk_tells : Bool) (disk_identity : ℕ) (file : List ℕ)
    (office : OpenedWith) (opened : List Mark) : Type 0 where
  pub bank : List ℕ
  pub plan : List ℕ
  pub ahead : Option ℕ
  pub asked : command_of words ≡ Some (Serve bank plan ahead)
  pub reads : IsTrue files_tell → Reads named content bank plan office.bank office.plan
  pub is_base : IsBaseForm office.bank office.plan office.base
  pub first : AreFirstMarks disk_tells disk_identity file office opened
