-- What a disk has to allow.
use Rattle.std.specs.Prelude.{ℕ, List, ◌++◌}
use Rattle.bank_tables.specs.Tables.{Tables}
use Rattle.form_model.specs.Plan.{Plan}
use Rattle.exam_edge.specs.Images.{Allows}
use Rattle.history_model.specs.declared.entry.Entry.{Entry}
use Rattle.exam_office.specs.Files.{Stands}

-- of a file that represents a history, a crash may leave each that represents it with or without
-- further entries
abbrev pub AllowsHistories : Tables → Plan → (List ℕ → List ℕ → Type 0) → Type 0
AllowsHistories b plan may_become =
    (H more : List Entry) → Allows may_become (Stands b plan H) (Stands b plan (H ++ more))

-- whatever history a file represents, another represents it with or without further entries
abbrev pub GoesOn : Tables → Plan → (before file : List ℕ) → Type 0
GoesOn b plan before file = (H : List Entry) → Stands b plan H before
    → (more : List Entry) × Stands b plan (H ++ more) file

-- a disk may allow just that: then it allows each history to go on, and what comes of a file in
-- several steps goes on from it
pub record HistoriesGoOn (b : Tables) (plan : Plan) : Type 0 where
  pub allowed : AllowsHistories b plan (GoesOn b plan)
  pub itself : (file : List ℕ) → GoesOn b plan file file
  pub further : (first second third : List ℕ) → GoesOn b plan first second
      → GoesOn b plan second third → GoesOn b plan first third
