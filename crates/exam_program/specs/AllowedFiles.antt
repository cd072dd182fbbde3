-- What a run asks of its disk.
use Rattle.std.specs.Prelude.{ℕ, Bool, IsTrue, List}
use Rattle.bank_tables.specs.Tables.{Tables}
use Rattle.form_model.specs.Plan.{Plan}
use Rattle.exam_office.specs.Allowing.{AllowsHistories}
use Rattle.exam_program.specs.Halts.{Reads}

-- by each bank and plan in two of the files, and by any where the files report nothing, the disk
-- allows that a history goes on
abbrev pub AllowsExams : (tells : Bool) → (named : List ℕ → Bool) → (content : List ℕ → List ℕ)
    → (List ℕ → List ℕ → Type 0) → Type 0
AllowsExams tells named content may_become = (bank plan : List ℕ) (b : Tables) (p : Plan)
    → (IsTrue tells → Reads named content bank plan b p) → AllowsHistories b p may_become
