-- How good the servings of a call are.
use Rattle.std.specs.Prelude.{⊤, ℕ, List, take, slice_get, All, IfSome}
use Rattle.bank_tables.specs.Tables.{Tables}
use Rattle.form_model.specs.Plan.{Plan}
use Rattle.history_model.specs.declared.entry.Entry.{Entry}
use Rattle.history_model.specs.declared.entry.Entry.TheVariants.{Served}
use Rattle.history_model.specs.Requests.{IsFirmServing}
use Rattle.exam_office.specs.declared.mark.Mark.{Mark}
use Rattle.exam_office.specs.declared.mark.Mark.TheVariants.{Own}
use Rattle.exam_office.specs.Asking.{IsGood}
use Rattle.exam_office.specs.Marks.{history}

-- an item is served from a form that no exchange of one item betters
abbrev pub IsFirm : Tables → Plan → List Entry → Entry → Type 0
IsFirm b plan H (Served session step item form proved nodes) =
    IsFirmServing b plan H session (Served session step item form proved nodes)
IsFirm b plan H e = ⊤

-- the entry of an Own mark is firm and good after the history H
abbrev pub IsGoodMark : Tables → Plan → List ℕ → List Entry → Mark → Type 0
IsGoodMark b plan base H (Own entry size) = IsFirm b plan H entry × IsGood b plan base H entry
IsGoodMark b plan base H mark = ⊤

-- each mark of S at one of the places is good after the history of the marks before it
abbrev pub AreGoodAt : Tables → Plan → List ℕ → List Mark → List ℕ → Type 0
AreGoodAt b plan base S places =
    All (λ p. IfSome (slice_get S p) (λ mark. IsGoodMark b plan base (history (take p S)) mark))
    places
