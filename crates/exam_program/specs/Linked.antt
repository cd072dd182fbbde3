-- What a command that follows or ships records leaves, and its statuses.
use Rattle.std.specs.Prelude.{◌⊎◌, ℕ, ◌++◌, ◌∷◌, [], Bool, List, Contains}
use Rattle.bank_tables.specs.Tables.{Tables}
use Rattle.exam_edge.specs.Faults.{Rose}
use Rattle.exam_program.specs.LinkWords.{IsLinkOf}
use Rattle.exam_program.specs.Outside.{Outside}
use Rattle.exam_program.specs.Outcomes.{IsStatusOfRun}
use Rattle.exam_program.specs.Serves.{IsExamined}
use Rattle.exam_office.specs.Noting.{NotedMark}
use Rattle.form_model.specs.Plan.{Plan}
use Rattle.history_model.specs.declared.entry.Entry.{Entry}
use Rattle.record_doors.specs.Doors.{Gives, IsFirstOnly}

-- its journal was opened, and what is left of it is known by the marks of its office
pub record LinkLeaves (words : List (List ℕ)) (o : Outside) : Type 0 where
  pub b : Tables
  pub plan : Plan
  pub base : List ℕ
  pub H : List Entry
  pub opened : List NotedMark
  pub closed : List NotedMark
  pub is : IsLinkOf words o b plan base
  pub examined : IsExamined b plan base o.disk opened closed H

-- the statuses that only such a command has
abbrev pub IsLinkStatus : ℕ → Type 0
IsLinkStatus status = Contains (19 ∷ 20 ∷ 21 ∷ 22 ∷ []) status

-- those of any command
abbrev pub IsStatusOfAny : ℕ → Type 0
IsStatusOfAny status = IsStatusOfRun status ⊎ IsLinkStatus status

module _ {D K : Type 0} (tells : D → Bool) (coming returned : D → List K) (is_out : D → Bool)
    (faults identity : D → ℕ) (link_faults : K → ℕ) where
  -- the last link that the door gave failed: its count of faults rose before it went back
  pub record HasFailedLink (old new : D) : Type 0 where
    pub given : List K
    pub back : List K
    pub link : K
    pub after : K
    pub gives : Gives tells coming returned is_out faults identity old new (given ++ link ∷ [])
        (back ++ after ∷ [])
    pub rose : Rose (link_faults link) (link_faults after)

  -- so for the first door
  abbrev pub HasFailedFirst : List D → List D → Type 0
  HasFailedFirst doors back = IsFirstOnly HasFailedLink ⊥ doors back
