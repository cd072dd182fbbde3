-- What the work leaves of the office and the doors.
use Rattle.std.specs.Prelude.{◌≡◌, ℕ, Bool, List, Option}
use Rattle.exam_office.specs.Noting.{NotedMark, noted, opened_with}
use Rattle.exam_office.specs.Running.{Running}
use Rattle.exam_serve.specs.declared.serve.End.{End}
use Rattle.exam_serve.specs.declared.serve.End.TheVariants.{Done, Starved, DoorFailed, Memory}
use Rattle.exam_serve.specs.Doors.{AreServed}

-- an office's marks, each with what the office was opened with
abbrev pub notes_of : {A : Type 0} → Running A → List NotedMark
notes_of office = noted (opened_with office) office.marks

module _ {A D K : Type 0} (token : Option (List ℕ)) (tells : D → Bool)
    (coming returned : D → List K) (is_out : D → Bool)
    (faults identity : D → ℕ) (link_tells : K → Bool) (left written : K
    → List ℕ) (link_faults link_identity : K → ℕ) where
  -- the office and the doors after the work, by how it ended. Out of memory, no link was accepted
  abbrev pub IsResult : Running A → List D → Running A → List D → End → Type 0
  IsResult office doors closed back Done =
      AreServed token tells coming returned is_out faults identity link_tells left written
      link_faults link_identity (notes_of office) (notes_of closed) doors back Done
  IsResult office doors closed back Starved =
      AreServed token tells coming returned is_out faults identity link_tells left written
      link_faults link_identity (notes_of office) (notes_of closed) doors back Starved
  IsResult office doors closed back DoorFailed =
      AreServed token tells coming returned is_out faults identity link_tells left written
      link_faults link_identity (notes_of office) (notes_of closed) doors back DoorFailed
  IsResult office doors closed back Memory = (closed ≡ office) × (back ≡ doors)
