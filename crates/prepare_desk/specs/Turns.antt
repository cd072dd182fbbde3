-- What a turn does to a shared desk. Its history is one entry, its purpose.
use Rattle.std.specs.Prelude.{◌≡◌, List, [], ◌∷◌, ◌++◌, Contains, Option, IfSome}
use Rattle.std.proofs.lemmas.List.Elements.{Contains-append_left}
use Rattle.branch_bound.specs.Assembled.{Assembly}
use Rattle.exam_hall.specs.Prepared.{IsPrepared}
use Rattle.prepare_desk.specs.Desks.{DeskPurpose, IsReadyFor}
use Rattle.prepare_desk.specs.declared.desk.Ready.{Ready}

-- what is put was assembled for the purpose of the desk
pub record IsReadyThere (seen : List DeskPurpose) (ready : Option Ready) : Type 0 where
  pub purpose : DeskPurpose
  pub there : Contains seen purpose
  pub is_ready : IfSome ready (IsReadyFor purpose)

-- the desk has its purpose before and after
pub record Keeps (before after : List DeskPurpose) : Type 0 where
  pub purpose : DeskPurpose
  pub from : before ≡ purpose ∷ []
  pub to : after ≡ purpose ∷ []

-- what was taken out was assembled for it
pub record TakesOut (before after : List DeskPurpose) (made : Option Assembly) : Type 0 where
  pub keeps : Keeps before after
  pub prepared : IfSome made (IsPrepared keeps.purpose.bank keeps.purpose.plan
      keeps.purpose.base)

-- what may be put on a desk may be put later
pub ready_later : (ready : Option Ready) (seen rest : List DeskPurpose)
    → IsReadyThere seen ready → IsReadyThere (seen ++ rest) ready
ready_later ready seen rest h = record {
  purpose = h.purpose;
  there = Contains-append_left seen rest h.purpose h.there;
  is_ready = h.is_ready;
}
