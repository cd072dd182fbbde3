-- What lifting promises of the records of the first version of the journal.
use Rattle.std.specs.Prelude.{◌≡◌, List, Option}
use Rattle.bank_tables.specs.Tables.{Tables}
use Rattle.form_model.specs.Plan.{Plan}
use Rattle.certificate_model.specs.ProofTrees.{ProofTree}
use Rattle.serving_model.specs.Seats.{first_band}
use Rattle.form_model.specs.Validity.{IsPlanFor}
use Rattle.history_model.specs.declared.entry.Entry.{Entry}
use Rattle.history_model.specs.Judging.{MayFollow}
use Rattle.history_model.specs.Legality.{Legal}
use Rattle.history_model.specs.Lifting.{IsLifted}
use Rattle.exam_records.specs.Old.{old_entry}
use Rattle.exam_records.specs.Shape.{HasBands, HasNoList, IsInRange}

-- the bands of an entry that is legal are as many as an entry may have, and its list isn't empty
abbrev pub LegalHasBands : Type 0
LegalHasBands = (b : Tables) (plan : Plan) (H : List Entry) (entry : Entry)
    → IsPlanFor b plan → Legal b plan H entry → HasBands entry

-- what the first version keeps of an entry that may follow is lifted to that entry, if it has no
-- list
abbrev pub MayIsLifted : Type 0
MayIsLifted = (b : Tables) (plan : Plan) (H : List Entry) (entry : Entry) (tree : Option ProofTree)
    → HasNoList entry → MayFollow b plan H entry tree
    → IsLifted b plan H (old_entry (first_band b plan) entry) entry

-- and to nothing else
abbrev pub LiftedIsOne : Type 0
LiftedIsOne =
    (b : Tables) (plan : Plan) (H : List Entry) (entry new : Entry) (tree : Option ProofTree)
    → IsInRange entry → IsInRange new → HasNoList entry → MayFollow b plan H entry tree
    → IsLifted b plan H (old_entry (first_band b plan) entry) new → new ≡ entry
