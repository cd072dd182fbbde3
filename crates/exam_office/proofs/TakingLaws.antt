-- Records as they are taken.
use Rattle.std.proofs.Common.{◌≡◌, ℕ, List, refl}
use Rattle.bank_tables.specs.Tables.{Tables}
use Rattle.form_model.specs.Plan.{Plan}
use Rattle.history_model.specs.declared.entry.Entry.{Entry}
use Rattle.history_model.specs.declared.illegal.Illegal.{Illegal}
use Rattle.history_model.specs.declared.illegal.Illegal.TheVariants.{NotNumber, Booked, NotDrawn, NoItem, NotWithout, NoSession, NotPending, IsAside, NotStep, NotBand, NotForm, NotItem, NotSpent, Tree, NotWaiting, BadResponse, Ended}
use Rattle.history_model.specs.Judging.{Record, MayFollow}
use Rattle.history_model.specs.Reasons.{IsIllegal}
use Rattle.exam_records.specs.Shape.{HasNoList, IsRecord}
use Rattle.exam_office.specs.declared.fault.OpenFault.{OpenFault}
use Rattle.exam_office.specs.declared.fault.OpenFault.TheVariants.{Journal as OfJournal, Version, BadRecord, BadTree, Illegal as NotLegal, Disk, Memory}
use Rattle.exam_office.specs.Files.{payload_in}
use Rattle.exam_office.specs.Opening.{fault_of, IsTaken, IsNotFollowing, IsReadAs, IsNotTaken}

-- a reason why a record may not follow, as a fault
pub not_following : (b : Tables) (plan : Plan) (H : List Entry) (at : ℕ) (last : Record) (reason : Illegal) → IsIllegal b plan H last.entry last.tree reason → IsNotFollowing b plan H at last (fault_of at reason)
not_following b plan H at last (Tree verdict) why = record { reason = Tree verdict; illegal = why; is = refl }
not_following b plan H at last (NotSpent nodes) why = record { reason = NotSpent nodes; illegal = why; is = refl }
not_following b plan H at last (NotNumber n) why = record { reason = NotNumber n; illegal = why; is = refl }
not_following b plan H at last (Booked n) why = record { reason = Booked n; illegal = why; is = refl }
not_following b plan H at last (NotDrawn n) why = record { reason = NotDrawn n; illegal = why; is = refl }
not_following b plan H at last (NoItem n) why = record { reason = NoItem n; illegal = why; is = refl }
not_following b plan H at last (NotWithout breach) why = record { reason = NotWithout breach; illegal = why; is = refl }
not_following b plan H at last (NoSession n) why = record { reason = NoSession n; illegal = why; is = refl }
not_following b plan H at last (NotPending p) why = record { reason = NotPending p; illegal = why; is = refl }
not_following b plan H at last IsAside why = record { reason = IsAside; illegal = why; is = refl }
not_following b plan H at last (NotStep n) why = record { reason = NotStep n; illegal = why; is = refl }
not_following b plan H at last (NotBand n) why = record { reason = NotBand n; illegal = why; is = refl }
not_following b plan H at last (NotForm breach) why = record { reason = NotForm breach; illegal = why; is = refl }
not_following b plan H at last (NotItem n) why = record { reason = NotItem n; illegal = why; is = refl }
not_following b plan H at last (NotWaiting p) why = record { reason = NotWaiting p; illegal = why; is = refl }
not_following b plan H at last (BadResponse n) why = record { reason = BadResponse n; illegal = why; is = refl }
not_following b plan H at last (Ended p) why = record { reason = Ended p; illegal = why; is = refl }

pub taken_so : (b : Tables) (plan : Plan) (version : ℕ) (H : List Entry) (payload : List ℕ) (rec : Record) → IsRecord rec → (version ≡ 1 → HasNoList rec.entry) → payload_in b plan version rec ≡ payload → MayFollow b plan H rec.entry rec.tree → IsTaken b plan version H payload rec.entry
taken_so b plan version H payload rec is unlisted spelling may = record { last = record { entry = rec.entry; tree = rec.tree }; is_entry = refl; spells = is; unlisted = unlisted; spelling = spelling; may = may }

module _ (b : Tables) (plan : Plan) (version : ℕ) (H : List Entry) (at : ℕ) (payload : List ℕ) (rec : Record) (reads : IsReadAs b plan version H payload rec) where
  pub not_taken_so : (fault : OpenFault) → IsNotFollowing b plan H at rec fault → IsNotTaken b plan version H at payload fault
  not_taken_so (BadTree place) why = record { last = rec; reads = reads; reason = why.reason; illegal = why.illegal; is = why.is }
  not_taken_so (NotLegal place reason) why = record { last = rec; reads = reads; reason = why.reason; illegal = why.illegal; is = why.is }
  not_taken_so Memory why = tt
  not_taken_so (OfJournal fault) why = absurd why
  not_taken_so Version why = absurd why
  not_taken_so (BadRecord place fault) why = absurd why
  not_taken_so Disk why = absurd why
