-- What an offer does to a follower over an office.
use Rattle.std.specs.Prelude.{◌≡◌, ◌⊎◌, ℕ, IsTrue, List, [], ◌∷◌, ◌++◌, length, Some, Err}
use Rattle.exam_edge.specs.Images.{Account, IsImage, latest}
use Rattle.history_model.specs.declared.illegal.Illegal.{Illegal}
use Rattle.history_model.specs.Judging.{Record}
use Rattle.history_model.specs.Reasons.{IsIllegal}
use Rattle.exam_records.specs.Reading.{record_of}
use Rattle.exam_records.specs.Shape.{IsRecord}
use Rattle.exam_records.specs.Spelling.{payload_of}
use Rattle.answer_journal.specs.Journal.{tells_of, accounts_of}
use Rattle.answer_journal.specs.Versions.{contents, second}
use Rattle.exam_office.specs.Marks.{history}
use Rattle.record_links.specs.declared.replica.TakeFault.{TakeFault}
use Rattle.record_links.specs.declared.replica.TakeFault.TheVariants as take
use Rattle.record_links.specs.Messages.{offer_of}
use Rattle.record_links.specs.Replicas.{Fails}
use Rattle.record_links.specs.World.{Numbered}
use Rattle.exam_follower.specs.declared.fault.DeliverFault.{DeliverFault}
use Rattle.exam_follower.specs.declared.fault.DeliverFault.TheVariants.{BadRecord, Refused, Full, Disk, Memory}
use Rattle.exam_follower.specs.Followers.{FollowerState, held_of, records_of, may_follow, size_with, limit_of}

-- the payload spells a record that may not follow the history; the first reason
pub record IsIllegalAfter {D : Type 0} (f : FollowerState D) (payload : List ℕ)
    (reason : Illegal) : Type 0 where
  pub last : Record
  pub spells : IsRecord last
  pub is : payload_of last ≡ payload
  pub illegal : IsIllegal f.office.bank f.office.plan (history f.office.marks) last.entry last.tree
      reason

-- the fault of a replica that it is
abbrev pub taken_as : DeliverFault → TakeFault
taken_as (BadRecord fault) = take.Refused
taken_as (Refused reason) = take.Refused
taken_as (Full size) = take.Full size
taken_as Disk = take.Disk
taken_as Memory = take.Memory

-- what is known of the payload of an offer that was refused
abbrev pub IsFoundOut : {D : Type 0} → FollowerState D → List ℕ → DeliverFault → Type 0
IsFoundOut f payload (BadRecord fault) = record_of payload ≡ Err fault
IsFoundOut f payload (Refused reason) = IsIllegalAfter f payload reason
IsFoundOut f payload fault = Unit {0}

-- why an offer was not delivered, and what it left
pub record IsNotDelivered {D : Type 0} (old new : FollowerState D) (offer : Numbered (List ℕ))
    (fault : DeliverFault) : Type 0 where
  pub fails : Fails (may_follow old) (size_with old) (limit_of old) (held_of old) offer
      (held_of new) (taken_as fault)
  pub found_out : IsFoundOut new offer.content fault

-- only memory or the disk leaves a record in doubt unresolved
abbrev pub IsUnmendedBy : DeliverFault → Type 0
IsUnmendedBy fault = (fault ≡ Memory) ⊎ (fault ≡ Disk)

-- why a payload was not appended, and what it left, where nothing was in doubt
abbrev pub IsNotAppended : {D : Type 0} → FollowerState D → FollowerState D → List ℕ → DeliverFault
    → Type 0
IsNotAppended old new payload fault =
    IsNotDelivered old new (offer_of (length (records_of old)) payload) fault

-- by one of these accounts a crash may leave this file
abbrev pub IsLeftBy : List Account → List ℕ → Type 0
IsLeftBy [] file = ⊥
IsLeftBy (account ∷ accounts) file = IsImage account file ⊎ IsLeftBy accounts file

-- a crash may leave this file at a moment from the last of the old ones on
pub record IsLeftBetween (old new : List Account) (file : List ℕ) : Type 0 where
  pub more : List Account
  pub grown : new ≡ old ++ more
  pub left : IsLeftBy (latest old ∷ more) file

-- the file has records of which this is so
abbrev pub HasRecords : (List (List ℕ) → Type 0) → List ℕ → Type 0
HasRecords P file = (left : List (List ℕ)) × P left × (contents file ≡ Some (second left))

-- a stop at a moment between these states may leave a file with these records
pub record MayBeLeft {D : Type 0} (old new : FollowerState D)
    (left : List (List ℕ)) : Type 0 where
  pub reports : IsTrue (tells_of old.office.journal)
  pub file : List ℕ
  pub between : IsLeftBetween (accounts_of old.office.journal) (accounts_of new.office.journal) file
  pub has : contents file ≡ Some (second left)
