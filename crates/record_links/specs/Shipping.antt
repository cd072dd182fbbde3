-- What the side of a leader that ships its records does with the bytes of a link.
use Rattle.std.specs.Prelude.{◌≡◌, ◌⊎◌, ℕ, ◌+◌, ◌*◌, ◌<◌, ◌≤◌, ⊤}
use Rattle.std.specs.Prelude.{List, [], ◌++◌, length, slice_get, Some}
use Rattle.record_links.specs.declared.fault.PeerFault.{PeerFault}
use Rattle.record_links.specs.declared.fault.PeerFault.TheVariants.{Above, TooManyHaves}
use Rattle.record_links.specs.declared.followed.Followed.{Followed}
use Rattle.record_links.specs.declared.followed.Followed.TheVariants.{Done, Link, Peer, Offer, Full, Lost, Disk, Memory}
use Rattle.record_links.specs.declared.followed.Turn.{Turn}
use Rattle.record_links.specs.declared.followed.Turn.TheVariants.{GoesOn, Over}
use Rattle.record_links.specs.Messages.{IsCutOff, offer_text, end_text, IsHave, IsNoHave}

-- an end that a shipper has, whatever is reported: it takes no offers
abbrev pub IsShipperEnd : Followed → Type 0
IsShipperEnd (Offer n) = ⊥
IsShipperEnd (Full n) = ⊥
IsShipperEnd other = ⊤

-- an end that one have may bring
abbrev pub IsTurnEnd : Turn → Type 0
IsTurnEnd GoesOn = ⊤
IsTurnEnd (Over followed) = IsShipperEnd followed

-- of the leader's records, those of an office or of a journal that grows
module _ (records : List (List ℕ)) where
  -- what was written for the have of a record: its offer, or, where the link failed, a part of it
  abbrev pub Sends : ℕ → List ℕ → Turn → Type 0
  Sends number text GoesOn =
      (payload : List ℕ) × (slice_get records number ≡ Some payload)
      × (text ≡ offer_text number payload)
  Sends number text (Over Link) =
      (payload : List ℕ) × (slice_get records number ≡ Some payload)
      × IsCutOff text (offer_text number payload)
  Sends number text (Over Disk) = text ≡ []
  Sends number text (Over Memory) = text ≡ []
  Sends number text (Over other) = ⊥

  -- so many haves of records at the front of the bytes: the offers of these records, in the order
  -- of the haves, and the bytes that are left
  pub data Ships (bytes : List ℕ) : ℕ → List ℕ → List ℕ → Type 0 where
    begun : Ships bytes 0 [] bytes
    and_then : (haves : ℕ) (text left next : List ℕ) (number : ℕ) (payload : List ℕ)
        → Ships bytes haves text left → IsHave left number next
        → slice_get records number ≡ Some payload
        → Ships bytes (haves + 1) (text ++ offer_text number payload) next

  -- a have of a record was read, and a part of its offer was written
  pub record IsBegun (bytes text : List ℕ) : Type 0 where
    pub number : ℕ
    pub next : List ℕ
    pub is_have : IsHave bytes number next
    pub sends : Sends number text (Over Link)

  -- the bytes begin with the have of all records
  abbrev pub HasAll : List ℕ → Type 0
  HasAll bytes = (next : List ℕ) × IsHave bytes (length records) next

  -- the bytes begin with a have above the number of records
  abbrev pub HasMore : List ℕ → PeerFault → Type 0
  HasMore bytes (Above count) =
      (length records < count) × ((next : List ℕ) × IsHave bytes count next)
  HasMore bytes other = ⊥

  -- how a link ended, with what was written last
  abbrev pub EndsWith : List ℕ → List ℕ → Followed → Type 0
  EndsWith bytes text (Done count) =
      HasAll bytes × (count ≡ length records) × (text ≡ end_text)
  EndsWith bytes text (Peer fault) = (IsNoHave bytes fault ⊎ HasMore bytes fault) × (text ≡ [])
  EndsWith bytes text Link = (text ≡ []) ⊎ IsBegun bytes text
  EndsWith bytes text (Offer n) = ⊥
  EndsWith bytes text (Full n) = ⊥
  EndsWith bytes text (Lost n) = ⊥
  EndsWith bytes text Disk = text ≡ []
  EndsWith bytes text Memory = text ≡ []

  -- one message
  abbrev pub Turns : List ℕ → List ℕ → List ℕ → Turn → Type 0
  Turns bytes text left GoesOn =
      (number : ℕ) × (payload : List ℕ) × IsHave bytes number left
      × (slice_get records number ≡ Some payload) × (text ≡ offer_text number payload)
  Turns bytes text left (Over followed) = EndsWith bytes text followed

  -- haves of records, at most two for each, and how the link ended then
  pub record IsOver (bytes text : List ℕ) (followed : Followed) : Type 0 where
    pub haves : ℕ
    pub offers : List ℕ
    pub left : List ℕ
    pub last : List ℕ
    pub ships : Ships bytes haves offers left
    pub few : haves ≤ 2 * length records
    pub ends : EndsWith left last followed
    pub whole : text ≡ offers ++ last

  -- two haves for each record and one more came, and none of them had all
  abbrev pub IsTooMany : List ℕ → List ℕ → Followed → Type 0
  IsTooMany bytes text followed =
      (followed ≡ Peer TooManyHaves)
      × ((left : List ℕ) × Ships bytes (2 * length records + 1) text left)

  -- a whole link
  abbrev pub IsShipped : List ℕ → List ℕ → Followed → Type 0
  IsShipped bytes text followed = IsOver bytes text followed ⊎ IsTooMany bytes text followed
