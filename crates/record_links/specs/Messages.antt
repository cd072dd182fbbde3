-- The messages of a link between a leader that ships and its follower, in bytes. Numbers are
-- big-endian. An offer is 01, the number of a record in 64 bits, the length of its payload in 32
-- bits, 1 to 131,072, and the payload. A have is 02 and a count of records in 64 bits. The end is
-- 03. The shipper sends offers and the end, and the follower sends haves.
use Rattle.std.specs.Prelude.{◌≡◌, ◌≢◌, ◌⊎◌, ℕ, ◌+◌, ◌<◌, ◌≤◌, ⊤}
use Rattle.std.specs.Prelude.{List, [], ◌∷◌, ◌++◌, length, drop, get_or, slice_range}
use Rattle.std.specs.Int.{to_be_bytes, from_be_bytes, w32, w64}
use Rattle.record_links.specs.declared.fault.MessageFault.{MessageFault}
use Rattle.record_links.specs.declared.fault.MessageFault.TheVariants as fault
use Rattle.record_links.specs.declared.fault.PeerFault.{PeerFault}
use Rattle.record_links.specs.declared.fault.PeerFault.TheVariants.{Kind, Length, Cut, Above, TooManyHaves}
use Rattle.record_links.specs.declared.kept.Kept.{Kept}
use Rattle.record_links.specs.declared.offer.ShipperMessage.{ShipperMessage}
use Rattle.record_links.specs.declared.offer.ShipperMessage.TheVariants.{Offer, End}
use Rattle.record_links.specs.World.{Numbered}

-- the bytes that were read beyond a message
abbrev pub bytes_of : Kept → List ℕ
bytes_of kept = kept.bytes.items

-- a payload that an offer can carry
pub record IsPayload (payload : List ℕ) : Type 0 where
  pub some : 1 ≤ length payload
  pub few : length payload ≤ 131072

-- a beginning of a whole text, and not all of it
pub record IsCutOff (text whole : List ℕ) : Type 0 where
  pub rest : List ℕ
  pub begins : whole ≡ text ++ rest
  pub lacks : 1 ≤ length rest

-- the bytes of an offer
abbrev pub offer_text : ℕ → List ℕ → List ℕ
offer_text number payload =
    1 ∷ (to_be_bytes w64 number ++ (to_be_bytes w32 (length payload) ++ payload))

-- the bytes of a have
abbrev pub have_text : ℕ → List ℕ
have_text count = 2 ∷ to_be_bytes w64 count

-- the bytes of the end
abbrev pub end_text : List ℕ
end_text = 3 ∷ []

-- the kind of the message at the front of the bytes
abbrev pub kind_in : List ℕ → ℕ
kind_in bytes = get_or bytes 0 0

-- the number in the bytes of an offer, or the count in those of a have
abbrev pub number_in : List ℕ → ℕ
number_in bytes =
    from_be_bytes w64
    (get_or bytes 1 0 ∷ get_or bytes 2 0 ∷ get_or bytes 3 0 ∷ get_or bytes 4 0
    ∷ get_or bytes 5 0 ∷ get_or bytes 6 0 ∷ get_or bytes 7 0 ∷ get_or bytes 8 0 ∷ [])

-- the length of the payload in the bytes of an offer
abbrev pub size_in : List ℕ → ℕ
size_in bytes =
    from_be_bytes w32
    (get_or bytes 9 0 ∷ get_or bytes 10 0 ∷ get_or bytes 11 0 ∷ get_or bytes 12 0 ∷ [])

-- the bytes begin with this offer, and the next ones follow it
pub record IsOffer (bytes : List ℕ) (offer : Numbered (List ℕ)) (next : List ℕ) : Type 0 where
  pub kind : kind_in bytes ≡ 1
  pub head : 13 ≤ length bytes
  pub number : offer.number ≡ number_in bytes
  pub fits : IsPayload offer.content
  pub size : length offer.content ≡ size_in bytes
  pub enough : 13 + size_in bytes ≤ length bytes
  pub payload : offer.content ≡ slice_range bytes 13 (13 + size_in bytes)
  pub follows : next ≡ drop (13 + size_in bytes) bytes

-- the bytes begin with the end, or the link ends between messages
abbrev pub IsEnd : List ℕ → Type 0
IsEnd bytes = (bytes ≡ []) ⊎ ((rest : List ℕ) × (bytes ≡ 3 ∷ rest))

-- the offer that a message of a shipper is
abbrev pub offer_of : ℕ → List ℕ → Numbered (List ℕ)
offer_of number payload = record { number = number; content = payload }

-- the bytes begin with this message of a shipper, and the next ones follow it
abbrev pub IsNext : List ℕ → ShipperMessage → List ℕ → Type 0
IsNext bytes (Offer number payload) next = IsOffer bytes (offer_of number payload.items) next
IsNext bytes End next = IsEnd bytes

-- the payload of an offer is one that an offer can carry
abbrev pub IsFitting : ShipperMessage → Type 0
IsFitting (Offer number payload) = IsPayload payload.items
IsFitting End = ⊤

-- a length that no payload has
abbrev pub IsBadLength : ℕ → Type 0
IsBadLength n = (n ≡ 0) ⊎ (131072 < n)

-- the bytes begin with the head of an offer, whole, with a length that a payload has
pub record IsOfferHead (bytes : List ℕ) : Type 0 where
  pub head : 13 ≤ length bytes
  pub some : 1 ≤ size_in bytes
  pub few : size_in bytes ≤ 131072

-- why the bytes begin with no message of a shipper: another kind, a have among them; a bad length;
-- or they end within an offer
abbrev pub IsNoOffer : List ℕ → PeerFault → Type 0
IsNoOffer bytes (Kind k) =
    (1 ≤ length bytes) × (k ≡ kind_in bytes) × (kind_in bytes ≢ 1) × (kind_in bytes ≢ 3)
IsNoOffer bytes (Length n) =
    (kind_in bytes ≡ 1) × (13 ≤ length bytes) × (n ≡ size_in bytes) × IsBadLength n
IsNoOffer bytes Cut =
    (1 ≤ length bytes) × (kind_in bytes ≡ 1)
    × ((length bytes < 13) ⊎ (IsOfferHead bytes × (length bytes < 13 + size_in bytes)))
IsNoOffer bytes (Above count) = ⊥
IsNoOffer bytes TooManyHaves = ⊥

-- the bytes begin with this have, and the next ones follow it
pub record IsHave (bytes : List ℕ) (count : ℕ) (next : List ℕ) : Type 0 where
  pub kind : kind_in bytes ≡ 2
  pub whole : 9 ≤ length bytes
  pub number : count ≡ number_in bytes
  pub follows : next ≡ drop 9 bytes

-- why the bytes begin with no have: another kind, an offer or the end among them; or they end
-- before one or within one
abbrev pub IsNoHave : List ℕ → PeerFault → Type 0
IsNoHave bytes (Kind k) = (1 ≤ length bytes) × (k ≡ kind_in bytes) × (kind_in bytes ≢ 2)
IsNoHave bytes (Length n) = ⊥
IsNoHave bytes Cut = (length bytes < 9) × (1 ≤ length bytes → kind_in bytes ≡ 2)
IsNoHave bytes (Above count) = ⊥
IsNoHave bytes TooManyHaves = ⊥

-- a fault whatever the bytes are
abbrev pub IsFree : MessageFault → Type 0
IsFree f = (f ≡ fault.Link) ⊎ (f ≡ fault.Memory)

-- why no message was read: the link failed, memory ran out, or the bytes begin with none, for a
-- reason of the peer's
abbrev pub IsFault : (PeerFault → Type 0) → MessageFault → Type 0
IsFault reason f = IsFree f ⊎ ((p : PeerFault) × (f ≡ fault.Peer p) × reason p)
