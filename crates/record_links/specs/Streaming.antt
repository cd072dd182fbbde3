-- What the side of a leader does with the bytes of a link while its records grow.
use Rattle.std.specs.Prelude.{◌≡◌, ◌⊎◌, ℕ, ◌+◌, ◌<◌, ⊤}
use Rattle.std.specs.Prelude.{List, [], ◌++◌, length, slice_get, Some}
use Rattle.record_links.specs.declared.followed.Followed.{Followed}
use Rattle.record_links.specs.declared.followed.Followed.TheVariants.{Done, Link, Peer, Offer, Full, Lost, Disk, Memory}
use Rattle.record_links.specs.declared.followed.Turn.{Turn}
use Rattle.record_links.specs.declared.followed.Turn.TheVariants.{GoesOn, Over}
use Rattle.record_links.specs.declared.growing_log.Asked.{Asked}
use Rattle.record_links.specs.declared.growing_log.Asked.TheVariants.{Record, NotYet}
use Rattle.record_links.specs.declared.growing_log.Asked.TheVariants as asked
use Rattle.record_links.specs.declared.fault.PeerFault.TheVariants.{Above}
use Rattle.record_links.specs.Messages.{IsPayload, offer_text, IsHave}
use Rattle.record_links.specs.Shipping as shipping

-- the old records, and others after them
pub record IsGrown (old new : List (List ℕ)) : Type 0 where
  pub more : List (List ℕ)
  pub is : new ≡ old ++ more

-- what a log of these records has of a number
abbrev pub Gives : List (List ℕ) → ℕ → Asked → Type 0
Gives records number (Record payload) = slice_get records number ≡ Some payload.items
Gives records number NotYet = ⊤
Gives records number asked.Above = length records < number

-- a payload that is given is one that an offer can carry
abbrev pub IsAnswer : Asked → Type 0
IsAnswer (Record payload) = IsPayload payload.items
IsAnswer NotYet = ⊤
IsAnswer asked.Above = ⊤

-- the number of the record that answers the have of a number: that one, or, where it is long in
-- coming, the one before it again, which the follower has
abbrev pub IsReply : ℕ → ℕ → Type 0
IsReply number n = (n ≡ number) ⊎ (n + 1 ≡ number)

-- haves at the front of the bytes, from these records on: the offers that answer them, each of a
-- record that was there when its offer was sent; the bytes that are left, and the records then
pub data Streams (start : List (List ℕ)) (bytes : List ℕ)
    : List ℕ → List ℕ → List (List ℕ) → Type 0 where
  begun : Streams start bytes [] bytes start
  grown : (text left : List ℕ) (old new : List (List ℕ)) → Streams start bytes text left old
      → IsGrown old new → Streams start bytes text left new
  sent : (text left next : List ℕ) (records : List (List ℕ)) (number n : ℕ) (payload : List ℕ)
      → Streams start bytes text left records → IsHave left number next → IsReply number n
      → slice_get records n ≡ Some payload
      → Streams start bytes (text ++ offer_text n payload) next records

-- why the record of a number never comes: there are fewer records than the number; or the log's
-- file failed, or memory ran out
abbrev pub Stops : List (List ℕ) → ℕ → Followed → Type 0
Stops records number (Peer fault) = (fault ≡ Above number) × (length records < number)
Stops records number Disk = ⊤
Stops records number Memory = ⊤
Stops records number other = ⊥

-- what was written for the have of a number: the offer that answers it, or, where the link failed,
-- a part of one; nothing where the record never comes
abbrev pub Answers : List (List ℕ) → ℕ → List ℕ → Turn → Type 0
Answers records number text GoesOn =
    (n : ℕ) × IsReply number n × shipping.Sends records n text GoesOn
Answers records number text (Over Link) =
    (n : ℕ) × IsReply number n × shipping.Sends records n text (Over Link)
Answers records number text (Over followed) = Stops records number followed × (text ≡ [])

-- how a link ended, with what was written last; it has no end of its own
abbrev pub EndsWith : List (List ℕ) → List ℕ → List ℕ → Followed → Type 0
EndsWith records bytes text (Done count) = ⊥
EndsWith records bytes text (Peer fault) = shipping.EndsWith records bytes text (Peer fault)
EndsWith records bytes text Link =
    (text ≡ [])
    ⊎ ((number : ℕ) × (next : List ℕ) × IsHave bytes number next
    × Answers records number text (Over Link))
EndsWith records bytes text (Offer n) = ⊥
EndsWith records bytes text (Full n) = ⊥
EndsWith records bytes text (Lost n) = ⊥
EndsWith records bytes text Disk = text ≡ []
EndsWith records bytes text Memory = text ≡ []

-- one message, of a log that has these records after it
abbrev pub Turns : List (List ℕ) → List ℕ → List ℕ → List ℕ → Turn → Type 0
Turns records bytes text left GoesOn =
    (number : ℕ) × IsHave bytes number left × Answers records number text GoesOn
Turns records bytes text left (Over followed) = EndsWith records bytes text followed

-- a whole link
pub record IsStreamed (start final : List (List ℕ)) (bytes text : List ℕ) (followed : Followed)
    : Type 0 where
  pub offers : List ℕ
  pub left : List ℕ
  pub last : List ℕ
  pub streams : Streams start bytes offers left final
  pub ends : EndsWith final left last followed
  pub whole : text ≡ offers ++ last

-- a fault of the peer, of the log's file or of memory
abbrev pub IsStop : Followed → Type 0
IsStop (Peer fault) = ⊤
IsStop Disk = ⊤
IsStop Memory = ⊤
IsStop other = ⊥

-- an end that a link has
abbrev pub IsLinkEnd : Followed → Type 0
IsLinkEnd (Done count) = ⊥
IsLinkEnd (Offer n) = ⊥
IsLinkEnd (Full n) = ⊥
IsLinkEnd (Lost n) = ⊥
IsLinkEnd other = ⊤

-- an end that one message may bring
abbrev pub IsTurnEnd : Turn → Type 0
IsTurnEnd GoesOn = ⊤
IsTurnEnd (Over followed) = IsLinkEnd followed
