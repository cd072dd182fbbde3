-- How a replica, its links and those of a shipper are seen in the world.
use Rattle.std.specs.Prelude.{◌≡◌, ℕ, ◌≤◌, max, List, [], ◌∷◌, ◌++◌, length, Contains, Some}
use Rattle.std.specs.List.{AllByRecursion}
use Rattle.record_links.specs.declared.replica.TakeFault.{TakeFault}
use Rattle.record_links.specs.Following.{Serves}
use Rattle.record_links.specs.Messages.{offer_of, offer_text}
use Rattle.record_links.specs.Replicas.{Held, sure, Takes, Fails, StopLeaves}
use Rattle.record_links.specs.Shipping.{Ships}
use Rattle.record_links.specs.World.{Numbered, World, HappensAlong}

-- the offers that a follower took over a link, all of them sent, and its haves are events: they
-- leave the leader as it is, and the follower with what it has then and answered for
abbrev pub LinksAreEvents : (List (List ℕ) → List ℕ → Type 0) → (List (List ℕ) → ℕ) → ℕ → Type 0
LinksAreEvents may size limit =
    (w : World (List ℕ)) (bytes : List ℕ) (offers : List (Numbered (List ℕ))) (text left : List ℕ)
    (held : Held) → Serves may size limit (sure w.follower) bytes offers text left held
    → AllByRecursion (λ offer. Contains w.sent offer) offers
    → (v : World (List ℕ)) × HappensAlong may w v × (v.leader ≡ w.leader)
    × (held ≡ sure v.follower) × (length held.records ≤ v.most)

-- a replica is the follower of a world: it has the follower's records, and a record in doubt was
-- sent as the next of them, and may follow
pub record IsFollowerOf (may : List (List ℕ) → List ℕ → Type 0) (w : World (List ℕ)) (held : Held)
    : Type 0 where
  pub records : held.records ≡ w.follower
  pub doubt : (r : List ℕ) → held.doubt ≡ Some r
      → Contains w.sent (offer_of (length w.follower) r) × may w.follower r

-- events lead from a world to one that has this replica as its follower. They leave the leader, and
-- what was sent, as they are
pub record LeadsTo (may : List (List ℕ) → List ℕ → Type 0) (w : World (List ℕ)) (held : Held)
    (v : World (List ℕ)) : Type 0 where
  pub along : HappensAlong may w v
  pub leader : v.leader ≡ w.leader
  pub sent : v.sent ≡ w.sent
  pub follower : IsFollowerOf may v held

-- an offer that was sent is taken: events, with an answer of the count then
abbrev pub TakesAreEvents : (List (List ℕ) → List ℕ → Type 0) → Type 0
TakesAreEvents may =
    (w : World (List ℕ)) (old new : Held) (offer : Numbered (List ℕ)) → IsFollowerOf may w old
    → Contains w.sent offer → Takes may old offer new
    → (v : World (List ℕ)) × LeadsTo may w new v × (v.most ≡ max w.most (length new.records))

-- it is not taken: events, without an answer
abbrev pub FaultsAreEvents : (List (List ℕ) → List ℕ → Type 0) → (List (List ℕ) → ℕ) → ℕ → Type 0
FaultsAreEvents may size limit =
    (w : World (List ℕ)) (old new : Held) (offer : Numbered (List ℕ)) (fault : TakeFault)
    → IsFollowerOf may w old → Contains w.sent offer → Fails may size limit old offer new fault
    → (v : World (List ℕ)) × LeadsTo may w new v × (v.most ≡ w.most)

-- a stop comes meanwhile: events, without an answer, to the records that it left
abbrev pub StopsAreEvents : (List (List ℕ) → List ℕ → Type 0) → Type 0
StopsAreEvents may =
    (w : World (List ℕ)) (old : Held) (offer : Numbered (List ℕ)) (left : List (List ℕ))
    → IsFollowerOf may w old → Contains w.sent offer → StopLeaves may old offer left
    → (v : World (List ℕ)) × LeadsTo may w (sure left) v × (v.most ≡ w.most)

-- a link of any such replica, also with a record in doubt at its start: events, with an answer of
-- the count then
abbrev pub LinksGoOn : (List (List ℕ) → List ℕ → Type 0) → (List (List ℕ) → ℕ) → ℕ → Type 0
LinksGoOn may size limit =
    (w : World (List ℕ)) (bytes : List ℕ) (start : Held) (offers : List (Numbered (List ℕ)))
    (text left : List ℕ) (held : Held) → IsFollowerOf may w start
    → AllByRecursion (λ offer. Contains w.sent offer) offers
    → Serves may size limit start bytes offers text left held
    → (v : World (List ℕ)) × LeadsTo may w held v × (length held.records ≤ v.most)

-- events after events are events
abbrev pub EventsJoin : (List (List ℕ) → List ℕ → Type 0) → Type 0
EventsJoin may =
    (u w v : World (List ℕ)) → HappensAlong may u w → HappensAlong may w v → HappensAlong may u v

-- offers, one after another, in bytes
abbrev pub texts_of : List (Numbered (List ℕ)) → List ℕ
texts_of [] = []
texts_of (offer ∷ offers) = offer_text offer.number offer.content ++ texts_of offers

-- what a shipper of the leader's records wrote for haves is one offer for each; that these are sent
-- is events, and changes nothing else
abbrev pub OffersAreEvents : (List (List ℕ) → List ℕ → Type 0) → Type 0
OffersAreEvents may =
    (w : World (List ℕ)) (bytes : List ℕ) (haves : ℕ) (text left : List ℕ)
    → Ships w.leader bytes haves text left
    → (offers : List (Numbered (List ℕ))) × (text ≡ texts_of offers) × (length offers ≡ haves)
    × HappensAlong may w (record w { sent = w.sent ++ offers })
