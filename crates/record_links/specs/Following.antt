-- What a follower does with the bytes of a link.
use Rattle.std.specs.Prelude.{◌≡◌, ◌⊎◌, ℕ, List, [], ◌∷◌, ◌++◌, length}
use Rattle.record_links.specs.declared.followed.Followed.{Followed}
use Rattle.record_links.specs.declared.followed.Followed.TheVariants.{Done, Link, Peer, Offer, Full, Lost, Disk, Memory}
use Rattle.record_links.specs.declared.followed.Turn.{Turn}
use Rattle.record_links.specs.declared.followed.Turn.TheVariants.{GoesOn, Over}
use Rattle.record_links.specs.declared.replica.TakeFault.TheVariants as take
use Rattle.record_links.specs.Messages.{IsCutOff, have_text, IsOffer, IsEnd, IsNoOffer}
use Rattle.record_links.specs.Replicas.{Held, Takes, Fails}
use Rattle.record_links.specs.World.{Numbered}

module _ (may : List (List ℕ) → List ℕ → Type 0) (size : List (List ℕ) → ℕ) (limit : ℕ) where
  -- what became of an offer in its turn
  abbrev pub Moves : Held → Numbered (List ℕ) → Held → Turn → Type 0
  Moves old offer new GoesOn = Takes may old offer new
  Moves old offer new (Over (Done count)) = ⊥
  Moves old offer new (Over Link) = Takes may old offer new
  Moves old offer new (Over (Peer fault)) = ⊥
  Moves old offer new (Over (Offer n)) =
      Fails may size limit old offer new take.Refused × (n ≡ offer.number)
  Moves old offer new (Over (Full n)) = Fails may size limit old offer new (take.Full n)
  Moves old offer new (Over (Lost n)) = ⊥
  Moves old offer new (Over Disk) = Fails may size limit old offer new take.Disk
  Moves old offer new (Over Memory) = Fails may size limit old offer new take.Memory

  -- what was written after an offer: the have of the records then, if it was taken; only where the
  -- link failed it was cut off
  abbrev pub Answers : Held → List ℕ → Turn → Type 0
  Answers new text GoesOn = text ≡ have_text (length new.records)
  Answers new text (Over Link) = IsCutOff text (have_text (length new.records))
  Answers new text (Over other) = text ≡ []

  -- how a link ended, for the replica. The last offer is undelivered, or in doubt, only where the
  -- limit, the disk or memory ended it
  abbrev pub Halts : Held → Held → Followed → Type 0
  Halts old new (Done count) = (count ≡ length old.records) × (new ≡ old)
  Halts old new (Peer fault) = new ≡ old
  Halts old new Link = (new ≡ old) ⊎ ((offer : Numbered (List ℕ)) × Moves old offer new (Over Link))
  Halts old new Memory =
      (new ≡ old) ⊎ ((offer : Numbered (List ℕ)) × Moves old offer new (Over Memory))
  Halts old new (Offer n) = (offer : Numbered (List ℕ)) × Moves old offer new (Over (Offer n))
  Halts old new (Full n) = (offer : Numbered (List ℕ)) × Moves old offer new (Over (Full n))
  Halts old new (Lost n) = ⊥
  Halts old new Disk = (offer : Numbered (List ℕ)) × Moves old offer new (Over Disk)

  -- offers were taken, one after another, whatever bytes they were read from
  pub data Goes (start : Held) : Held → Type 0 where
    stays : Goes start start
    one_more : (old new : Held) (offer : Numbered (List ℕ)) → Goes start old
        → Takes may old offer new → Goes start new

  -- one message, for the replica
  abbrev pub Steps : Held → Held → Turn → Type 0
  Steps old new GoesOn = (offer : Numbered (List ℕ)) × Takes may old offer new
  Steps old new (Over followed) = Halts old new followed

  -- all of a link, for the replica: offers that were taken, and its end
  abbrev pub IsMoved : Held → Held → Followed → Type 0
  IsMoved start final followed = (held : Held) × Goes start held × Halts held final followed

  -- these offers at the front of the bytes were taken, in their order: the haves after them, the
  -- bytes that are left, and the replica. Only the first can find a record in doubt
  pub data Serves (start : Held) (bytes : List ℕ) : List (Numbered (List ℕ)) → List ℕ → List ℕ
      → Held → Type 0 where
    begun : Serves start bytes [] [] bytes start
    and_then : (offers : List (Numbered (List ℕ))) (text left next : List ℕ) (old new : Held)
        (offer : Numbered (List ℕ)) → Serves start bytes offers text left old
        → IsOffer left offer next → Takes may old offer new
        → Serves start bytes (offers ++ offer ∷ []) (text ++ have_text (length new.records)) next
        new

  -- what became of the offer at the front of the bytes
  pub record Ends (old : Held) (bytes text : List ℕ) (new : Held) (turn : Turn) : Type 0 where
    pub offer : Numbered (List ℕ)
    pub next : List ℕ
    pub is_offer : IsOffer bytes offer next
    pub moves : Moves old offer new turn
    pub answers : Answers new text turn

  -- nothing came of it: the replica is as it was, and nothing was written
  abbrev pub IsUntouched : Held → List ℕ → Held → Type 0
  IsUntouched old text new = (new ≡ old) × (text ≡ [])

  -- how a link ended, with what was written last
  abbrev pub EndsWith : Held → List ℕ → List ℕ → Held → Followed → Type 0
  EndsWith old bytes text new (Done count) =
      IsEnd bytes × (count ≡ length old.records) × IsUntouched old text new
  EndsWith old bytes text new (Peer fault) = IsNoOffer bytes fault × IsUntouched old text new
  EndsWith old bytes text new Link =
      IsUntouched old text new ⊎ Ends old bytes text new (Over Link)
  EndsWith old bytes text new Memory =
      IsUntouched old text new ⊎ Ends old bytes text new (Over Memory)
  EndsWith old bytes text new other = Ends old bytes text new (Over other)

  -- one message
  abbrev pub Turns : Held → List ℕ → List ℕ → List ℕ → Held → Turn → Type 0
  Turns old bytes text left new GoesOn =
      (offer : Numbered (List ℕ)) × IsOffer bytes offer left × Takes may old offer new
      × (text ≡ have_text (length new.records))
  Turns old bytes text left new (Over followed) = EndsWith old bytes text new followed

  -- all messages of a link: offers that were taken, in their order, and its end
  pub record EndsSo (start : Held) (bytes text : List ℕ) (final : Held)
      (followed : Followed) : Type 0 where
    pub offers : List (Numbered (List ℕ))
    pub held : Held
    pub left : List ℕ
    pub haves : List ℕ
    pub last : List ℕ
    pub serves : Serves start bytes offers haves left held
    pub ends : EndsWith held left last final followed
    pub whole : text ≡ haves ++ last

  -- a whole link: the have of the records at the start, and then all messages; or the link failed
  -- before that have was written
  abbrev pub IsFollowed : Held → List ℕ → List ℕ → Held → Followed → Type 0
  IsFollowed start bytes text final followed =
      ((followed ≡ Link) × (final ≡ start) × IsCutOff text (have_text (length start.records)))
      ⊎ ((texts : List ℕ) × (text ≡ have_text (length start.records) ++ texts)
      × EndsSo start bytes texts final followed)
