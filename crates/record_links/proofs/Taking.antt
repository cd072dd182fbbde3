-- One message more of a shipper.
use Rattle.std.proofs.Common.{◌≡◌, inr, ℕ, List, [], ◌∷◌, ◌++◌, length, refl, sym, subst}
use Rattle.record_links.specs.declared.followed.Followed.{Followed}
use Rattle.record_links.specs.declared.followed.Followed.TheVariants.{Done, Link, Peer, Offer, Full, Lost, Disk, Memory}
use Rattle.record_links.specs.declared.followed.Turn.{Turn}
use Rattle.record_links.specs.declared.followed.Turn.TheVariants.{GoesOn, Over}
use Rattle.record_links.specs.Messages.{have_text, IsOffer}
use Rattle.record_links.specs.Replicas.{Held, Takes}
use Rattle.record_links.specs.World.{Numbered}
use Rattle.record_links.specs.Following.{Moves, Answers, Steps, Turns, Serves, and_then, EndsWith, EndsSo}

module _ (may : List (List ℕ) → List ℕ → Type 0) (size : List (List ℕ) → ℕ) (limit : ℕ) where
  pub offer_step : (old : Held) (o : Numbered (List ℕ)) (new : Held) (turn : Turn) → Moves may size limit old o new turn → Steps may size limit old new turn
  offer_step old o new GoesOn w = (o, w)
  offer_step old o new (Over (Done count)) w = absurd w
  offer_step old o new (Over Link) w = inr (o, w)
  offer_step old o new (Over (Peer fault)) w = absurd w
  offer_step old o new (Over (Offer n)) w = (o, w)
  offer_step old o new (Over (Full n)) w = (o, w)
  offer_step old o new (Over (Lost n)) w = absurd w
  offer_step old o new (Over Disk) w = (o, w)
  offer_step old o new (Over Memory) w = inr (o, w)

  pub offer_turn : (old : Held) (bytes text left : List ℕ) (new : Held) (o : Numbered (List ℕ)) (next : List ℕ) (turn : Turn) → IsOffer bytes o next → next ≡ left
      → Moves may size limit old o new turn → Answers may size limit new text turn → Turns may size limit old bytes text left new turn
  offer_turn old bytes text left new o next GoesOn is e w a = (o, subst (λ (l : List ℕ). IsOffer bytes o l) e is, w, a)
  offer_turn old bytes text left new o next (Over (Done count)) is e w a = absurd w
  offer_turn old bytes text left new o next (Over Link) is e w a = inr (record { offer = o; next = next; is_offer = is; moves = w; answers = a })
  offer_turn old bytes text left new o next (Over (Peer fault)) is e w a = absurd w
  offer_turn old bytes text left new o next (Over (Offer n)) is e w a = record { offer = o; next = next; is_offer = is; moves = w; answers = a }
  offer_turn old bytes text left new o next (Over (Full n)) is e w a = record { offer = o; next = next; is_offer = is; moves = w; answers = a }
  offer_turn old bytes text left new o next (Over (Lost n)) is e w a = absurd w
  offer_turn old bytes text left new o next (Over Disk) is e w a = record { offer = o; next = next; is_offer = is; moves = w; answers = a }
  offer_turn old bytes text left new o next (Over Memory) is e w a = inr (record { offer = o; next = next; is_offer = is; moves = w; answers = a })

  pub serves_more : (start : Held) (bytes : List ℕ) (offers : List (Numbered (List ℕ))) (text left next : List ℕ) (old new : Held) (o : Numbered (List ℕ)) (more : List ℕ) → Serves may size limit start bytes offers text left old
      → IsOffer left o next → Takes may old o new → more ≡ have_text (length new.records)
      → Serves may size limit start bytes (offers ++ o ∷ []) (text ++ more) next new
  serves_more start bytes offers text left next old new o more serves offer taken is =
      subst (λ (t : List ℕ). Serves may size limit start bytes (offers ++ o ∷ []) (text ++ t) next new) (sym is) (and_then offers text left next old new o serves offer taken)

  pub ends_so : (start held : Held) (bytes : List ℕ) (offers : List (Numbered (List ℕ))) (texts left last : List ℕ) (final : Held) (followed : Followed) → Serves may size limit start bytes offers texts left held
      → EndsWith may size limit held left last final followed → EndsSo may size limit start bytes (texts ++ last) final followed
  ends_so start held bytes offers texts left last final followed serves ends =
      record { offers = offers; held = held; left = left; haves = texts; last = last; serves = serves; ends = ends; whole = refl }
