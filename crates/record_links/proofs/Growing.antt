-- Records that grow while they are shipped.
use Rattle.std.proofs.Common.{◌≡◌, inr, ℕ, ◌<◌, List, [], ◌++◌, length, refl, sym, ap, ◌∙◌, subst, append-nil, append_assoc}
use Rattle.record_links.specs.declared.followed.Followed.{Followed}
use Rattle.record_links.specs.declared.followed.Followed.TheVariants.{Done, Link, Peer, Offer, Full, Lost, Disk, Memory}
use Rattle.record_links.specs.declared.followed.Turn.{Turn}
use Rattle.record_links.specs.declared.followed.Turn.TheVariants.{GoesOn, Over}
use Rattle.record_links.specs.declared.fault.PeerFault.{PeerFault}
use Rattle.record_links.specs.declared.fault.PeerFault.TheVariants.{Above}
use Rattle.record_links.specs.Messages.{IsHave}
use Rattle.record_links.specs.Shipping.{HasMore}
use Rattle.record_links.specs.Streaming.{IsGrown, Answers, Turns, Streams, grown, sent, EndsWith, IsStreamed}

pub same_grown : (R : List (List ℕ)) → IsGrown R R
same_grown R = record { more = []; is = sym (append-nil R) }

pub grown_on : (R S T : List (List ℕ)) → IsGrown R S → IsGrown S T → IsGrown R T
grown_on R S T a b = record {
  more = a.more ++ b.more;
  is = b.is ∙ ap (λ (l : List (List ℕ)). l ++ b.more) a.is ∙ append_assoc R a.more b.more;
}

above_is : (R : List (List ℕ)) (bytes : List ℕ) (number : ℕ) (next : List ℕ) (fault : PeerFault) → fault ≡ Above number → length R < number → IsHave bytes number next
    → HasMore R bytes fault
above_is R bytes number next fault is more have = subst (λ (f : PeerFault). HasMore R bytes f) (sym is) (more, (next, have))

-- what was answered to a have is a turn
pub answered_turn : (R : List (List ℕ)) (bytes text left : List ℕ) (number : ℕ) (next : List ℕ) (turn : Turn) → IsHave bytes number next → Answers R number text turn → next ≡ left
    → Turns R bytes text left turn
answered_turn R bytes text left number next GoesOn have b e = (number, subst (λ (l : List ℕ). IsHave bytes number l) e have, b)
answered_turn R bytes text left number next (Over (Done count)) have b e = absurd b.0
answered_turn R bytes text left number next (Over Link) have b e = inr (number, next, have, b)
answered_turn R bytes text left number next (Over (Peer fault)) have b e = (inr (above_is R bytes number next fault b.0.0 b.0.1 have), b.1)
answered_turn R bytes text left number next (Over (Offer n)) have b e = absurd b.0
answered_turn R bytes text left number next (Over (Full n)) have b e = absurd b.0
answered_turn R bytes text left number next (Over (Lost n)) have b e = absurd b.0
answered_turn R bytes text left number next (Over Disk) have b e = b.1
answered_turn R bytes text left number next (Over Memory) have b e = b.1

-- one offer more
pub streams_more : (R S T : List (List ℕ)) (bytes text left next : List ℕ) (number : ℕ) (more : List ℕ) → Streams R bytes text left S → IsGrown S T → IsHave left number next
    → Answers T number more GoesOn → Streams R bytes (text ++ more) next T
streams_more R S T bytes text left next number more streams grows have answer =
    subst (λ (t : List ℕ). Streams R bytes (text ++ t) next T) (sym answer.2.2)
    (sent text left next T number answer.0 answer.2.0 (grown text left S T streams grows) have answer.1 answer.2.1)

-- the end of a link
pub is_streamed : (R S T : List (List ℕ)) (bytes texts rest last : List ℕ) (followed : Followed) → Streams R bytes texts rest S → IsGrown S T → EndsWith T rest last followed
    → IsStreamed R T bytes (texts ++ last) followed
is_streamed R S T bytes texts rest last followed streams grows ends = record {
  offers = texts;
  left = rest;
  last = last;
  streams = grown texts rest S T streams grows;
  ends = ends;
  whole = refl;
}
