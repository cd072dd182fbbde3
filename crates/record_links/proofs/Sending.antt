-- One have more of a follower.
use Rattle.std.proofs.Common.{◌≡◌, inl, inr, ℕ, ◌+◌, ◌*◌, ◌≤◌, List, [], ◌∷◌, ◌++◌, length, Some, slice_get, refl, sym, ap, subst, arith, length-append}
use Rattle.record_links.specs.declared.followed.Followed.{Followed}
use Rattle.record_links.specs.declared.followed.Followed.TheVariants.{Done, Link, Peer, Offer, Full, Lost, Disk, Memory}
use Rattle.record_links.specs.declared.followed.Turn.{Turn}
use Rattle.record_links.specs.declared.followed.Turn.TheVariants.{GoesOn, Over}
use Rattle.record_links.specs.Messages.{IsCutOff, offer_text, IsHave}
use Rattle.record_links.specs.Shipping.{Sends, Turns, Ships, and_then, EndsWith, IsShipped}

-- what was cut off of a text of one byte is nothing
pub none_of_one : (text : List ℕ) (b : ℕ) → IsCutOff text (b ∷ []) → text ≡ []
none_of_one [] b cut = refl
none_of_one (x ∷ xs) b cut =
    let size = ap (λ (l : List ℕ). length l) cut.begins in
    let parts = length-append xs cut.rest in
    let some = cut.lacks in
    absurd (omega (arith, size, parts, some))

pub sent_turn : (R : List (List ℕ)) (bytes text left : List ℕ) (number : ℕ) (next : List ℕ) (turn : Turn) → IsHave bytes number next → Sends R number text turn → next ≡ left
    → Turns R bytes text left turn
sent_turn R bytes text left number next GoesOn have b e = (number, b.0, subst (λ (l : List ℕ). IsHave bytes number l) e have, b.1, b.2)
sent_turn R bytes text left number next (Over (Done count)) have b e = absurd b
sent_turn R bytes text left number next (Over Link) have b e = inr (record { number = number; next = next; is_have = have; sends = b })
sent_turn R bytes text left number next (Over (Peer fault)) have b e = absurd b
sent_turn R bytes text left number next (Over (Offer n)) have b e = absurd b
sent_turn R bytes text left number next (Over (Full n)) have b e = absurd b
sent_turn R bytes text left number next (Over (Lost n)) have b e = absurd b
sent_turn R bytes text left number next (Over Disk) have b e = b
sent_turn R bytes text left number next (Over Memory) have b e = b

pub ships_more : (R Q : List (List ℕ)) → Q ≡ R → (bytes : List ℕ) (haves : ℕ) (text left next : List ℕ) (number : ℕ) (payload more : List ℕ) → Ships R bytes haves text left → IsHave left number next
    → slice_get Q number ≡ Some payload → more ≡ offer_text number payload → Ships R bytes (haves + 1) (text ++ more) next
ships_more R Q same bytes haves text left next number payload more ships have there is =
    subst (λ (t : List ℕ). Ships R bytes (haves + 1) (text ++ t) next) (sym is)
    (and_then haves text left next number payload ships have (subst (λ (K : List (List ℕ)). slice_get K number ≡ Some payload) same there))

pub is_over : (R Q : List (List ℕ)) → Q ≡ R → (bytes : List ℕ) (haves : ℕ) (texts rest last : List ℕ) (followed : Followed) → Ships R bytes haves texts rest
    → haves ≤ 2 * length R → EndsWith Q rest last followed → IsShipped R bytes (texts ++ last) followed
is_over R Q same bytes haves texts rest last followed ships few ends =
    inl (record {
      haves = haves;
      offers = texts;
      left = rest;
      last = last;
      ships = ships;
      few = few;
      ends = subst (λ (K : List (List ℕ)). EndsWith K rest last followed) same ends;
      whole = refl;
    })

pub too_many : (R : List (List ℕ)) (bytes : List ℕ) (haves : ℕ) (text left : List ℕ) → haves ≡ 2 * length R + 1 → Ships R bytes haves text left → Ships R bytes (2 * length R + 1) text left
too_many R bytes haves text left all ships = subst (λ (n : ℕ). Ships R bytes n text left) all ships
