-- Bytes begin with one message at most, and what is written is read.
use Rattle.std.proofs.Common.{◌≡◌, ◌⊎◌, ⊎_elim, inl, inr, ℕ, ◌+◌, ◌-◌, ◌^◌, ◌<◌, List, ◌++◌, length, take, drop, refl, sym, ap, ◌∙◌, arith, length-append, take_at, drop_at, drop-drop}
use Rattle.std.specs.Prelude.{slice_range}
use Rattle.std.proofs.lemmas.Nat.{from_be_bytes-to_be_bytes_4, from_be_bytes-to_be_bytes_8}
use Rattle.record_links.specs.declared.fault.PeerFault.{PeerFault}
use Rattle.record_links.specs.declared.fault.PeerFault.TheVariants.{Kind, Length, Cut, Above, TooManyHaves}
use Rattle.record_links.specs.Messages.{kind_in, size_in, offer_of, offer_text, have_text, IsPayload, IsOffer, IsEnd, IsNoOffer, IsHave, IsNoHave}
use Rattle.record_links.specs.World.{Numbered}

same_offer : (o p : Numbered (List ℕ)) → o.number ≡ p.number → o.content ≡ p.content → o ≡ p
same_offer o p number content = ap (λ (n : ℕ). offer_of n o.content) number ∙ ap (λ (c : List ℕ). offer_of p.number c) content

pub one_offer : (bytes : List ℕ) (o p : Numbered (List ℕ)) (next after : List ℕ) → IsOffer bytes o next → IsOffer bytes p after → (o ≡ p) × (next ≡ after)
one_offer bytes o p next after a b = (same_offer o p (a.number ∙ sym b.number) (a.payload ∙ sym b.payload), a.follows ∙ sym b.follows)

end_is : (bytes : List ℕ) → IsEnd bytes → (length bytes ≡ 0) ⊎ (kind_in bytes ≡ 3)
end_is bytes e = ⊎_elim (λ x. inl (ap (λ (l : List ℕ). length l) x)) (λ x. inr (ap kind_in x.1)) e

pub offer_no_end : (bytes : List ℕ) (o : Numbered (List ℕ)) (next : List ℕ) → IsOffer bytes o next → IsEnd bytes → ⊥
offer_no_end bytes o next a e =
    let head = a.head in
    let kind = a.kind in
    ⊎_elim (λ n. absurd (omega (arith, head, n))) (λ k. absurd (omega (arith, kind, k))) (end_is bytes e)

pub offer_no_fault : (bytes : List ℕ) (o : Numbered (List ℕ)) (next : List ℕ) (f : PeerFault) → IsOffer bytes o next → IsNoOffer bytes f → ⊥
offer_no_fault bytes o next (Kind k) a w = w.2 a.kind
offer_no_fault bytes o next (Length n) a w =
    let some = a.fits.some in
    let few = a.fits.few in
    let size = a.size in
    let is = w.2 in
    ⊎_elim (λ z. absurd (omega (arith, some, size, is, z))) (λ m. absurd (omega (arith, few, size, is, m))) w.3
offer_no_fault bytes o next Cut a w =
    let head = a.head in
    let enough = a.enough in
    ⊎_elim (λ z. absurd (omega (arith, head, z))) (λ m. let short = m.1 in absurd (omega (arith, enough, short))) w.2
offer_no_fault bytes o next (Above count) a w = w
offer_no_fault bytes o next TooManyHaves a w = w

pub end_no_fault : (bytes : List ℕ) (f : PeerFault) → IsEnd bytes → IsNoOffer bytes f → ⊥
end_no_fault bytes (Kind k) e w =
    let some = w.0 in
    ⊎_elim (λ n. absurd (omega (arith, some, n))) (λ three. w.3 three) (end_is bytes e)
end_no_fault bytes (Length n) e w =
    let kind = w.0 in
    let head = w.1 in
    ⊎_elim (λ z. absurd (omega (arith, head, z))) (λ three. absurd (omega (arith, kind, three))) (end_is bytes e)
end_no_fault bytes Cut e w =
    let some = w.0 in
    let kind = w.1 in
    ⊎_elim (λ z. absurd (omega (arith, some, z))) (λ three. absurd (omega (arith, kind, three))) (end_is bytes e)
end_no_fault bytes (Above count) e w = w
end_no_fault bytes TooManyHaves e w = w

length_and_cut : (bytes : List ℕ) (n : ℕ) → IsNoOffer bytes (Length n) → IsNoOffer bytes Cut → ⊥
length_and_cut bytes n w v =
    let head = w.1 in
    let is = w.2 in
    ⊎_elim (λ z. absurd (omega (arith, head, z)))
    (λ m. let some = m.0.some in let few = m.0.few in
    ⊎_elim (λ z. absurd (omega (arith, some, is, z))) (λ much. absurd (omega (arith, few, is, much))) w.3)
    v.2

pub one_offer_fault : (bytes : List ℕ) (f g : PeerFault) → IsNoOffer bytes f → IsNoOffer bytes g → f ≡ g
one_offer_fault bytes (Kind k) (Kind j) w v = ap Kind (w.1 ∙ sym v.1)
one_offer_fault bytes (Kind k) (Length n) w v = absurd (w.2 v.0)
one_offer_fault bytes (Kind k) Cut w v = absurd (w.2 v.1)
one_offer_fault bytes (Kind k) (Above count) w v = absurd v
one_offer_fault bytes (Kind k) TooManyHaves w v = absurd v
one_offer_fault bytes (Length n) (Kind k) w v = absurd (v.2 w.0)
one_offer_fault bytes (Length n) (Length m) w v = ap Length (w.2 ∙ sym v.2)
one_offer_fault bytes (Length n) Cut w v = absurd (length_and_cut bytes n w v)
one_offer_fault bytes (Length n) (Above count) w v = absurd v
one_offer_fault bytes (Length n) TooManyHaves w v = absurd v
one_offer_fault bytes Cut (Kind k) w v = absurd (v.2 w.1)
one_offer_fault bytes Cut (Length n) w v = absurd (length_and_cut bytes n v w)
one_offer_fault bytes Cut Cut w v = refl
one_offer_fault bytes Cut (Above count) w v = absurd v
one_offer_fault bytes Cut TooManyHaves w v = absurd v
one_offer_fault bytes (Above count) g w v = absurd w
one_offer_fault bytes TooManyHaves g w v = absurd w

pub one_have : (bytes : List ℕ) (n m : ℕ) (next after : List ℕ) → IsHave bytes n next → IsHave bytes m after → (n ≡ m) × (next ≡ after)
one_have bytes n m next after a b = (a.number ∙ sym b.number, a.follows ∙ sym b.follows)

pub have_no_fault : (bytes : List ℕ) (n : ℕ) (next : List ℕ) (f : PeerFault) → IsHave bytes n next → IsNoHave bytes f → ⊥
have_no_fault bytes n next (Kind k) a w = w.2 a.kind
have_no_fault bytes n next (Length m) a w = w
have_no_fault bytes n next Cut a w = let whole = a.whole in let few = w.0 in absurd (omega (arith, whole, few))
have_no_fault bytes n next (Above count) a w = w
have_no_fault bytes n next TooManyHaves a w = w

pub one_have_fault : (bytes : List ℕ) (f g : PeerFault) → IsNoHave bytes f → IsNoHave bytes g → f ≡ g
one_have_fault bytes (Kind k) (Kind j) w v = ap Kind (w.1 ∙ sym v.1)
one_have_fault bytes (Kind k) (Length n) w v = absurd v
one_have_fault bytes (Kind k) Cut w v = absurd (w.2 (v.1 w.0))
one_have_fault bytes (Kind k) (Above count) w v = absurd v
one_have_fault bytes (Kind k) TooManyHaves w v = absurd v
one_have_fault bytes (Length n) g w v = absurd w
one_have_fault bytes Cut (Kind k) w v = absurd (v.2 (w.1 v.0))
one_have_fault bytes Cut (Length n) w v = absurd v
one_have_fault bytes Cut Cut w v = refl
one_have_fault bytes Cut (Above count) w v = absurd v
one_have_fault bytes Cut TooManyHaves w v = absurd v
one_have_fault bytes (Above count) g w v = absurd w
one_have_fault bytes TooManyHaves g w v = absurd w

pub offer_is_read : (number : ℕ) (payload rest : List ℕ) → number < 2 ^ 64 → IsPayload payload → IsOffer (offer_text number payload ++ rest) (offer_of number payload) rest
offer_is_read number payload rest small fits =
    let whole : List ℕ = offer_text number payload ++ rest in
    let few = fits.few in
    let size : size_in whole ≡ length payload = from_be_bytes-to_be_bytes_4 (length payload) (omega (arith, few)) in
    let parts = length-append payload rest in
    let plain : 13 + length payload - 13 ≡ length payload = omega arith in
    record {
      kind = refl;
      head = omega arith;
      number = sym (from_be_bytes-to_be_bytes_8 number small);
      fits = fits;
      size = sym size;
      enough = omega (arith, size, parts);
      payload =
          sym
          (ap (λ (m : ℕ). slice_range whole 13 (13 + m)) size
          ∙ ap (λ (m : ℕ). take m (payload ++ rest)) plain
          ∙ take_at payload rest (length payload) refl);
      follows =
          sym
          (ap (λ (m : ℕ). drop (13 + m) whole) size
          ∙ sym (drop-drop (length payload) 13 whole)
          ∙ drop_at payload rest (length payload) refl);
    }

pub have_is_read : (count : ℕ) (rest : List ℕ) → count < 2 ^ 64 → IsHave (have_text count ++ rest) count rest
have_is_read count rest small =
    record {
      kind = refl;
      whole = omega arith;
      number = sym (from_be_bytes-to_be_bytes_8 count small);
      follows = refl;
    }
