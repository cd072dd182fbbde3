-- A message at the front of what is kept is one at the front of the whole.
use Rattle.std.proofs.Common.{◌≡◌, ℕ, ◌+◌, ◌-◌, ◌<◌, ◌≤◌, List, ◌++◌, length, take, drop, get_or, refl, sym, ap, ◌∙◌, subst, arith, length-append, length-drop}
use Rattle.std.specs.Prelude.{slice_range}
use Rattle.std.proofs.lemmas.List.{get_or_append_left, take-append-le, drop-append-le, length-take-le}
use Rattle.record_links.specs.Messages.{kind_in, number_in, size_in, offer_of, IsOffer, IsHave}

number_more : (xs ys : List ℕ) → 9 ≤ length xs → number_in (xs ++ ys) ≡ number_in xs
number_more xs ys h =
    let g : (k : ℕ) → k < 9 → get_or (xs ++ ys) k 0 ≡ get_or xs k 0 = λ k b. get_or_append_left xs ys 0 k (omega arith) in
    rw (g 1 (omega arith), g 2 (omega arith), g 3 (omega arith), g 4 (omega arith), g 5 (omega arith), g 6 (omega arith), g 7 (omega arith), g 8 (omega arith)) refl

size_more : (xs ys : List ℕ) → 13 ≤ length xs → size_in (xs ++ ys) ≡ size_in xs
size_more xs ys h =
    let g : (k : ℕ) → k < 13 → get_or (xs ++ ys) k 0 ≡ get_or xs k 0 = λ k b. get_or_append_left xs ys 0 k (omega arith) in
    rw (g 9 (omega arith), g 10 (omega arith), g 11 (omega arith), g 12 (omega arith)) refl

kind_more : (xs ys : List ℕ) → 1 ≤ length xs → kind_in (xs ++ ys) ≡ kind_in xs
kind_more xs ys h = get_or_append_left xs ys 0 0 (omega arith)

range_more : (xs ys : List ℕ) (a n : ℕ) → a + n ≤ length xs → slice_range (xs ++ ys) a (a + n) ≡ slice_range xs a (a + n)
range_more xs ys a n h =
    let size : a + n - a ≡ n = omega arith in
    let k = length-drop a xs in
    let enough : n ≤ length (drop a xs) = omega (arith, k, h) in
    ap (λ m. take m (drop a (xs ++ ys))) size
    ∙ (ap (λ l. take n l) (drop-append-le a xs ys (omega (arith, h))) ∙ (take-append-le n (drop a xs) ys enough ∙ ap (λ m. take m (drop a xs)) (sym size)))

length_range : (xs : List ℕ) (a n : ℕ) → a + n ≤ length xs → length (slice_range xs a (a + n)) ≡ n
length_range xs a n h =
    let size : a + n - a ≡ n = omega arith in
    let k = length-drop a xs in
    ap (λ m. length (take m (drop a xs))) size ∙ length-take-le n (drop a xs) (omega (arith, k, h))

kind_whole : (whole K L : List ℕ) (k : ℕ) → K ++ L ≡ whole → 1 ≤ length K → kind_in K ≡ k → kind_in whole ≡ k
kind_whole whole K L k e some is = subst (λ l. kind_in l ≡ k) e (kind_more K L some ∙ is)

long_whole : (whole K L : List ℕ) (n : ℕ) → K ++ L ≡ whole → n ≤ length K → n ≤ length whole
long_whole whole K L n e h = subst (λ l. n ≤ length l) e (let l = length-append K L in omega (arith, l, h))

pub have_here : (whole K1 L1 K2 L2 K3 : List ℕ) (count : ℕ) → K1 ++ L1 ≡ whole → K2 ++ L2 ≡ whole → 1 ≤ length K1 → kind_in K1 ≡ 2 → 9 ≤ length K2
    → count ≡ number_in K2 → K3 ≡ drop 9 K2 → IsHave whole count (K3 ++ L2)
have_here whole K1 L1 K2 L2 K3 count e1 e2 some kind long count_is rest =
    record {
      kind = kind_whole whole K1 L1 2 e1 some kind;
      whole = long_whole whole K2 L2 9 e2 long;
      number = count_is ∙ sym (subst (λ l. number_in l ≡ number_in K2) e2 (number_more K2 L2 long));
      follows = ap (λ l. l ++ L2) rest ∙ (sym (drop-append-le 9 K2 L2 long) ∙ ap (λ l. drop 9 l) e2);
    }

pub offer_here : (whole K1 L1 K2 L2 K3 L3 : List ℕ) (size number : ℕ) (payload K4 : List ℕ) → K1 ++ L1 ≡ whole → K2 ++ L2 ≡ whole → K3 ++ L3 ≡ whole
    → 1 ≤ length K1 → kind_in K1 ≡ 1 → 13 ≤ length K2 → size ≡ size_in K2 → number ≡ number_in K2 → 1 ≤ size → size ≤ 131072 → 13 + size ≤ length K3
    → payload ≡ slice_range K3 13 (13 + size) → K4 ≡ drop (13 + size) K3 → IsOffer whole (offer_of number payload) (K4 ++ L3)
offer_here whole K1 L1 K2 L2 K3 L3 size number payload K4 e1 e2 e3 some kind head size_is number_is least most enough payload_is rest =
    let long : length payload ≡ size = ap (λ (l : List ℕ). length l) payload_is ∙ length_range K3 13 size enough in
    let same : size_in whole ≡ size = subst (λ l. size_in l ≡ size) e2 (size_more K2 L2 head ∙ sym size_is) in
    let l3 = length-append K3 L3 in
    let n3 : length (K3 ++ L3) ≡ length whole = ap (λ (l : List ℕ). length l) e3 in
    let nine : 9 ≤ length K2 = omega (arith, head) in
    record {
      kind = kind_whole whole K1 L1 1 e1 some kind;
      head = long_whole whole K2 L2 13 e2 head;
      number = number_is ∙ sym (subst (λ l. number_in l ≡ number_in K2) e2 (number_more K2 L2 nine));
      fits = record { some = omega (arith, long, least); few = omega (arith, long, most) };
      size = long ∙ sym same;
      enough = omega (arith, same, enough, l3, n3);
      payload = payload_is ∙ (sym (range_more K3 L3 13 size enough) ∙ (ap (λ l. slice_range l 13 (13 + size)) e3 ∙ ap (λ n. slice_range whole 13 (13 + n)) (sym same)));
      follows = ap (λ l. l ++ L3) rest ∙ (sym (drop-append-le (13 + size) K3 L3 enough) ∙ (ap (λ l. drop (13 + size) l) e3 ∙ ap (λ n. drop (13 + n) whole) (sym same)));
    }
