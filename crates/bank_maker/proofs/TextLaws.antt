-- How a text is put together, line by line and field by field.
use Rattle.std.proofs.Common.{◌≡◌, ℕ, zero, suc, ◌<◌, ◌+◌, ◌-◌, pos, neg_ℤ, List, [], ◌∷◌, ◌++◌, map, codes, refl, sym, ap, ◌∙◌, append_assoc, ℤ, arith}
use Rattle.std.proofs.lemmas.List.{map-append, append-nil}
use Rattle.std.proofs.lemmas.List.Folds.{flat_map-map}
use Rattle.std.proofs.lemmas.List.FromFn.{map-range_with_len_more}
use Rattle.std.proofs.lemmas.Grind.{flat_map-append}
use Rattle.std.specs.List.{flat_map, range_with_len}
use Rattle.std.specs.Fmt.{decimal, signed_decimal}
use Rattle.bank_maker.specs.declared.item.DrawnItem.{DrawnItem}
use Rattle.bank_maker.specs.Items.{information, wrong, right, points, stimulus_of}
use Rattle.bank_maker.specs.Banks.{shape, header, item_text}
use Rattle.bank_reader.specs.Columns.{width, name_of, quantity_name, point_name, loglik_name}

-- ---- one more

abbrev itself : ℕ → ℕ
itself i = i

same_range : {A : Type 0} (f : ℕ → List A) (xs : List ℕ) → flat_map f (map itself xs) ≡ flat_map f xs
same_range f xs = flat_map-map f itself xs

one_more : {A : Type 0} (f : ℕ → List A) (a n j : ℕ) → a + n ≡ j → flat_map f (range_with_len a (n + 1)) ≡ flat_map f (range_with_len a n) ++ f j
one_more {A} f a n j e =
    sym (same_range f (range_with_len a (n + 1)))
    ∙ ap (λ (xs : List ℕ). flat_map f xs) (map-range_with_len_more itself a n j e)
    ∙ flat_map-append f (map itself (range_with_len a n)) (j ∷ [])
    ∙ ap (λ (front : List A). front ++ (f j ++ [])) (same_range f (range_with_len a n))
    ∙ ap (λ (back : List A). flat_map f (range_with_len a n) ++ back) (append-nil (f j))

-- a piece that is written after those before it
pub step : {A : Type 0} (f : ℕ → List A) (a n j m : ℕ) (old was now : List A) → a + n ≡ j → m ≡ n + 1
    → was ≡ old ++ flat_map f (range_with_len a n) → now ≡ was ++ f j → now ≡ old ++ flat_map f (range_with_len a m)
step f a n j m old was now e k h g = rw (g, h, k, one_more f a n j e) (append_assoc old (flat_map f (range_with_len a n)) (f j))

-- the same of a list whose pieces are single
pub step_map : {A : Type 0} (f : ℕ → A) (a n j m : ℕ) (old was now : List A) → a + n ≡ j → m ≡ n + 1
    → was ≡ old ++ map f (range_with_len a n) → now ≡ was ++ f j ∷ [] → now ≡ old ++ map f (range_with_len a m)
step_map f a n j m old was now e k h g = rw (g, h, k, map-range_with_len_more f a n j e) (append_assoc old (map f (range_with_len a n)) (f j ∷ []))

-- ---- a record

-- a number below 0 is a minus and how far it is from it
pub below_zero : (n : ℕ) → 0 < n → signed_decimal (neg_ℤ (pos n)) ≡ 45 ∷ decimal n
below_zero zero h = absurd (omega arith)
below_zero (suc n) h = refl

abbrev comma : List ℕ → List ℕ
comma field = 44 ∷ field

numbers : (f : ℕ → ℕ) (ps : List ℕ) → flat_map comma (map decimal (map f ps)) ≡ flat_map (λ g. 44 ∷ decimal (f g)) ps
numbers f ps = flat_map-map comma decimal (map f ps) ∙ flat_map-map (λ n. 44 ∷ decimal n) f ps

signeds : (f : ℕ → ℤ) (ps : List ℕ) → flat_map comma (map signed_decimal (map f ps)) ≡ flat_map (λ g. 44 ∷ signed_decimal (f g)) ps
signeds f ps = flat_map-map comma signed_decimal (map f ps) ∙ flat_map-map (λ n. 44 ∷ signed_decimal n) f ps

-- the log-likelihoods of both responses
both : (w r : ℕ → ℤ) (ps : List ℕ) → flat_map comma (map signed_decimal (map w ps ++ map r ps)) ≡ flat_map (λ g. 44 ∷ signed_decimal (w g)) ps ++ flat_map (λ g. 44 ∷ signed_decimal (r g)) ps
both w r ps =
    ap (λ (xs : List (List ℕ)). flat_map comma xs) (map-append signed_decimal (map w ps) (map r ps))
    ∙ flat_map-append comma (map signed_decimal (map w ps)) (map signed_decimal (map r ps))
    ∙ (rw (signeds w ps, signeds r ps) refl)

-- the information, and then the log-likelihoods
tables : (f : ℕ → ℕ) (w r : ℕ → ℤ) (ps : List ℕ)
    → flat_map comma (map decimal (map f ps) ++ map signed_decimal (map w ps ++ map r ps))
    ≡ flat_map (λ g. 44 ∷ decimal (f g)) ps ++ (flat_map (λ g. 44 ∷ signed_decimal (w g)) ps ++ flat_map (λ g. 44 ∷ signed_decimal (r g)) ps)
tables f w r ps =
    flat_map-append comma (map decimal (map f ps)) (map signed_decimal (map w ps ++ map r ps))
    ∙ (rw (numbers f ps, both w r ps) refl)

line : (out a b c d F W R t : List ℕ)
    → (((((((out ++ a) ++ b) ++ c) ++ d) ++ F) ++ W) ++ R) ++ t
    ≡ out ++ (a ++ ((b ++ (c ++ (d ++ (F ++ (W ++ R))))) ++ t))
line out a b c d F W R t = simp append_assoc

item_line : (out : List ℕ) (i : ℕ) (x : DrawnItem)
    → (((((((out ++ decimal i) ++ 44 ∷ decimal (stimulus_of i)) ++ 44 ∷ decimal 2) ++ 44 ∷ decimal x.quantity) ++ flat_map (λ g. 44 ∷ decimal (information x g)) points) ++ flat_map (λ g. 44 ∷ signed_decimal (wrong x g)) points) ++ flat_map (λ g. 44 ∷ signed_decimal (right x g)) points) ++ 10 ∷ []
    ≡ out ++ item_text i x
unfolding item_text
item_line out i x =
    line out (decimal i) (44 ∷ decimal (stimulus_of i)) (44 ∷ decimal 2) (44 ∷ decimal x.quantity) (flat_map (λ g. 44 ∷ decimal (information x g)) points) (flat_map (λ g. 44 ∷ signed_decimal (wrong x g)) points) (flat_map (λ g. 44 ∷ signed_decimal (right x g)) points) (10 ∷ [])
    ∙ ap (λ (rest : List ℕ). out ++ (decimal i ++ (((44 ∷ decimal (stimulus_of i)) ++ ((44 ∷ decimal 2) ++ ((44 ∷ decimal x.quantity) ++ rest))) ++ 10 ∷ []))) (sym (tables (information x) (wrong x) (right x) points))

-- the text that the fields were written to, one after the other
pub item_from : (out : List ℕ) (i : ℕ) (x : DrawnItem) (s q : ℕ) (o1 o2 o3 o4 o5 o6 o7 o8 : List ℕ)
    → s ≡ stimulus_of i → q ≡ x.quantity
    → o1 ≡ out ++ decimal i → o2 ≡ o1 ++ 44 ∷ decimal s → o3 ≡ o2 ++ 44 ∷ decimal 2 → o4 ≡ o3 ++ 44 ∷ decimal q
    → o5 ≡ o4 ++ flat_map (λ g. 44 ∷ decimal (information x g)) points
    → o6 ≡ o5 ++ flat_map (λ g. 44 ∷ signed_decimal (wrong x g)) points
    → o7 ≡ o6 ++ flat_map (λ g. 44 ∷ signed_decimal (right x g)) points
    → o8 ≡ o7 ++ 10 ∷ []
    → o8 ≡ out ++ item_text i x
item_from out i x s q o1 o2 o3 o4 o5 o6 o7 o8 es eq e1 e2 e3 e4 e5 e6 e7 e8 = rw (e8, e7, e6, e5, e4, e3, e2, e1, es, eq) (item_line out i x)

-- ---- the header

-- the first names, and the names of each group of columns
names : map (name_of shape) (range_with_len 1 (width shape - 1)) ≡ (codes "stimulus" ∷ codes "categories" ∷ quantity_name 0 ∷ []) ++ (map point_name points ++ (map (loglik_name 0) points ++ map (loglik_name 1) points))
unfolding points
names = refl

abbrev Info : List ℕ
Info = flat_map (λ g. codes ",i" ++ decimal g) points

abbrev Wrong : List ℕ
Wrong = flat_map (λ g. codes ",l0_" ++ decimal g) points

abbrev Right : List ℕ
Right = flat_map (λ g. codes ",l1_" ++ decimal g) points

groups : flat_map comma (map point_name points ++ (map (loglik_name 0) points ++ map (loglik_name 1) points)) ≡ Info ++ (Wrong ++ Right)
groups =
    flat_map-append comma (map point_name points) (map (loglik_name 0) points ++ map (loglik_name 1) points)
    ∙ ap (λ (front : List ℕ). front ++ flat_map comma (map (loglik_name 0) points ++ map (loglik_name 1) points)) (flat_map-map comma point_name points)
    ∙ ap (λ (back : List ℕ). Info ++ back) (flat_map-append comma (map (loglik_name 0) points) (map (loglik_name 1) points))
    ∙ ap (λ (front : List ℕ). Info ++ (front ++ flat_map comma (map (loglik_name 1) points))) (flat_map-map comma (loglik_name 0) points)
    ∙ ap (λ (back : List ℕ). Info ++ (Wrong ++ back)) (flat_map-map comma (loglik_name 1) points)

header_fields : flat_map comma (map (name_of shape) (range_with_len 1 (width shape - 1))) ≡ (codes ",stimulus,categories,q" ++ decimal 0) ++ (Info ++ (Wrong ++ Right))
header_fields =
    ap (λ (xs : List (List ℕ)). flat_map comma xs) names
    ∙ flat_map-append comma (codes "stimulus" ∷ codes "categories" ∷ quantity_name 0 ∷ []) (map point_name points ++ (map (loglik_name 0) points ++ map (loglik_name 1) points))
    ∙ ap (λ (back : List ℕ). flat_map comma (codes "stimulus" ∷ codes "categories" ∷ quantity_name 0 ∷ []) ++ back) groups
    ∙ ap (λ (front : List ℕ). (codes ",stimulus,categories,q" ++ front) ++ (Info ++ (Wrong ++ Right))) (append-nil (decimal 0))

header_line : (out a b c d e t : List ℕ) → ((((out ++ (a ++ b)) ++ c) ++ d) ++ e) ++ t ≡ out ++ (a ++ ((b ++ (c ++ (d ++ e))) ++ t))
header_line out a b c d e t = simp append_assoc

header_text : (out : List ℕ) → ((((out ++ (codes "item,stimulus,categories,q" ++ decimal 0)) ++ Info) ++ Wrong) ++ Right) ++ 10 ∷ [] ≡ out ++ header
unfolding header
header_text out =
    header_line out (codes "item") (codes ",stimulus,categories,q" ++ decimal 0) Info Wrong Right (10 ∷ [])
    ∙ ap (λ (fields : List ℕ). out ++ (codes "item" ++ (fields ++ 10 ∷ []))) (sym header_fields)

-- the text that the names were written to, one after the other
pub header_from : (out o1 o2 o3 o4 o5 : List ℕ)
    → o1 ≡ out ++ (codes "item,stimulus,categories,q" ++ decimal 0)
    → o2 ≡ o1 ++ flat_map (λ g. codes ",i" ++ decimal g) points
    → o3 ≡ o2 ++ flat_map (λ g. codes ",l0_" ++ decimal g) points
    → o4 ≡ o3 ++ flat_map (λ g. codes ",l1_" ++ decimal g) points
    → o5 ≡ o4 ++ 10 ∷ []
    → o5 ≡ out ++ header
header_from out o1 o2 o3 o4 o5 e1 e2 e3 e4 e5 = rw (e5, e4, e3, e2, e1) (header_text out)
