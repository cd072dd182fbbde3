-- The sum of the greatest weights is that of free items that fill the test.
use Rattle.std.proofs.Common.{◌≡◌, ℕ, zero, suc, ◌+◌, ◌-◌, ◌<◌, ◌≤◌, min, Bool, true, false, not, cond, ◌&&◌, ◌||◌, nat_lt, List, inl, inr, refl, sym, ap, ◌∙◌, arith}
use Rattle.std.specs.Prelude.{ℤ, pos, neg_ℤ, ◌+ℤ◌, ◌*ℤ◌, ◌≤ℤ◌, int_le, int_lt}
use Rattle.std.proofs.lemmas.Int.{ints}
use Rattle.std.proofs.lemmas.Bool.{and_parts, and_from, lt-ltb, le-ltb, cases_lt}
use Rattle.std.proofs.Math.Bool.{true≢false}
use Rattle.bank_tables.specs.Items.{Set}
use Rattle.bank_tables.specs.Sums.{count_in, sum_in_z, total_z}
use Rattle.form_model.proofs.SumLaws.{either, or_true, or_false}
use Rattle.certificate_model.proofs.Greatest.{count_in-split, rest_of}
use Rattle.certificate_model.specs.Ranges.{IsWithin, at}
use Rattle.lagrange_bound.specs.Ranges.{item_top}
use Rattle.lagrange_bound.specs.Fills.{at_least, above, excess, no_weight}
use Rattle.lagrange_bound.proofs.Used.{not_true}

abbrev size_of : ℕ → Set → ℕ
size_of n X = count_in n X (λ _. true)

abbrev one : Bool → ℕ
one b = cond b 1 0

-- the first m members of a set
abbrev first_of : Set → ℕ → Set
first_of E m i = E i && nat_lt (size_of i E) m

first_count : (n : ℕ) (E : Set) (m : ℕ) → size_of n (first_of E m) ≡ min (size_of n E) m
first_count zero E m = omega arith
first_count (suc n) E m =
    elim (either (E n)) [
      | inl member ↦
          elim (cases_lt (size_of n E) m) [
            | inl low ↦ let e = lt-ltb (size_of n E) m low in rw (member, e) (omega (arith, first_count n E m))
            | inr high ↦ let e = le-ltb (size_of n E) m high in rw (member, e) (omega (arith, first_count n E m))
          ]
      | inr not_member ↦ rw not_member (omega (arith, first_count n E m))
    ]

module _ (n : ℕ) (F : Set) (w : ℕ → ℤ) (xs : List ℤ) (t : ℤ)
    (marked : (i : ℕ) → i < n → at xs i ≡ cond (F i) (w i) no_weight)
    (low : neg_ℤ (pos item_top) ≤ℤ t)
  where
    G : Set
    G i = F i && int_lt t (w i)

    A : Set
    A i = F i && int_le t (w i)

    E : Set
    E i = A i && not (G i)

    not_more : int_lt t no_weight ≡ false
    not_more = elim (either (int_lt t no_weight)) [ inl less ↦ absurd (omega (arith, ints)) | inr more ↦ more ]

    not_least : int_le t no_weight ≡ false
    not_least = elim (either (int_le t no_weight)) [ inl le ↦ absurd (omega (arith, ints)) | inr more ↦ more ]

    more_test : (f : Bool) (z x : ℤ) → x ≡ cond f z no_weight → (f && int_lt t z) ≡ int_lt t x
    more_test true z x e = rw e refl
    more_test false z x e = rw e (sym not_more)

    least_test : (f : Bool) (z x : ℤ) → x ≡ cond f z no_weight → (f && int_le t z) ≡ int_le t x
    least_test true z x e = rw e refl
    least_test false z x e = rw e (sym not_least)

    count_more : (m : ℕ) → m ≤ n → size_of m G ≡ above m xs t
    unfolding G
    count_more zero few = refl
    count_more (suc m) few = omega (arith, count_more m (omega arith), ap one (more_test (F m) (w m) (at xs m) (marked m (omega arith))))

    count_least : (m : ℕ) → m ≤ n → size_of m A ≡ at_least m xs t
    unfolding A
    count_least zero few = refl
    count_least (suc m) few = omega (arith, count_least m (omega arith), ap one (least_test (F m) (w m) (at xs m) (marked m (omega arith))))

    more_is_least : (i : ℕ) → G i ≡ true → A i ≡ true
    unfolding G A
    more_is_least i h =
        let parts = and_parts (F i) (int_lt t (w i)) h in
        and_from _ _ parts.0 (elim (either (int_le t (w i))) [ inl le ↦ le | inr no_le ↦ absurd (omega (arith, ints, parts.1)) ])

    split : size_of n A ≡ size_of n G + size_of n E
    unfolding E
    split = count_in-split n A G E (λ i below. rest_of (G i) (A i) (more_is_least i))

    module _ (k : ℕ) (few : above n xs t ≤ k) (enough : k ≤ at_least n xs t) where
      S : Set
      S = first_of E (k - above n xs t)

      pub T : Set
      T i = G i || S i

      apart : (i : ℕ) → (G i && S i) ≡ false
      unfolding S E
      apart i = elim (either (G i)) [ inl in_G ↦ rw in_G (none (A i)) | inr not_G ↦ rw not_G refl ]
        where
          none : (a : Bool) → ((a && false) && nat_lt (size_of i E) (k - above n xs t)) ≡ false
          none true = refl
          none false = refl

      pub number : size_of n T ≡ k
      unfolding T S
      number =
          let both = count_in-split n T G S (λ i below. (refl, apart i)) in
          omega (arith, first_count n E (k - above n xs t), split, count_more n (omega arith), count_least n (omega arith))

      of_E : (i : ℕ) → S i ≡ true → (A i ≡ true) × (G i ≡ false)
      unfolding S E
      of_E i h =
          let parts = and_parts (A i) (not (G i)) (and_parts (A i && not (G i)) _ h).0 in
          (parts.0, not_true (G i) parts.1)

      pub free : (i : ℕ) → T i ≡ true → F i ≡ true
      unfolding T G A
      free i h =
          elim (or_true (G i) (S i) h) [
            | inl in_G ↦ (and_parts (F i) (int_lt t (w i)) in_G).0
            | inr in_S ↦ (and_parts (F i) (int_le t (w i)) (of_E i in_S).0).0
          ]

      pub high : (i : ℕ) → T i ≡ true → t ≤ℤ w i
      unfolding T G A
      high i h =
          elim (or_true (G i) (S i) h) [
            | inl in_G ↦ let more = (and_parts (F i) (int_lt t (w i)) in_G).1 in omega (arith, ints)
            | inr in_S ↦ let le = (and_parts (F i) (int_le t (w i)) (of_E i in_S).0).1 in omega (arith, ints)
          ]

      pub others : (i : ℕ) → F i ≡ true → T i ≡ false → w i ≤ℤ t
      unfolding T G
      others i free not_T =
          let not_G = (or_false (G i) (S i) not_T).0 in
          elim (either (int_lt t (w i))) [
            | inl more ↦ absurd (true≢false (sym (and_from (F i) (int_lt t (w i)) free more) ∙ not_G))
            | inr no_more ↦ omega (arith, ints)
          ]

      g_parts : (i : ℕ) → G i ≡ true → (F i ≡ true) × (int_lt t (w i) ≡ true)
      unfolding G
      g_parts i h = and_parts (F i) (int_lt t (w i)) h

      g_is : (i : ℕ) → G i ≡ false → (F i && int_lt t (w i)) ≡ false
      unfolding G
      g_is i h = h

      or_in : (i : ℕ) → S i ≡ true → T i ≡ true
      unfolding T
      or_in i h = elim (either (G i)) [ inl in_G ↦ rw in_G refl | inr not_G ↦ rw not_G h ]

      s_low : (i : ℕ) → S i ≡ true → w i ≤ℤ t
      unfolding G A
      s_low i h =
          let parts = of_E i h in
          let free = (and_parts (F i) (int_le t (w i)) parts.0).0 in
          elim (either (int_lt t (w i))) [
            | inl more ↦ absurd (true≢false (sym (and_from (F i) (int_lt t (w i)) free more) ∙ parts.1))
            | inr no_more ↦ omega (arith, ints)
          ]

      term : (i : ℕ) → i < n → cond (T i) (w i) (pos 0) ≡ cond (T i) t (pos 0) +ℤ excess t (at xs i)
      unfolding T
      term i below =
          let shown : at xs i ≡ cond (F i) (w i) no_weight = marked i below in
          elim (either (G i)) [
            | inl in_G ↦
                let parts = g_parts i in_G in
                let same : at xs i ≡ w i = shown ∙ rw parts.0 refl in
                let more : int_lt t (at xs i) ≡ true = rw same parts.1 in
                rw (in_G, more) (omega (arith, ints))
            | inr not_G ↦
                let no_more : int_lt t (at xs i) ≡ false = sym (more_test (F i) (w i) (at xs i) shown) ∙ g_is i not_G in
                elim (either (S i)) [
                  | inl in_S ↦
                      let le : t ≤ℤ w i = high i (or_in i in_S) in
                      let ge : w i ≤ℤ t = s_low i in_S in
                      rw (not_G, in_S, no_more) (omega (arith, ints))
                  | inr not_S ↦ rw (not_G, not_S, no_more) (omega (arith, ints))
                ]
          ]

      sum_below : (m : ℕ) → m ≤ n → sum_in_z m T w ≡ (pos (size_of m T) *ℤ t) +ℤ total_z m (λ i. excess t (at xs i))
      sum_below zero small = omega (arith, ints)
      sum_below (suc m) small =
          let rest = sum_below m (omega arith) in
          let last = term m (omega arith) in
          elim (either (T m)) [
            | inl in_T ↦ let shown : w m ≡ t +ℤ excess t (at xs m) = rw in_T at last in rw in_T (omega (arith, ints))
            | inr not_T ↦ let shown : pos 0 ≡ pos 0 +ℤ excess t (at xs m) = rw not_T at last in rw not_T (omega (arith, ints))
          ]

      pub sum_is : sum_in_z n T w ≡ (pos k *ℤ t) +ℤ total_z n (λ i. excess t (at xs i))
      sum_is = sum_below n (omega arith) ∙ ap (λ (m : ℕ). (pos m *ℤ t) +ℤ total_z n (λ i. excess t (at xs i))) number

    -- each free item counts from the least weight on
    pub all_free : ((i : ℕ) → i < n → IsWithin item_top (w i)) → (m : ℕ) → m ≤ n → size_of m F ≡ at_least m xs (neg_ℤ (pos item_top))
    all_free within zero few = refl
    all_free within (suc m) few = omega (arith, all_free within m (omega arith), ap one (kept (F m) (w m) (at xs m) (marked m (omega arith)) (within m (omega arith))))
      where
        kept : (f : Bool) (z x : ℤ) → x ≡ cond f z no_weight → IsWithin item_top z → f ≡ int_le (neg_ℤ (pos item_top)) x
        kept true z x e range = elim (either (int_le (neg_ℤ (pos item_top)) x)) [ inl le ↦ sym le | inr no_le ↦ absurd (omega (arith, ints, range.low)) ]
        kept false z x e range = elim (either (int_le (neg_ℤ (pos item_top)) x)) [ inl le ↦ absurd (omega (arith, ints)) | inr no_le ↦ sym no_le ]
