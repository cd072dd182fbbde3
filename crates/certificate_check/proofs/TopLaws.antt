-- The items of greatest weight, one after another.
use Rattle.std.proofs.Common.{◌≡◌, ◌≢◌, ℕ, zero, suc, ◌+◌, ◌*◌, ◌/◌, ◌≤◌, ◌<◌, ◌⊎◌, inl, inr, Bool, true, false, ◌||◌, ◌==◌, List, length, get_or, set, Some, None, refl, sym, ap, ◌∙◌, subst, arith}
use Rattle.std.specs.Prelude.{◌≤ℤ◌, ℤ, pos, int_le, Option, IfSome}
use Rattle.std.proofs.lemmas.Bool.{eqb-true, eq-eqb, cases_lt, cases_eq}
use Rattle.std.proofs.lemmas.Bool.Decides.{eqb_tells}
use Rattle.std.proofs.lemmas.List.{length-set, get_or-set_same, get_or-set_other, get_or_past}
use Rattle.std.proofs.lemmas.Int.{ints}
use Rattle.std.proofs.Math.Bool.{true≢false}
use Rattle.bank_tables.specs.Items.{Set}
use Rattle.bank_tables.specs.Sums.{sum_in, count_in}
use Rattle.form_model.proofs.SumLaws.{either, or_true, or_false, or_right, sum_in-le}
use Rattle.certificate_model.specs.Ranges.{at}
use Rattle.certificate_check.specs.Tops.{IsBest, AreLeaders, IsNextBest, IsTopOf}

sum_in-same : (n : ℕ) (X Y : Set) (f : ℕ → ℕ) → ((i : ℕ) → i < n → X i ≡ Y i) → sum_in n X f ≡ sum_in n Y f
sum_in-same zero X Y f h = refl
sum_in-same (suc n) X Y f h = rw (sum_in-same n X Y f (λ i w. h i (omega arith)), h n (omega arith)) refl

count_none : (n : ℕ) (X : Set) → ((i : ℕ) → X i ≡ false) → count_in n X (λ _. true) ≡ 0
count_none zero X h = refl
count_none (suc n) X h = rw (count_none n X h, h n) refl

other : (i b : ℕ) (x : Bool) → i ≢ b → (i == b || x) ≡ x
other i b x ne = elim (eqb_tells i b) [ inl (e, same) ↦ absurd (ne same) | inr (e, differs) ↦ rw e refl ]

last_or_before : (i n : ℕ) → i < suc n → (i < n) ⊎ (i ≡ n)
last_or_before i n h = grind arith

pub count_with : (n b : ℕ) (T T' : Set) → b < n → T b ≡ false → ((i : ℕ) → T' i ≡ (i == b || T i)) → count_in n T' (λ _. true) ≡ count_in n T (λ _. true) + 1
count_with zero b T T' w out e = absurd (omega arith)
count_with (suc n) b T T' w out e =
    elim (last_or_before b n w) [
      | inl before ↦
          let ne : n ≢ b = omega arith in
          rw (e n, other n b (T n) ne) (omega (arith, count_with n b T T' before out e))
      | inr last ↦
          let same = sum_in-same n T' T (λ _. 1) (λ i w. e i ∙ other i b (T i) (omega arith)) in
          let here : T' n ≡ true = e n ∙ rw (eq-eqb n b (sym last)) refl in
          let out_n : T n ≡ false = ap T (sym last) ∙ out in
          rw (here, out_n) (omega arith)
    ]

pub empty_top : (n : ℕ) (xs : List ℤ) (F T : Set) → ((i : ℕ) → T i ≡ false) → IsTopOf n xs F 0 T
empty_top n xs F T none =
    record {
      below = λ i e. absurd (true≢false (sym e ∙ none i));
      within = λ i e. absurd (true≢false (sym e ∙ none i));
      number = count_none n T none;
      greatest = λ i j e w f g. absurd (true≢false (sym e ∙ none i));
    }

pub more_top : (n : ℕ) (xs : List ℤ) (F T T' : Set) (r b : ℕ) → IsTopOf n xs F r T → IsNextBest n xs F T (Some b) → ((i : ℕ) → T' i ≡ (i == b || T i)) → IsTopOf n xs F (r + 1) T'
more_top n xs F T T' r b top next e =
    record {
      below = λ i h. elim (or_true (i == b) (T i) (sym (e i) ∙ h)) [ inl new ↦ subst (λ (k : ℕ). k < n) (sym (eqb-true i b new)) next.0 | inr old ↦ top.below i old ];
      within = λ i h. elim (or_true (i == b) (T i) (sym (e i) ∙ h)) [ inl new ↦ ap F (eqb-true i b new) ∙ next.1 | inr old ↦ top.within i old ];
      number = count_with n b T T' next.0 next.2 e ∙ ap (λ (k : ℕ). k + 1) top.number;
      greatest = λ i j h w f g.
          let out = (or_false (j == b) (T j) (sym (e j) ∙ g)).1 in
          elim (or_true (i == b) (T i) (sym (e i) ∙ h)) [
            | inl new ↦ subst (λ (k : ℕ). at xs j ≤ℤ at xs k) (sym (eqb-true i b new)) (next.3 j w f out)
            | inr old ↦ top.greatest i j old w f out
          ];
    }

pub none_left : (n : ℕ) (xs : List ℤ) (F T : Set) (r k : ℕ) → IsTopOf n xs F r T → IsNextBest n xs F T None → r < k → k ≤ count_in n F (λ _. true) → ⊥
none_left n xs F T r k top none w enough = omega (arith, sum_in-le n F T (λ _. 1) none, top.number)

-- a write keeps what holds of the numbers before it
pub written : (P : ℕ → ℤ → Type 0) (xs : List ℤ) (n : ℕ) (x : ℤ) → n < length xs → ((k : ℕ) → k < n → P k (at xs k)) → P n x → (k : ℕ) → k < n + 1 → P k (at (set xs n x) k)
written P xs n x within before here k w =
    elim (cases_lt k n) [
      | inl low ↦ let ne : k ≢ n = omega arith in subst (P k) (sym (get_or-set_other xs n k x (pos 0) ne)) (before k low)
      | inr high ↦
          let e : n ≡ k = omega arith in
          subst (λ (j : ℕ). P j (at (set xs n x) j)) e (subst (P n) (sym (get_or-set_same xs n x (pos 0) within)) here)
    ]

-- ---- leaders of blocks
pub leader_written : (P : ℕ → Option ℕ → Type 0) (xs : List (Option ℕ)) (n : ℕ) (x : Option ℕ) → n < length xs → ((k : ℕ) → k < n → P k (get_or xs k None)) → P n x → (k : ℕ) → k < n + 1 → P k (get_or (set xs n x) k None)
leader_written P xs n x within before here k w =
    elim (cases_lt k n) [
      | inl low ↦ let ne : k ≢ n = omega arith in subst (P k) (sym (get_or-set_other xs n k x None ne)) (before k low)
      | inr high ↦
          let e : n ≡ k = omega arith in
          subst (λ (j : ℕ). P j (get_or (set xs n x) j None)) e (subst (P n) (sym (get_or-set_same xs n x None within)) here)
    ]

item_small : (from to n : ℕ) (xs : List ℤ) (F T : Set) (o : Option ℕ) → n ≤ 512 → IsBest from to n xs F T o → IfSome o (λ i. i < 512)
item_small from to n xs F T None few best = tt
item_small from to n xs F T (Some i) few best = omega (arith, best.2)

pub leaders_small : (n : ℕ) (xs : List ℤ) (F T : Set) (leaders : List (Option ℕ)) → n ≤ 512 → AreLeaders n xs F T leaders → (b : ℕ) → IfSome (get_or leaders b None) (λ i. i < 512)
leaders_small n xs F T leaders few are b =
    elim (cases_lt b 32) [
      | inl low ↦ item_small (16 * b) (16 * b + 16) n xs F T (get_or leaders b None) few (are.best b low)
      | inr high ↦ subst (λ (o : Option ℕ). IfSome o (λ i. i < 512)) (sym (get_or_past leaders b None (omega (arith, are.number)))) tt
    ]

-- what is best stays so when a number elsewhere is put into T
kept : (from to n : ℕ) (xs : List ℤ) (F T T' : Set) (b : ℕ) (o : Option ℕ) → (b < from) ⊎ (to ≤ b) → ((i : ℕ) → T' i ≡ (i == b || T i)) → IsBest from to n xs F T o → IsBest from to n xs F T' o
kept from to n xs F T T' b None elsewhere e best = λ i low high w f. e i ∙ or_right (i == b) (T i) (best i low high w f)
kept from to n xs F T T' b (Some m) elsewhere e best =
    let ne : m ≢ b = elim elsewhere [ inl before ↦ omega (arith, best.0) | inr behind ↦ omega (arith, best.1) ] in (
      best.0,
      best.1,
      best.2,
      best.3,
      e m ∙ other m b (T m) ne ∙ best.4,
      λ j low high w f out. best.5 j low high w f (or_false (j == b) (T j) (sym (e j) ∙ out)).1,
    )

-- where one is put into T, the leader of its block alone is sought again
pub leaders_with : (n : ℕ) (xs : List ℤ) (F T T' : Set) (leaders : List (Option ℕ)) (b block : ℕ) (o : Option ℕ) → block ≡ b / 16 → b < 512 → ((i : ℕ) → T' i ≡ (i == b || T i)) → AreLeaders n xs F T leaders → IsBest (16 * block) (16 * block + 16) n xs F T' o → AreLeaders n xs F T' (set leaders block o)
leaders_with n xs F T T' leaders b block o at_block small e are best =
    record {
      number = length-set leaders block o ∙ are.number;
      best =
          λ k w.
          elim (cases_eq k block) [
            | inl same ↦
                subst (λ (j : ℕ). IsBest (16 * j) (16 * j + 16) n xs F T' (get_or (set leaders block o) j None)) (sym same)
                (subst (IsBest (16 * block) (16 * block + 16) n xs F T') (sym (get_or-set_same leaders block o None (omega (arith, are.number)))) best)
            | inr ne ↦
                subst (IsBest (16 * k) (16 * k + 16) n xs F T') (sym (get_or-set_other leaders block k o None ne)) (kept (16 * k) (16 * k + 16) n xs F T T' b (get_or leaders k None) (elsewhere k ne) e (are.best k w))
          ];
    }
  where
    elsewhere : (k : ℕ) → k ≢ block → (b < 16 * k) ⊎ (16 * k + 16 ≤ b)
    elsewhere k ne = elim (cases_lt b (16 * k)) [ inl before ↦ inl before | inr behind ↦ inr (omega arith) ]

-- what is best of more numbers than n is best of those below n
pub next_from : (n to : ℕ) (xs : List ℤ) (F T : Set) (o : Option ℕ) → n ≤ to → IsBest 0 to n xs F T o → IsNextBest n xs F T o
next_from n to xs F T None long best = λ i w f. best i (omega arith) (omega arith) w f
next_from n to xs F T (Some m) long best = (best.2, best.3, best.4, λ j w f out. best.5 j (omega arith) (omega arith) w f out)

-- ---- a threshold between the top and the rest
-- a member of T of the least weight, or T is empty below n
least_of : (n : ℕ) (T : Set) (f : ℕ → ℤ) → ((i : ℕ) → i < n → T i ≡ false) ⊎ ((m : ℕ) × (m < n) × (T m ≡ true) × ((i : ℕ) → i < n → T i ≡ true → f m ≤ℤ f i))
least_of zero T f = inl (λ i w. absurd (omega arith))
least_of (suc n) T f =
    elim (either (T n)) [
      | inl in_T ↦
          elim (least_of n T f) [
            | inl none ↦ inr (n, omega arith, in_T, λ i w e. elim (last_or_before i n w) [ inl before ↦ absurd (true≢false (sym e ∙ none i before)) | inr last ↦ subst (λ (k : ℕ). f n ≤ℤ f k) (sym last) (omega (arith, ints)) ])
            | inr (m, below, member, least) ↦
                elim (either (int_le (f m) (f n))) [
                  | inl low ↦ inr (m, omega arith, member, λ i w e. elim (last_or_before i n w) [ inl before ↦ least i before e | inr last ↦ subst (λ (k : ℕ). f m ≤ℤ f k) (sym last) (omega (arith, ints)) ])
                  | inr high ↦ inr (n, omega arith, in_T, λ i w e. elim (last_or_before i n w) [ inl before ↦ let l = least i before e in omega (arith, ints) | inr last ↦ subst (λ (k : ℕ). f n ≤ℤ f k) (sym last) (omega (arith, ints)) ])
                ]
          ]
      | inr not_T ↦
          elim (least_of n T f) [
            | inl none ↦ inl (λ i w. elim (last_or_before i n w) [ inl before ↦ none i before | inr last ↦ ap T last ∙ not_T ])
            | inr (m, below, member, least) ↦ inr (m, omega arith, member, λ i w e. elim (last_or_before i n w) [ inl before ↦ least i before e | inr last ↦ absurd (true≢false (sym e ∙ ap T last ∙ not_T)) ])
          ]
    ]

bounded : (n : ℕ) (f : ℕ → ℤ) → (t : ℤ) × ((i : ℕ) → i < n → f i ≤ℤ t)
bounded zero f = (pos 0, λ i w. absurd (omega arith))
bounded (suc n) f =
    let (t, all) = bounded n f in
    elim (either (int_le t (f n))) [
      | inl low ↦ (f n, λ i w. elim (last_or_before i n w) [ inl before ↦ let l = all i before in omega (arith, ints) | inr last ↦ subst (λ (k : ℕ). f k ≤ℤ f n) (sym last) (omega (arith, ints)) ])
      | inr high ↦ (t, λ i w. elim (last_or_before i n w) [ inl before ↦ all i before | inr last ↦ subst (λ (k : ℕ). f k ≤ℤ t) (sym last) (omega (arith, ints)) ])
    ]

pub threshold : (n : ℕ) (xs : List ℤ) (F : Set) (k : ℕ) (T : Set) → IsTopOf n xs F k T → (t : ℤ) × ((i : ℕ) → i < n → T i ≡ true → t ≤ℤ at xs i) × ((i : ℕ) → i < n → F i ≡ true → T i ≡ false → at xs i ≤ℤ t)
threshold n xs F k T top =
    elim (least_of n T (at xs)) [
      | inl none ↦ let (t, all) = bounded n (at xs) in (t, λ i w e. absurd (true≢false (sym e ∙ none i w)), λ i w f e. all i w)
      | inr (m, below, member, least) ↦ (at xs m, least, λ i w f e. top.greatest m i member w f e)
    ]
