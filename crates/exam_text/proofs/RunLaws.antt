-- The word of a run is read as that run.
use Rattle.std.proofs.Common.{◌≡◌, ℕ, ◌+◌, ◌^◌, ◌<◌, ◌≤◌, true, false, eqb, ltb, List, ◌∷◌, ◌++◌, length, get_or, take, drop, Option, Some, None, refl, sym, ap, ap₂, subst, drop-cons, add-one, ◌∙◌, arith, inl, inr}
use Rattle.std.specs.Fmt.{decimal}
use Rattle.std.specs.Int.{IsInRange}
use Rattle.std.specs.List.{position_or_len}
use Rattle.std.proofs.lemmas.Bool.{ltb-true, ne_eqb, eqb-true, eqb-false, eq-eqb, lt-ltb, le-ltb, cases_Bool}
use Rattle.std.proofs.lemmas.List.{take-append-drop, take_at, drop_at, drop-drop, length-append, get_or_append_left, get_or_at}
use Rattle.std.specs.Option.{option_map}
use Rattle.std.proofs.lemmas.List.Quantifiers.{position-Some}
use Rattle.std.proofs.lemmas.List.Sums.{position_or_len_is}
use Rattle.std.proofs.lemmas.Str.Parse.{digit_at}
use Rattle.std.proofs.lemmas.Fmt.{digits_decimal}
use Rattle.exam_text.specs.Numbers.{number_of}
use Rattle.exam_text.proofs.Numerals.{own, number_is, number_again}
use Rattle.exam_text.specs.declared.run.Run.{Run}
use Rattle.exam_text.specs.Runs.{IsRun, run_word, run_of, run_at, run_between, dash_at}

no_dash : (n k : ℕ) → n < 2 ^ 64 → k < length (decimal n) → eqb (get_or (decimal n) k 0) 45 ≡ false
no_dash n k small lt =
    let d : IsInRange 48 57 (get_or (decimal n) k 0) = digit_at (decimal n) k (own.to (decimal n) (digits_decimal own n small)) lt in
    ne_eqb (get_or (decimal n) k 0) 45 (λ e. omega (arith, d.0, e))

dash_none : (n : ℕ) → n < 2 ^ 64 → dash_at (decimal n) ≡ None
dash_none n small =
    let at : position_or_len (λ b. eqb b 45) (decimal n) ≡ length (decimal n) = position_or_len_is (λ b. eqb b 45) (decimal n) (length (decimal n)) 0 (omega arith) (λ k lt. no_dash n k small lt) (λ lt. absurd (omega (arith, lt))) in
    rw (at, le-ltb (length (decimal n)) (length (decimal n)) (omega arith)) refl

dash_some : (a : ℕ) (rest : List ℕ) → a < 2 ^ 64 → dash_at (decimal a ++ 45 ∷ rest) ≡ Some (length (decimal a))
dash_some a rest small =
    let word = decimal a ++ 45 ∷ rest in
    let long : length (decimal a) < length word = omega (arith, length-append (decimal a) (45 ∷ rest)) in
    let before : (k : ℕ) → k < length (decimal a) → eqb (get_or word k 0) 45 ≡ false = λ k lt. rw (get_or_append_left (decimal a) (45 ∷ rest) 0 k lt) (no_dash a k small lt) in
    let here : eqb (get_or word (length (decimal a)) 0) 45 ≡ true = rw (get_or_at (decimal a) 45 rest 0 (length (decimal a)) refl) refl in
    let at : position_or_len (λ b. eqb b 45) word ≡ length (decimal a) = position_or_len_is (λ b. eqb b 45) word (length (decimal a)) 0 (omega (arith, long)) before (λ lt. here) in
    rw (at, lt-ltb (length (decimal a)) (length word) long) refl

pub run_again : (r : Run) → IsRun r → run_of (run_word r) ≡ Some r
unfolding run_of
run_again r is =
    let le : r.low ≤ r.high = is.order in
    let small : r.high ≤ 511 = is.high in
    elim (cases_Bool (eqb r.low r.high)) [
      | inl one ↦ (let same : r.low ≡ r.high = eqb-true r.low r.high one in
          rw (one, dash_none r.low (omega arith), number_again 511 r.low (omega arith) (omega arith)) (ap (λ (high : ℕ). Some (record { low = r.low; high = high })) same))
      | inr more ↦ (let less : r.low < r.high = strictly r.low r.high le (eqb-false r.low r.high more) in
          let front : take (length (decimal r.low)) (decimal r.low ++ 45 ∷ decimal r.high) ≡ decimal r.low = take_at (decimal r.low) (45 ∷ decimal r.high) (length (decimal r.low)) refl in
          let back : drop (length (decimal r.low) + 1) (decimal r.low ++ 45 ∷ decimal r.high) ≡ decimal r.high = sym (drop-drop 1 (length (decimal r.low)) (decimal r.low ++ 45 ∷ decimal r.high)) ∙ ap (drop 1) (drop_at (decimal r.low) (45 ∷ decimal r.high) (length (decimal r.low)) refl) in
          rw (more, dash_some r.low (decimal r.high) (omega arith), front, back, number_again 511 r.low (omega arith) (omega arith), number_again 511 r.high (omega arith) small, lt-ltb r.low r.high less) refl)
    ]
  where
    strictly : (a b : ℕ) → a ≤ b → (a ≡ b → ⊥) → a < b
    strictly a b le ne = grind arith

some_is : {A : Type 0} (a b : A) → Some a ≡ Some b → a ≡ b
some_is a b e = cc

-- the run of one number
one_is : (text : List ℕ) (o : Option ℕ) (r : Run) → number_of 511 text ≡ o → option_map (λ n. record { low = n; high = n }) o ≡ Some r → IsRun r × (text ≡ run_word r)
one_is text None r e h = absurd cc
one_is text (Some n) r e h =
    let is = number_is 511 text n (omega arith) e in
    let word : text ≡ run_word (record { low = n; high = n }) = rw (eq-eqb n n refl) is.1 in
    subst (λ (s : Run). IsRun s × (text ≡ run_word s)) (some_is (record { low = n; high = n }) r h) (record { order = omega arith; high = is.0 }, word)

-- the run of two
two_is : (text : List ℕ) (k : ℕ) (a b : Option ℕ) (r : Run) → k < length text → get_or text k 0 ≡ 45 → number_of 511 (take k text) ≡ a → number_of 511 (drop (k + 1) text) ≡ b → run_between a b ≡ Some r → IsRun r × (text ≡ run_word r)
two_is text k None b r lt dash e f h = absurd cc
two_is text k (Some low) None r lt dash e f h = absurd cc
two_is text k (Some low) (Some high) r lt dash e f h = elim (cases_Bool (ltb low high)) [
  | inr more ↦ (let none : None ≡ Some r = rw more at h in absurd cc)
  | inl less ↦ (let front = number_is 511 (take k text) low (omega arith) e in
      let back = number_is 511 (drop (k + 1) text) high (omega arith) f in
      let made : Run = record { low = low; high = high } in
      let same : Some made ≡ Some r = rw less at h in
      let order : low < high = ltb-true low high less in
      let apart : text ≡ take k text ++ 45 ∷ drop (k + 1) text = sym (take-append-drop k text) ∙ ap (λ (rest : List ℕ). take k text ++ rest) (rw (add-one k, drop-cons text k 0, dash) refl) in
      let word : text ≡ run_word made = rw (ne_eqb low high (λ e. omega (arith, e, order))) (apart ∙ ap₂ (λ (x y : List ℕ). x ++ 45 ∷ y) front.1 back.1) in
      subst (λ (s : Run). IsRun s × (text ≡ run_word s)) (some_is made r same) (record { order = omega (arith, order); high = back.0 }, word))
]

pub run_is : (text : List ℕ) (r : Run) → run_of text ≡ Some r → IsRun r × (text ≡ run_word r)
unfolding run_of
run_is text r e = from (dash_at text) refl e
  where
    from : (o : Option ℕ) → dash_at text ≡ o → run_at text o ≡ Some r → IsRun r × (text ≡ run_word r)
    from None d h = one_is text (number_of 511 text) r refl h
    from (Some k) d h =
        let p = position-Some (λ (b : ℕ). eqb b 45) text k 0 d in
        two_is text k (number_of 511 (take k text)) (number_of 511 (drop (k + 1) text)) r p.0 (eqb-true _ _ p.1) refl refl h
