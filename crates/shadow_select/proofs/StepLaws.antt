-- A seat stays a seat.
use Rattle.std.proofs.Common.{◌≡◌, ℕ, ◌+◌, ◌-◌, ◌<◌, ◌⊎◌, inl, inr, Bool, true, false, not, ◌&&◌, ◌==◌, List, [], ◌∷◌, ◌++◌, length, refl, sym, ap, ◌∙◌, subst, arith, Option, Some, None, IsTrue, IsFalse, slice_get, get_or, length-append}
use Rattle.std.specs.List.{list_any}
use Rattle.std.proofs.Math.Bool.{true≢false}
use Rattle.std.proofs.Math.ListN.{get_or-append}
use Rattle.std.proofs.Math.Seq.{get_or-append_seam}
use Rattle.std.proofs.lemmas.Bool.{eqb-true, cases_lt, lt-ltb}
use Rattle.std.proofs.lemmas.Option.{slice_get-get_or, slice_get_within}
use Rattle.std.proofs.lemmas.List.Folds.{list_any-append}
use Rattle.bank_tables.specs.Items.{has}
use Rattle.bank_tables.specs.Tables.{Tables, size, categories}
use Rattle.bank_tables.specs.Validity.{HoldsItems}
use Rattle.serving_model.specs.declared.seat.Seat.{Seat}
use Rattle.form_model.specs.Plan.{Plan, band_of}
use Rattle.form_model.specs.Problem.{Problem}
use Rattle.form_model.specs.Forms.{Form}
use Rattle.serving_model.specs.Seats.{is_shown, is_of_stimulus_left_behind, is_withheld, is_unavailable_in, seat_problem, IsSeat, IsPending, with_item}
use Rattle.serving_model.specs.Serving.{is_not_given, IsNext}
use Rattle.form_model.proofs.SumLaws.{either, and_true, both, or_true, or_left, or_right}
use Rattle.shadow_select.proofs.ShownLaws.{found_at}
use Rattle.shadow_select.specs.Steps.{NewSeatIsSeat, ServedSeatIsSeat, AnsweredSeatIsSeat}

-- ---- a list with a number more
last_number : (xs : List ℕ) (x : ℕ) → length (xs ++ x ∷ []) ≡ length xs + 1
last_number xs x = omega (arith, length-append xs (x ∷ []))

some_same : (x y : ℕ) → Some x ≡ Some y → x ≡ y
some_same x y e = cc

-- before the end it is as it was
front : (xs : List ℕ) (x k y : ℕ) → k < length xs → slice_get (xs ++ x ∷ []) k ≡ Some y → slice_get xs k ≡ Some y
front xs x k y within e =
    let inside : k < length (xs ++ x ∷ []) = omega (arith, last_number xs x) in
    let here : get_or xs k 0 ≡ y = sym (get_or-append xs (x ∷ []) 0 k within) ∙ some_same _ _ (sym (slice_get-get_or (xs ++ x ∷ []) k 0 inside) ∙ e) in
    slice_get-get_or xs k 0 within ∙ ap (λ (z : ℕ). Some z) here

-- the number at the end is the new one
at_end : (xs : List ℕ) (x k y : ℕ) → k ≡ length xs → slice_get (xs ++ x ∷ []) k ≡ Some y → y ≡ x
at_end xs x k y end e =
    let inside : k < length (xs ++ x ∷ []) = omega (arith, last_number xs x) in
    let here : get_or (xs ++ x ∷ []) k 0 ≡ y = some_same _ _ (sym (slice_get-get_or (xs ++ x ∷ []) k 0 inside) ∙ e) in
    sym here ∙ ap (λ (n : ℕ). get_or (xs ++ x ∷ []) n 0) end ∙ get_or-append_seam xs x [] 0

front_or_end : (xs : List ℕ) (x k y : ℕ) → slice_get (xs ++ x ∷ []) k ≡ Some y → (k < length xs) ⊎ (k ≡ length xs)
front_or_end xs x k y e =
    let inside = slice_get_within (xs ++ x ∷ []) k y e in
    elim (cases_lt k (length xs)) [ inl before ↦ inl before | inr past ↦ inr (omega (arith, inside, last_number xs x)) ]

-- ---- a new seat
none_shown : (xs : List ℕ) (i : ℕ) → xs ≡ [] → list_any (λ item. item == i) xs ≡ true → ⊥
none_shown xs i e h = true≢false (sym h ∙ ap (λ (ys : List ℕ). list_any (λ item. item == i) ys) e)

no_place : (xs : List ℕ) (k y : ℕ) → xs ≡ [] → slice_get xs k ≡ Some y → ⊥
no_place xs k y e h =
    let none : length xs ≡ 0 = ap (λ (ys : List ℕ). length ys) e in
    let inside = slice_get_within xs k y h in
    omega (arith, none, inside)

no_form : (form : Option (List ℕ)) (words : List ℕ) → form ≡ None → form ≡ Some words → ⊥
no_form form words e h = cc

pub new_seat : NewSeatIsSeat
new_seat b plan seat e-shown e-responses e-form e-without =
    let none : length seat.shown ≡ 0 = ap (λ (xs : List ℕ). length xs) e-shown in
    let neither : length seat.responses ≡ 0 = ap (λ (xs : List ℕ). length xs) e-responses in
    record {
      items = λ i h. absurd (none_shown seat.shown i e-shown h);
      once = λ j k item h g. absurd (no_place seat.shown j item e-shown h);
      few = omega (arith, none);
      responses = inl (neither ∙ sym none);
      in_range = λ k item response h g. absurd (no_place seat.shown k item e-shown h);
      form_items = λ words h. absurd (no_form seat.form words e-form h);
      form_none = λ h. none;
      form_some = λ h unlisted. e-form;
      list_form = λ h. e-without;
      not_withheld = λ i h. absurd (none_shown seat.shown i e-shown h);
    }

-- ---- a seat that was served
was_some : (words : List ℕ) → ◌≡◌ {A = Option (List ℕ)} (Some words) None → ⊥
was_some words e = cc

words_same : (a b : List ℕ) → ◌≡◌ {A = Option (List ℕ)} (Some a) (Some b) → a ≡ b
words_same a b e = cc

not_true : (held given : Bool) → (held && not given) ≡ true → (held ≡ true) × (given ≡ false)
not_true true true e = absurd (true≢false (sym e))
not_true true false e = (refl, refl)
not_true false given e = absurd (true≢false (sym e))

module _ (b : Tables) (plan : Plan) (seat : Seat) (form : List ℕ) (item : ℕ) (is : IsSeat b plan seat) (in_bank : HoldsItems b (has form)) (held : IsTrue (has form item)) (fresh : IsFalse (is_shown seat item)) (allowed : IsFalse (is_withheld seat item)) where
  shown_items : (i : ℕ) → list_any (λ x. x == i) (seat.shown ++ item ∷ []) ≡ true → i < size b
  shown_items i h =
      elim (or_true (is_shown seat i) (list_any (λ x. x == i) (item ∷ [])) (sym (list_any-append (λ x. x == i) seat.shown (item ∷ [])) ∙ h)) [
        | inl old ↦ is.items i old
        | inr new ↦ elim (or_true (item == i) false new) [ inl same ↦ subst (λ (k : ℕ). k < size b) (eqb-true item i same) (in_bank item held) | inr not ↦ absurd (true≢false (sym not)) ]
      ]

  shown_allowed : (i : ℕ) → list_any (λ x. x == i) (seat.shown ++ item ∷ []) ≡ true → is_withheld seat i ≡ false
  shown_allowed i h =
      elim (or_true (is_shown seat i) (list_any (λ x. x == i) (item ∷ [])) (sym (list_any-append (λ x. x == i) seat.shown (item ∷ [])) ∙ h)) [
        | inl old ↦ is.not_withheld i old
        | inr new ↦ elim (or_true (item == i) false new) [ inl same ↦ subst (λ (k : ℕ). is_withheld seat k ≡ false) (eqb-true item i same) allowed | inr not ↦ absurd (true≢false (sym not)) ]
      ]

  not_again : (j : ℕ) → slice_get seat.shown j ≡ Some item → ⊥
  not_again j e = true≢false (sym (found_at seat.shown j item e) ∙ fresh)

  shown_once : (j k x : ℕ) → slice_get (seat.shown ++ item ∷ []) j ≡ Some x → slice_get (seat.shown ++ item ∷ []) k ≡ Some x → j ≡ k
  shown_once j k x e h =
      elim (front_or_end seat.shown item j x e) [
        | inl j-front ↦
            elim (front_or_end seat.shown item k x h) [
              | inl k-front ↦ is.once j k x (front seat.shown item j x j-front e) (front seat.shown item k x k-front h)
              | inr k-end ↦ absurd (not_again j (front seat.shown item j x j-front e ∙ ap (λ (z : ℕ). Some z) (at_end seat.shown item k x k-end h)))
            ]
        | inr j-end ↦
            elim (front_or_end seat.shown item k x h) [
              | inl k-front ↦ absurd (not_again k (front seat.shown item k x k-front h ∙ ap (λ (z : ℕ). Some z) (at_end seat.shown item j x j-end e)))
              | inr k-end ↦ j-end ∙ sym k-end
            ]
      ]

  pub served : (proved : Bool) → IsPending plan seat → IsSeat b plan (with_item seat form proved item)
  served proved pending =
      let number = last_number seat.shown item in
      record {
        items = shown_items;
        once = shown_once;
        few = omega (arith, number, pending.not_complete, pending.answered);
        responses = inr (omega (arith, number, pending.answered));
        in_range =
            λ k x response e h.
            let within : k < length seat.responses = slice_get_within seat.responses k response h in
            is.in_range k x response (front seat.shown item k x (omega (arith, within, pending.answered)) e) h;
        form_items = λ words e. subst (λ (w : List ℕ). HoldsItems b (has w)) (words_same form words e) in_bank;
        form_none = λ e. absurd (was_some form e);
        form_some = λ e unlisted. absurd (omega (arith, number, e));
        list_form = λ e. absurd (was_some form e);
        not_withheld = shown_allowed;
      }

pub served_seat : ServedSeatIsSeat
served_seat b plan session seat P form proved item is pending problem a_form next =
    let Q = seat_problem b plan session seat problem.theta in
    let form-Q : Form Q (has form) = subst (λ (R : Problem). Form R (has form)) problem.is a_form in
    let next-Q : IsNext Q (has form) item = subst (λ (R : Problem). IsNext R (has form) item) problem.is next in
    let parts = not_true (has form item) (is_shown seat item) (and_true (is_not_given Q (has form) item) _ next-Q.candidate).0 in
    let in_bank = form-Q.meets.right_length.in_bank in
    served b plan seat form item is in_bank parts.0 parts.1 (allowed form-Q parts.0 (in_bank item parts.0) (ap not parts.1)) proved pending
  where
    -- an item that is withheld is barred, so no form holds it
    allowed : Form (seat_problem b plan session seat problem.theta) (has form) → has form item ≡ true → item < size b → not (is_shown seat item) ≡ true → is_withheld seat item ≡ false
    allowed form-Q held within fresh = elim (either (is_withheld seat item)) [
      | inl withheld ↦
          let may_not = or_right (is_of_stimulus_left_behind b seat item) _ (or_left (is_withheld seat item) (is_unavailable_in seat (band_of plan problem.theta) item) withheld) in
          absurd (true≢false (sym held ∙ form-Q.holds_no_barred item (both _ _ (lt-ltb item (size b) within) (both _ _ fresh may_not))))
      | inr not ↦ not
    ]

-- ---- a seat that was answered
pub answered_seat : AnsweredSeatIsSeat
answered_seat b plan seat item response is waits last within =
    let number = last_number seat.responses response in
    record {
      items = is.items;
      once = is.once;
      few = is.few;
      responses = inl (omega (arith, number, waits));
      in_range =
          λ k x r e h.
          elim (front_or_end seat.responses response k r h) [
            | inl k-front ↦ is.in_range k x r e (front seat.responses response k r k-front h)
            | inr k-end ↦
                let place : k ≡ length seat.shown - 1 = omega (arith, k-end, waits) in
                let same : x ≡ item = some_same _ _ (sym e ∙ ap (λ (n : ℕ). slice_get seat.shown n) place ∙ last) in
                subst (λ (i : ℕ). r < categories b i) (sym same) (subst (λ (m : ℕ). m < categories b item) (sym (at_end seat.responses response k r k-end h)) within)
          ];
      form_items = is.form_items;
      form_none = is.form_none;
      form_some = is.form_some;
      list_form = is.list_form;
      not_withheld = is.not_withheld;
    }
