-- The forms of a seat's problem are those that the headline states, and so is the next item.
use Rattle.std.proofs.Common.{◌≡◌, ℕ, zero, suc, ◌<◌, inl, inr, Bool, true, false, not, ◌&&◌, ◌||◌, ◌==◌, refl, sym, ap, ◌∙◌, arith, nat_lt}
use Rattle.std.specs.Prelude.{if◌then◌else◌}
use Rattle.std.proofs.Math.Bool.{true≢false}
use Rattle.std.proofs.lemmas.Bool.{eqb-true, eq-eqb, lt-ltb}
use Rattle.bank_tables.specs.Items.{Set}
use Rattle.bank_tables.specs.Tables.{Tables, size, stimulus}
use Rattle.form_model.specs.Forms.{Form, Best, HasNoForm}
use Rattle.form_model.specs.Plan.{Plan, band_of}
use Rattle.form_model.proofs.SumLaws.{either, and_true, both, any_intro, any_elim}
use Rattle.serving_model.specs.declared.seat.Seat.{Seat}
use Rattle.serving_model.specs.Seats.{is_shown, is_of_stimulus_left_behind, is_withheld, is_available_in, last_shown, seat_problem}
use Rattle.serving_model.specs.Serving.{is_not_given, is_candidate, last_stimulus, stimulus_goes_on, IsNext}
use Rattle.headline_model.specs.Forms.{IsForm, IsBestForm, MayCome, IsNextItem}

-- an item that is not shown is not barred exactly if it is free
is_free : (in_bank shown left withheld available : Bool) → in_bank ≡ true → shown ≡ false → (in_bank && (not shown && (left || (withheld || not available)))) ≡ false → (left ≡ false) × (withheld ≡ false) × (available ≡ true)
is_free true false false false true e f g = (refl, refl, refl)
is_free true false false false false e f g = absurd (true≢false g)
is_free true false false true available e f g = absurd (true≢false g)
is_free true false true withheld available e f g = absurd (true≢false g)
is_free true true left withheld available e f g = absurd (true≢false f)
is_free false shown left withheld available e f g = absurd (true≢false (sym e))

is_not_free : (in_bank shown left withheld available : Bool) → (in_bank && (not shown && (left || (withheld || not available)))) ≡ true → (shown ≡ false) × (left ≡ false → withheld ≡ false → available ≡ true → ⊥)
is_not_free true false true withheld available e = (refl, λ f g h. true≢false f)
is_not_free true false false true available e = (refl, λ f g h. true≢false g)
is_not_free true false false false false e = (refl, λ f g h. true≢false (sym h))
is_not_free true false false false true e = absurd (true≢false (sym e))
is_not_free true true left withheld available e = absurd (true≢false (sym e))
is_not_free false shown left withheld available e = absurd (true≢false (sym e))

module _ (b : Tables) (plan : Plan) (session : ℕ) (seat : Seat) (theta : ℕ) where
  abbrev barred_of : ℕ → Bool
  barred_of i = nat_lt i (size b) && (not (is_shown seat i) && (is_of_stimulus_left_behind b seat i || (is_withheld seat i || not (is_available_in seat (band_of plan theta) i))))

  pub is_form : (X : Set) → Form (seat_problem b plan session seat theta) X → IsForm b plan seat theta X
  is_form X form = record {
    meets = form.meets;
    holds_shown = form.holds_given;
    free = λ i held fresh.
        let clear : barred_of i ≡ false = elim (either (barred_of i)) [ inl barred ↦ absurd (true≢false (sym held ∙ form.holds_no_barred i barred)) | inr free ↦ free ] in
        let parts = is_free (nat_lt i (size b)) (is_shown seat i) (is_of_stimulus_left_behind b seat i) (is_withheld seat i) (is_available_in seat (band_of plan theta) i) (lt-ltb i (size b) (form.meets.right_length.in_bank i held)) fresh clear in
        record { not_left = parts.0; not_withheld = parts.1; available = parts.2 };
  }

  pub form_is : (X : Set) → IsForm b plan seat theta X → Form (seat_problem b plan session seat theta) X
  form_is X form = record {
    meets = form.meets;
    holds_given = form.holds_shown;
    holds_no_barred = λ i barred.
        elim (either (X i)) [
          | inl held ↦
              let parts = is_not_free (nat_lt i (size b)) (is_shown seat i) (is_of_stimulus_left_behind b seat i) (is_withheld seat i) (is_available_in seat (band_of plan theta) i) barred in
              let free = form.free i held parts.0 in
              absurd (parts.1 free.not_left free.not_withheld free.available)
          | inr not_held ↦ not_held
        ];
  }

  pub is_best : (X : Set) → Best (seat_problem b plan session seat theta) X → IsBestForm b plan seat theta X
  is_best X best = record { form = is_form X best.form; none_better = λ Y form. best.greatest Y (form_is Y form) }

  pub has_none : HasNoForm (seat_problem b plan session seat theta) → (X : Set) → IsForm b plan seat theta X → ⊥
  has_none none X form = none.none X (form_is X form)

  -- ---- the next item
  module _ (X : Set) (in_bank : (i : ℕ) → X i ≡ true → i < size b) where
    abbrev last : ℕ
    last = last_stimulus b (last_shown seat)

    some_last : (n : ℕ) → 0 < n → not (n == 0) ≡ true
    some_last n w = elim (either (n == 0)) [ inl none ↦ absurd (let e = eqb-true n 0 none in omega arith) | inr some ↦ ap not some ]

    last_some : (n : ℕ) → not (n == 0) ≡ true → 0 < n
    last_some zero e = absurd (true≢false (sym e))
    last_some (suc n) e = omega arith

    not_true : (c : Bool) → not c ≡ true → c ≡ false
    not_true true e = absurd (true≢false (sym e))
    not_true false e = refl

    true_not : (c : Bool) → c ≡ false → not c ≡ true
    true_not c e = ap not e

    goes_on : (i : ℕ) → 0 < last → X i ≡ true → is_shown seat i ≡ false → stimulus b i ≡ last → stimulus_goes_on (seat_problem b plan session seat theta) X ≡ true
    goes_on i some held fresh e =
        both _ _ (some_last last some)
        (any_intro (size b) (λ j. is_not_given (seat_problem b plan session seat theta) X j && (stimulus b j == last)) i (in_bank i held) (both _ _ (both _ _ held (true_not _ fresh)) (eq-eqb _ _ e)))

    chosen : (c t : Bool) → c ≡ true → (if c then t else true) ≡ true → t ≡ true
    chosen true t e f = f
    chosen false t e f = absurd (true≢false (sym e))

    choose : (c t : Bool) → (c ≡ true → t ≡ true) → (if c then t else true) ≡ true
    choose true t f = f refl
    choose false t f = refl

    pub comes : (i : ℕ) → is_candidate (seat_problem b plan session seat theta) X i ≡ true → MayCome b seat X i
    comes i e =
        let parts = and_true _ _ e in
        let free = and_true _ _ parts.0 in
        record {
          of_form = free.0;
          not_shown = not_true _ free.1;
          stays = λ j some held fresh same. eqb-true _ _ (chosen (stimulus_goes_on (seat_problem b plan session seat theta) X) (stimulus b i == last) (goes_on j some held fresh same) parts.1);
        }

    pub comes_of : (i : ℕ) → MayCome b seat X i → is_candidate (seat_problem b plan session seat theta) X i ≡ true
    comes_of i may =
        both _ _ (both _ _ may.of_form (true_not _ may.not_shown))
        (choose (stimulus_goes_on (seat_problem b plan session seat theta) X) (stimulus b i == last) (λ on.
        let parts = and_true _ _ on in
        let there = any_elim (size b) (λ j. is_not_given (seat_problem b plan session seat theta) X j && (stimulus b j == last)) parts.1 in
        let both_of = and_true _ _ there.2 in
        let free = and_true _ _ both_of.0 in
        eq-eqb _ _ (may.stays there.0 (last_some last parts.0) free.0 (not_true _ free.1) (eqb-true _ _ both_of.1))))

    pub is_next : (item : ℕ) → IsNext (seat_problem b plan session seat theta) X item → IsNextItem b seat theta X item
    is_next item next = record {
      comes = comes item next.candidate;
      greatest = λ i may. next.greatest i (comes_of i may);
      lowest = λ i may below. next.lowest i (comes_of i may) below;
    }
