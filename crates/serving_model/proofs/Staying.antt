-- The form last served from stays a form.
use Rattle.std.proofs.Common.{◌≡◌, ℕ, ◌-◌, ◌<◌, ◌⊎◌, inl, inr, Bool, true, false, not, ◌&&◌, ◌||◌, ◌==◌, List, [], ◌∷◌, ◌++◌, length, Some, refl, sym, ap, ◌∙◌, subst, arith}
use Rattle.std.specs.Prelude.{slice_get, nat_lt, if◌then◌else◌}
use Rattle.std.specs.List.{list_any}
use Rattle.std.proofs.lemmas.Bool.{eqb-true, eq-eqb, ltb-true}
use Rattle.std.proofs.lemmas.List.{length-append}
use Rattle.std.proofs.lemmas.List.Folds.{list_any-append}
use Rattle.std.proofs.Math.Bool.{true≢false}
use Rattle.bank_tables.specs.Items.{Set, has}
use Rattle.bank_tables.specs.Tables.{size, stimulus}
use Rattle.serving_model.specs.declared.seat.Seat.{Seat}
use Rattle.form_model.specs.Plan.{band_of}
use Rattle.form_model.specs.Problem.{Problem}
use Rattle.form_model.specs.Forms.{Form}
use Rattle.serving_model.specs.Serving.{is_not_given, stimulus_goes_on, last_stimulus}
use Rattle.serving_model.specs.Seats.{is_shown, last_shown, is_of_stimulus_left_behind, is_withheld, is_barred, is_aside_in, is_unavailable_in, problem_barring, served_and_answered}
use Rattle.serving_model.specs.Laws.{FormStays, FormStaysAside, FormStaysInBand}
use Rattle.form_model.proofs.SumLaws.{either, and_true, both, or_true, or_left, or_right, any_intro}

last_push : (xs : List ℕ) (x : ℕ) → slice_get (xs ++ x ∷ []) (length xs) ≡ Some x
last_push [] x = refl
last_push (y ∷ xs) x = last_push xs x

-- the item shown last is the one pushed
pub last_shown-push : (xs : List ℕ) (x : ℕ) → slice_get (xs ++ x ∷ []) (length (xs ++ x ∷ []) - 1) ≡ Some x
last_shown-push xs x = let e : length (xs ++ x ∷ []) - 1 ≡ length xs = omega (arith, length-append xs (x ∷ [])) in ap (slice_get (xs ++ x ∷ [])) e ∙ last_push xs x

if_on : (a b : Bool) → a ≡ true → (if a then b else true) ≡ true → b ≡ true
if_on true b e h = h
if_on false b e h = absurd (true≢false (sym e))

not_true : (b : Bool) → not b ≡ true → b ≡ false
not_true true e = absurd (true≢false (sym e))
not_true false e = refl

not_false : (b : Bool) → b ≡ false → not b ≡ true
not_false true e = absurd (true≢false e)
not_false false e = refl

one_of : (p : ℕ → Bool) (x : ℕ) → list_any p (x ∷ []) ≡ true → p x ≡ true
one_of p x e = elim (or_true (p x) false e) [ inl h ↦ h | inr h ↦ absurd (true≢false (sym h)) ]

pub form_stays : FormStays
form_stays b plan session theta item response later seat words aside now-aside unavailable form next = record { meets = form.meets; holds_given = given; holds_no_barred = barred }
  where
    P : Problem
    P = problem_barring b plan session seat theta aside unavailable

    after : Seat
    after = served_and_answered seat item words response

    held : has words item ≡ true
    held = (and_true (has words item) (not (is_shown seat item)) (and_true _ _ next.candidate).0).0

    given : (i : ℕ) → is_shown after i ≡ true → has words i ≡ true
    given i e =
        elim (or_true (list_any (λ x. x == i) seat.shown) (list_any (λ x. x == i) (item ∷ [])) (sym (list_any-append (λ x. x == i) seat.shown (item ∷ [])) ∙ e)) [
          | inl old ↦ form.holds_given i old
          | inr new ↦ subst (λ (k : ℕ). has words k ≡ true) (eqb-true item i (one_of (λ x. x == i) item new)) held
        ]

    -- not shown after is not shown before
    not_before : (i : ℕ) → is_shown after i ≡ false → is_shown seat i ≡ false
    not_before i e =
        elim (either (is_shown seat i)) [
          | inl shown ↦ absurd (true≢false (sym (or_left (is_shown seat i) (list_any (λ x. x == i) (item ∷ [])) shown) ∙ (sym (list_any-append (λ x. x == i) seat.shown (item ∷ [])) ∙ e)))
          | inr none ↦ none
        ]

    last_is : last_stimulus b (last_shown after) ≡ stimulus b item
    last_is = ap (last_stimulus b) (last_shown-push seat.shown item)

    -- an item of the bank that is not shown and that the form holds is not of a stimulus that was
    -- left
    not_left : (i : ℕ) → i < size b → is_shown seat i ≡ false → is_of_stimulus_left_behind b after i ≡ true → (is_of_stimulus_left_behind b seat i ≡ true) ⊎ (has words i ≡ false)
    not_left i in_bank new left = by (either (stimulus b i == last_stimulus b (last_shown seat))) (either (has words i))
      where
        some : not (stimulus b i == 0) ≡ true
        some = (and_true (not (stimulus b i == 0)) _ left).0

        rest : (list_any (λ x. stimulus b x == stimulus b i) after.shown ≡ true) × (not (stimulus b i == last_stimulus b (last_shown after)) ≡ true)
        rest = and_true _ _ (and_true (not (stimulus b i == 0)) _ left).1

        other : (stimulus b i == stimulus b item) ≡ false
        other = subst (λ (s : ℕ). (stimulus b i == s) ≡ false) last_is (not_true _ rest.1)

        entered : list_any (λ x. stimulus b x == stimulus b i) seat.shown ≡ true
        entered =
            elim (or_true (list_any (λ x. stimulus b x == stimulus b i) seat.shown) (list_any (λ x. stimulus b x == stimulus b i) (item ∷ [])) (sym (list_any-append (λ x. stimulus b x == stimulus b i) seat.shown (item ∷ [])) ∙ rest.0)) [
              | inl old ↦ old
              | inr now ↦ absurd (true≢false (sym (eq-eqb (stimulus b i) (stimulus b item) (sym (eqb-true (stimulus b item) (stimulus b i) (one_of (λ x. stimulus b x == stimulus b i) item now)))) ∙ other))
            ]

        by : ((stimulus b i == last_stimulus b (last_shown seat)) ≡ true) ⊎ ((stimulus b i == last_stimulus b (last_shown seat)) ≡ false) → (has words i ≡ true) ⊎ (has words i ≡ false) → (is_of_stimulus_left_behind b seat i ≡ true) ⊎ (has words i ≡ false)
        by goes (inr none) = inr none
        by (inr left) (inl in_form) = inl (both _ _ some (both _ _ entered (not_false _ left)))
        by (inl goes) (inl in_form) =
            let same : stimulus b i ≡ last_stimulus b (last_shown seat) = eqb-true _ _ goes in
            let member = both (is_not_given P (has words) i) (stimulus b i == last_stimulus b (last_shown seat)) (both _ _ in_form (not_false _ new)) goes in
            let on : stimulus_goes_on P (has words) ≡ true = both _ _ (subst (λ (s : ℕ). not (s == 0) ≡ true) same some) (any_intro (size b) (λ j. is_not_given P (has words) j && stimulus b j == last_stimulus b (last_shown seat)) i in_bank member) in
            let kept : (stimulus b item == last_stimulus b (last_shown seat)) ≡ true = if_on _ _ on (and_true _ _ next.candidate).1 in
            absurd (true≢false (sym (eq-eqb (stimulus b i) (stimulus b item) (same ∙ sym (eqb-true _ _ kept))) ∙ other))

    -- the items that may not be served, whatever was shown: no item that is shown changes them
    never : Set
    never i = is_withheld seat i || unavailable i

    barred : (i : ℕ) → is_barred b after unavailable i ≡ true → has words i ≡ false
    barred i e = by (or_true (is_of_stimulus_left_behind b after i) (never i) (and_true (not (is_shown after i)) (is_of_stimulus_left_behind b after i || never i) parts.1).1)
      where
        parts : (nat_lt i (size b) ≡ true) × ((not (is_shown after i) && (is_of_stimulus_left_behind b after i || never i)) ≡ true)
        parts = and_true (nat_lt i (size b)) _ e

        new : is_shown seat i ≡ false
        new = not_before i (not_true _ (and_true (not (is_shown after i)) _ parts.1).0)

        in_bank : i < size b
        in_bank = ltb-true i (size b) parts.0

        barred_before : (is_of_stimulus_left_behind b seat i || never i) ≡ true → has words i ≡ false
        barred_before h = form.holds_no_barred i (both _ _ parts.0 (both _ _ (not_false _ new) h))

        by : (is_of_stimulus_left_behind b after i ≡ true) ⊎ (never i ≡ true) → has words i ≡ false
        by (inr may_not) = barred_before (or_right _ _ may_not)
        by (inl left) = elim (not_left i in_bank new left) [ inl before ↦ barred_before (or_left _ _ before) | inr none ↦ none ]

-- once eligibility is set aside no item is unavailable, before or after
pub form_stays_aside : FormStaysAside
form_stays_aside b plan session theta item response later seat words form next =
    form_stays b plan session theta item response later seat words true true (λ _. false) form (record { candidate = next.candidate; greatest = next.greatest; lowest = next.lowest })

-- in the same band the same items are unavailable
pub form_stays_in_band : FormStaysInBand
form_stays_in_band b plan session theta item response later seat words form next same =
    let after = served_and_answered seat item words response in
    let stays = form_stays b plan session theta item response later seat words (is_aside_in seat (band_of plan theta)) (is_aside_in seat (band_of plan later)) (is_unavailable_in seat (band_of plan theta)) form next in
    subst (λ (band : ℕ). Form (problem_barring b plan session after later (is_aside_in seat (band_of plan later)) (is_unavailable_in seat band)) (has words)) (sym same) stays
