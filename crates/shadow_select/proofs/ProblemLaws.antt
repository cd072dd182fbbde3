-- The problem of a seat is well made, and leaves a free item in each of its forms.
use Rattle.std.proofs.Common.{◌≡◌, ℕ, zero, suc, ◌+◌, ◌-◌, ◌≤◌, ◌<◌, inl, inr, Bool, true, false, not, cond, ◌&&◌, ◌||◌, ◌==◌, List, [], ◌∷◌, length, nat_lt, refl, sym, ap, ◌∙◌, subst, arith, Option, Some, None, slice_get}
use Rattle.std.specs.List.{list_any}
use Rattle.std.specs.Option.{option_map}
use Rattle.std.proofs.Math.Bool.{true≢false}
use Rattle.std.proofs.Math.Path.{fun_ext}
use Rattle.std.proofs.lemmas.Bool.{ltb-true, cases_lt, lt-ltb, le-ltb}
use Rattle.std.proofs.lemmas.Bool.Decides.{eqb_tells}
use Rattle.std.proofs.lemmas.Option.{slice_get-get_or}
use Rattle.bank_tables.specs.Items.{Set, has}
use Rattle.bank_tables.specs.Tables.{Tables, size}
use Rattle.bank_tables.specs.Sums.{count_in, any_below}
use Rattle.bank_tables.specs.Validity.{IsBank, HoldsItems}
use Rattle.serving_model.specs.declared.seat.Seat.{Seat}
use Rattle.form_model.specs.Plan.{Plan, band_of}
use Rattle.form_model.specs.Problem.{Problem}
use Rattle.form_model.specs.Forms.{Form, size_in}
use Rattle.serving_model.specs.Serving.{is_not_given}
use Rattle.serving_model.specs.Seats.{is_shown, last_shown, is_barred, is_aside_in, is_unavailable_in, seat_problem, IsSeat, IsPending}
use Rattle.form_model.specs.Validity.{IsPlanFor, IsWellMade}
use Rattle.form_model.proofs.SumLaws.{either, and_true, any_elim, any_intro, sum_in-le}
use Rattle.shadow_select.proofs.ShownLaws.{found_at}
use Rattle.shadow_select.specs.Next.{HasFreeItem, FreeItemIsLeft}

-- ---- well made
not_both : (within a b : Bool) → a ≡ true → (within && (not a && b)) ≡ false
not_both true true b e = refl
not_both false true b e = refl
not_both within false b e = absurd (true≢false (sym e))

no_item : (xs : List ℕ) → slice_get xs (length xs - 1) ≡ None → xs ≡ []
no_item [] e = refl
no_item (x ∷ xs) e =
    let within : length (x ∷ xs) - 1 < length (x ∷ xs) = omega arith in
    let some = slice_get-get_or (x ∷ xs) (length (x ∷ xs) - 1) 0 within in
    absurd (differ _ (sym some ∙ e))
  where
    differ : (y : ℕ) → Some y ≡ None → ⊥
    differ y e = cc

start_is : (b : Tables) (form : Option (List ℕ)) → ((words : List ℕ) → form ≡ Some words → HoldsItems b (has words)) → (X : Set) → option_map has form ≡ Some X → HoldsItems b X
start_is b None h X e = absurd (differ X e)
  where
    differ : (X : Set) → None ≡ Some X → ⊥
    differ X e = cc
start_is b (Some words) h X e = subst (HoldsItems b) (same (has words) X e) (h words refl)
  where
    same : (X Y : Set) → Some X ≡ Some Y → X ≡ Y
    same X Y e = cc

pub well_made : (b : Tables) (plan : Plan) (session : ℕ) (seat : Seat) (theta : ℕ) → IsBank b → IsPlanFor b plan → IsSeat b plan seat → theta < b.grid → IsWellMade (seat_problem b plan session seat theta)
well_made b plan session seat theta bank for_bank is within =
    record {
      bank = bank;
      plan = for_bank;
      point = within;
      given_items = is.items;
      barred_items = λ i e. ltb-true i (size b) (and_true _ _ e).0;
      apart = λ i e. not_both _ (is_shown seat i) _ e;
      last_given = λ item e. found_at seat.shown (length seat.shown - 1) item e;
      last_none = λ e i. ap (λ (xs : List ℕ). list_any (λ item. item == i) xs) (no_item seat.shown e);
      start_items = start_is b seat.form is.form_items;
    }

pub problem_made :
    (b : Tables) (plan : Plan) (session : ℕ) (seat : Seat) (theta step band : ℕ) (aside : Bool) (last : Option ℕ) (given barred : Set)
    → step ≡ length seat.responses → band ≡ band_of plan theta → aside ≡ is_aside_in seat band → last ≡ last_shown seat → ((i : ℕ) → given i ≡ is_shown seat i) → ((i : ℕ) → barred i ≡ is_barred b seat (is_unavailable_in seat band) i)
    → (let P : Problem = record { bank = b; plan = plan; session = session; step = step; aside = aside; given = given; barred = barred; theta = theta; last = last; start = option_map has seat.form } in P ≡ seat_problem b plan session seat theta)
problem_made b plan session seat theta step band aside last given barred e-step e-band e-aside e-last e-given e-barred =
    let given_is : given ≡ is_shown seat = fun_ext e-given in
    let barred_is : barred ≡ is_barred b seat (is_unavailable_in seat (band_of plan theta)) = fun_ext e-barred ∙ ap (λ (k : ℕ). is_barred b seat (is_unavailable_in seat k)) e-band in
    same step aside last given barred e-step (e-aside ∙ ap (is_aside_in seat) e-band) e-last given_is barred_is
  where
    same : (step : ℕ) (aside : Bool) (last : Option ℕ) (given barred : Set) → step ≡ length seat.responses → aside ≡ is_aside_in seat (band_of plan theta) → last ≡ last_shown seat → given ≡ is_shown seat → barred ≡ is_barred b seat (is_unavailable_in seat (band_of plan theta))
        → (let P : Problem = record { bank = b; plan = plan; session = session; step = step; aside = aside; given = given; barred = barred; theta = theta; last = last; start = option_map has seat.form } in P ≡ seat_problem b plan session seat theta)
    same step aside last given barred p a q r s = cc

-- ---- no more items are given than were shown
step_one : (x n : ℕ) → count_in n (λ i. x == i) (λ _. true) ≤ cond (nat_lt x n) 1 0 → count_in (suc n) (λ i. x == i) (λ _. true) ≤ cond (nat_lt x (suc n)) 1 0
step_one x n h =
    elim (eqb_tells x n) [
      | inl (e, same) ↦
          let low : nat_lt x n ≡ false = le-ltb x n (omega arith) in
          let high : nat_lt x (suc n) ≡ true = lt-ltb x (suc n) (omega arith) in
          let none : count_in n (λ i. x == i) (λ _. true) ≤ 0 = subst (λ (b : Bool). count_in n (λ i. x == i) (λ _. true) ≤ cond b 1 0) low h in
          rw (e, high) (omega (arith, none))
      | inr (e, differs) ↦
          elim (cases_lt x n) [
            | inl before ↦
                let low : nat_lt x n ≡ true = lt-ltb x n before in
                let high : nat_lt x (suc n) ≡ true = lt-ltb x (suc n) (omega arith) in
                let one : count_in n (λ i. x == i) (λ _. true) ≤ 1 = subst (λ (b : Bool). count_in n (λ i. x == i) (λ _. true) ≤ cond b 1 0) low h in
                rw (e, high) (omega (arith, one))
            | inr past ↦
                let low : nat_lt x n ≡ false = le-ltb x n past in
                let none : count_in n (λ i. x == i) (λ _. true) ≤ 0 = subst (λ (b : Bool). count_in n (λ i. x == i) (λ _. true) ≤ cond b 1 0) low h in
                rw e (omega (arith, none))
          ]
    ]

pub one_of : (n x : ℕ) → count_in n (λ i. x == i) (λ _. true) ≤ cond (nat_lt x n) 1 0
one_of zero x = omega arith
one_of (suc n) x = step_one x n (one_of n x)

either_of : (n : ℕ) (A B : Set) → count_in n (λ i. A i || B i) (λ _. true) ≤ count_in n A (λ _. true) + count_in n B (λ _. true)
either_of zero A B = omega arith
either_of (suc n) A B = omega (arith, either_of n A B, step (A n) (B n))
  where
    step : (a b : Bool) → ◌≤◌ (cond (a || b) 1 0) (cond a 1 0 + cond b 1 0)
    step true b = omega arith
    step false b = omega arith

none_of : (n : ℕ) → count_in n (λ _. false) (λ _. true) ≤ 0
none_of zero = omega arith
none_of (suc n) = omega (arith, none_of n)

at_most_one : (b : Bool) → ◌≤◌ (cond b 1 0) 1
at_most_one true = omega arith
at_most_one false = omega arith

few_found : (n : ℕ) (xs : List ℕ) → count_in n (λ i. list_any (λ item. item == i) xs) (λ _. true) ≤ length xs
few_found n [] = none_of n
few_found n (x ∷ xs) = omega (arith, either_of n (λ i. x == i) (λ i. list_any (λ item. item == i) xs), one_of n x, at_most_one (nat_lt x n), few_found n xs)

-- ---- so a form has one that wasn't
not_shown : (held shown : Bool) → (held && not shown) ≡ true → (held ≡ true) × (shown ≡ false)
not_shown true true e = absurd (true≢false (sym e))
not_shown true false e = (refl, refl)
not_shown false shown e = absurd (true≢false (sym e))

all_shown : (held shown : Bool) → (held && not shown) ≡ false → held ≡ true → shown ≡ true
all_shown true true e h = refl
all_shown true false e h = absurd (true≢false e)
all_shown false shown e h = absurd (true≢false (sym h))

any_none : (n : ℕ) (p : Set) → any_below n p ≡ false → (i : ℕ) → i < n → p i ≡ false
any_none n p none i w = elim (either (p i)) [ inl passes ↦ absurd (true≢false (sym (any_intro n p i w passes) ∙ none)) | inr fails ↦ fails ]

of_seat : (b : Tables) (plan : Plan) (session : ℕ) (seat : Seat) (theta : ℕ) (X : Set) → IsPending plan seat → Form (seat_problem b plan session seat theta) X → HasFreeItem (seat_problem b plan session seat theta) X
of_seat b plan session seat theta X pending form =
    let P = seat_problem b plan session seat theta in
    elim (either (any_below (size b) (is_not_given P X))) [
      | inl some ↦
          let (item, within, passes) = any_elim (size b) (is_not_given P X) some in
          let parts = not_shown (X item) (is_shown seat item) passes in
          record { item = item; held = parts.0; not_given = parts.1 }
      | inr none ↦
          let most : size_in b X ≤ count_in (size b) (is_shown seat) (λ _. true) = sum_in-le (size b) X (is_shown seat) (λ _. 1) (λ i w e. all_shown (X i) (is_shown seat i) (any_none (size b) (is_not_given P X) none i w) e) in
          absurd (omega (arith, most, few_found (size b) seat.shown, form.meets.right_length.n_items, pending.not_complete, pending.answered))
    ]

pub free_item_is_left : FreeItemIsLeft
free_item_is_left b plan session seat P X pending problem form =
    subst (λ (Q : Problem). HasFreeItem Q X) (sym problem.is) (of_seat b plan session seat problem.theta X pending (subst (λ (Q : Problem). Form Q X) problem.is form))
