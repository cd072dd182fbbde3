-- A session for which eligibility is set aside has a form.
use Rattle.std.proofs.Common.{◌≡◌, ℕ, Bool, true, false, not, ◌&&◌, ◌||◌, ◌==◌, List, [], ◌∷◌, length, Option, Some, None, refl, sym, ap, ◌∙◌, subst, arith, nat_lt, unwrap_or}
use Rattle.std.specs.List.{list_any}
use Rattle.std.specs.Option.{option_map, option_map_or}
use Rattle.std.proofs.Math.Bool.{true≢false}
use Rattle.bank_tables.specs.Items.{Set, has}
use Rattle.bank_tables.specs.Tables.{Tables, size, stimulus}
use Rattle.serving_model.specs.declared.seat.Seat.{Seat}
use Rattle.form_model.specs.Plan.{Plan, band_of}
use Rattle.form_model.specs.Problem.{Problem}
use Rattle.form_model.specs.Forms.{Meets, Form}
use Rattle.serving_model.specs.Seats.{is_shown, is_of_stimulus_left_behind, is_withheld, is_barred, last_shown, eligible_in, is_aside_in, is_unavailable_in, problem_aside}
use Rattle.serving_model.specs.Serving.{last_stimulus}
use Rattle.form_model.proofs.SumLaws.{or_right}
use Rattle.history_model.specs.Entries.{seat_of}
use Rattle.history_model.specs.SessionProblems.{problem_once_aside, fallback}
use Rattle.history_model.specs.Laws.{FormOnceAside, FormWhereAside}
use Rattle.history_model.proofs.Running.{seat_is_seat, last_form_stays}

no_items : (xs : List ℕ) → length xs ≡ 0 → xs ≡ []
no_items [] e = refl
no_items (x ∷ xs) e = absurd (omega arith)

-- a seat without a list that was shown nothing, with eligibility set aside, bars nothing
module _ (b : Tables) (plan : Plan) (s theta : ℕ) (seat : Seat) (none : seat.shown ≡ []) (unlisted : seat.without ≡ None) where
  not_barred : (i : ℕ) → is_barred b seat (λ _. false) i ≡ false
  not_barred i =
      ap (λ (xs : List ℕ). nat_lt i (size b) && (not (list_any (λ item. item == i) xs) && ((not (stimulus b i == 0) && (list_any (λ item. stimulus b item == stimulus b i) xs && not (stimulus b i == last_stimulus b (last_shown seat)))) || (is_withheld seat i || false)))) none
      ∙ (ap (λ (list : Option (List ℕ)). nat_lt i (size b) && (true && ((not (stimulus b i == 0) && false) || (option_map_or (λ words. has words i) list false || false)))) unlisted
      ∙ by (nat_lt i (size b)) (not (stimulus b i == 0)))
    where
      by : (t u : Bool) → (t && (true && ((u && false) || (false || false)))) ≡ false
      by true true = refl
      by true false = refl
      by false true = refl
      by false false = refl

  pub form_unshown : (X : Set) → Meets b plan X → Form (problem_aside b plan s seat theta) X
  form_unshown X meets = record {
    meets = meets;
    holds_given = λ i given. absurd (true≢false (sym given ∙ rw none refl));
    holds_no_barred = λ i barred. absurd (true≢false (sym barred ∙ not_barred i));
  }

pub form_once_aside : FormOnceAside
form_once_aside b plan H s step P base run is meets = by seat.form refl
  where
    seat : Seat
    seat = seat_of H s

    start : P.start ≡ option_map has seat.form
    start = ap (λ (Q : Problem). Q.start) is.of_seat.is

    by : (o : Option (List ℕ)) → seat.form ≡ o → Form (problem_once_aside b plan H s P.theta) (fallback P base)
    by (Some words) there =
        let e : P.start ≡ Some (has words) = start ∙ ap (λ (f : Option (List ℕ)). option_map has f) there in
        subst (λ (o : Option Set). Form (problem_once_aside b plan H s P.theta) (unwrap_or o base)) (sym e) (last_form_stays b plan H s P.theta words run there)
    by None none =
        let e : P.start ≡ None = start ∙ ap (λ (f : Option (List ℕ)). option_map has f) none in
        let empty : seat.shown ≡ [] = no_items seat.shown ((seat_is_seat b plan H s run).form_none none) in
        subst (λ (o : Option Set). Form (problem_once_aside b plan H s P.theta) (unwrap_or o base)) (sym e) (form_unshown b plan s P.theta seat empty ((seat_is_seat b plan H s run).list_form none) base meets)

pub form_where_aside : FormWhereAside
form_where_aside b plan H s step P base run is meets aside =
    let form = form_once_aside b plan H s step P base run is meets in
    record { meets = subst (λ (Q : Problem). Meets Q.bank Q.plan (fallback P base)) (sym is.of_seat.is) form.meets; holds_given = given form; holds_no_barred = barred form }
  where
    seat : Seat
    seat = seat_of H s

    theta : ℕ
    theta = is.of_seat.theta

    unavailable : Set
    unavailable = is_unavailable_in seat (band_of plan theta)

    set_aside : is_aside_in seat (band_of plan theta) ≡ true
    set_aside = sym (ap (λ (Q : Problem). Q.aside) is.of_seat.is) ∙ aside

    no_unavailable : (i : ℕ) → unavailable i ≡ false
    no_unavailable i = ap not (or_right (eligible_in seat (band_of plan theta) i) _ set_aside)

    given : Form (problem_once_aside b plan H s P.theta) (fallback P base) → (i : ℕ) → P.given i ≡ true → fallback P base i ≡ true
    given form i e = form.holds_given i (ap (λ (Q : Problem). Q.given i) (sym is.of_seat.is) ∙ e)

    less : (i : ℕ) → is_barred b seat unavailable i ≡ is_barred b seat (λ _. false) i
    less i = ap (λ (t : Bool). nat_lt i (size b) && (not (is_shown seat i) && (is_of_stimulus_left_behind b seat i || (is_withheld seat i || t)))) (no_unavailable i)

    barred : Form (problem_once_aside b plan H s P.theta) (fallback P base) → (i : ℕ) → P.barred i ≡ true → fallback P base i ≡ false
    barred form i e = form.holds_no_barred i (sym (less i) ∙ (ap (λ (Q : Problem). Q.barred i) (sym is.of_seat.is) ∙ e))
