-- What each entry does to a seat: it stays one, and the form last served from stays a form of its
-- problem.
use Rattle.std.proofs.Common.{◌≡◌, ℕ, zero, suc, ◌+◌, ◌<◌, ◌⊎◌, inl, inr, Bool, true, false, not, ◌&&◌, ◌||◌, ◌==◌, List, [], ◌∷◌, ◌++◌, length, slice_get, Option, Some, None, refl, sym, ap, ◌∙◌, subst, arith, nat_lt, length-append}
use Rattle.std.specs.List.{list_any}
use Rattle.std.specs.Option.{option_map_or}
use Rattle.std.proofs.Math.Bool.{true≢false}
use Rattle.std.proofs.lemmas.Bool.{eqb-true, eq-eqb, lt-ltb}
use Rattle.std.proofs.lemmas.List.Folds.{list_any-append}
use Rattle.bank_tables.specs.Items.{Set, has}
use Rattle.bank_tables.specs.Tables.{Tables, size, stimulus, categories}
use Rattle.bank_tables.specs.Validity.{HoldsItems}
use Rattle.serving_model.specs.declared.seat.Seat.{Seat}
use Rattle.form_model.specs.Plan.{Plan, band_of}
use Rattle.form_model.specs.Problem.{Problem}
use Rattle.form_model.specs.Forms.{Meets, Form}
use Rattle.serving_model.specs.Seats.{is_shown, is_of_stimulus_left_behind, is_withheld, is_barred, last_shown, is_unavailable_in, seat_problem, problem_aside, IsSeat}
use Rattle.serving_model.specs.Serving.{IsNext, last_stimulus}
use Rattle.form_model.proofs.SumLaws.{either, and_true, both, or_true, or_left, or_right}
use Rattle.serving_model.proofs.Staying.{form_stays_aside}
use Rattle.history_model.specs.Lists.{IsFormWithout}
use Rattle.history_model.proofs.Standing.{before_end}

-- the seat is one, and its form is a form of its problem once eligibility is set aside, whatever
-- the estimate
pub record Stands (b : Tables) (plan : Plan) (s : ℕ) (seat : Seat) : Type 0 where
  pub is_seat : IsSeat b plan seat
  pub keeps : (words : List ℕ) (theta : ℕ) → seat.form ≡ Some words → Form (problem_aside b plan s seat theta) (has words)

-- ---- a list with an element more
last_number : (xs : List ℕ) (x : ℕ) → length (xs ++ x ∷ []) ≡ length xs + 1
last_number xs x = omega (arith, length-append xs (x ∷ []))

-- an element of the longer list is at its place in the shorter one, or is the new element at the
-- end
old_or_new : (xs : List ℕ) (x k y : ℕ) → slice_get (xs ++ x ∷ []) k ≡ Some y → (slice_get xs k ≡ Some y) ⊎ ((k ≡ length xs) × (y ≡ x))
old_or_new [] x zero y e = inr (refl, cc)
old_or_new [] x (suc k) y e = absurd (cc)
old_or_new (z ∷ xs) x zero y e = inl e
old_or_new (z ∷ xs) x (suc k) y e = elim (old_or_new xs x k y e) [ inl old ↦ inl old | inr new ↦ inr (omega (arith, new.0), new.1) ]

pub shown_at : (xs : List ℕ) (k x : ℕ) → slice_get xs k ≡ Some x → list_any (λ y. y == x) xs ≡ true
shown_at [] k x e = absurd (cc)
shown_at (y ∷ xs) zero x e = let f : y ≡ x = cc in or_left _ _ (eq-eqb y x f)
shown_at (y ∷ xs) (suc k) x e = or_right _ _ (shown_at xs k x e)

no_words : (form : Option (List ℕ)) (words : List ℕ) → form ≡ None → form ≡ Some words → ⊥
no_words form words e f = cc

words_same : (a b : List ℕ) → ◌≡◌ {A = Option (List ℕ)} (Some a) (Some b) → a ≡ b
words_same a b e = cc

-- with no item unavailable fewer are barred
pub barred_more : (b : Tables) (seat : Seat) (unavailable : Set) (i : ℕ) → is_barred b seat (λ _. false) i ≡ true → is_barred b seat unavailable i ≡ true
barred_more b seat unavailable i e = by (nat_lt i (size b)) (is_shown seat i) (is_of_stimulus_left_behind b seat i) (is_withheld seat i) e
  where
    by : (in_bank shown left withheld : Bool) → (in_bank && (not shown && (left || (withheld || false)))) ≡ true → (in_bank && (not shown && (left || (withheld || unavailable i)))) ≡ true
    by true false true withheld h = refl
    by true false false true h = refl
    by true false false false h = absurd (true≢false (sym h))
    by true true left withheld h = absurd (true≢false (sym h))
    by false shown left withheld h = absurd (true≢false (sym h))

-- ---- a seat without items
module _ (b : Tables) (plan : Plan) (seat : Seat) (e : seat.shown ≡ []) (f : seat.responses ≡ []) where
  not_shown : (i : ℕ) → is_shown seat i ≡ true → ⊥
  not_shown i h = true≢false (sym h ∙ ap (λ (xs : List ℕ). list_any (λ x. x == i) xs) e)

  bare_seat : ((words : List ℕ) → seat.form ≡ Some words → HoldsItems b (has words)) → (seat.without ≡ None → seat.form ≡ None) → (seat.form ≡ None → seat.without ≡ None) → IsSeat b plan seat
  bare_seat items unlisted listed =
      let none : length seat.shown ≡ 0 = ap (λ (xs : List ℕ). length xs) e in
      let neither : length seat.responses ≡ 0 = ap (λ (xs : List ℕ). length xs) f in
      let nothing : (k x : ℕ) → slice_get seat.shown k ≡ Some x → ⊥ = λ k x h. let w = before_end seat.shown k x h in omega arith in
      record {
        items = λ i h. absurd (not_shown i h);
        once = λ j k item h q. absurd (nothing j item h);
        few = omega (arith, none);
        responses = inl (neither ∙ sym none);
        in_range = λ k item response h q. absurd (nothing k item h);
        form_items = items;
        form_none = λ h. none;
        form_some = λ h n. unlisted n;
        list_form = listed;
        not_withheld = λ i h. absurd (not_shown i h);
      }

pub new_stands : (b : Tables) (plan : Plan) (s : ℕ) (seat : Seat) → seat.shown ≡ [] → seat.responses ≡ [] → seat.without ≡ None → seat.form ≡ None → Stands b plan s seat
new_stands b plan s seat e f unlisted g =
    record {
      is_seat = bare_seat b plan seat e f (λ words h. absurd (no_words seat.form words g h)) (λ n. g) (λ h. unlisted);
      keeps = λ words theta h. absurd (no_words seat.form words g h);
    }

-- one with a list has the form without its items
module _ (b : Tables) (plan : Plan) (s : ℕ) (seat : Seat) (items form : List ℕ) (e : seat.shown ≡ []) (listed : seat.without ≡ Some items) (witness : IsFormWithout b plan (has items) (has form)) where
  held : (i : ℕ) → has items i ≡ true → has form i ≡ false
  held i h = witness.form.holds_no_barred i (ap (λ (P : Problem). P.barred i) witness.is_whole.is ∙ h)

  meets_plan : Meets b plan (has form)
  meets_plan = subst (λ (P : Problem). Meets P.bank P.plan (has form)) witness.is_whole.is witness.form.meets

  -- nothing but its items is barred
  barred_is_listed : (i : ℕ) → is_barred b seat (λ _. false) i ≡ true → has items i ≡ true
  barred_is_listed i h = by (nat_lt i (size b)) (not (stimulus b i == 0)) (has items i) (sym spelled ∙ h)
    where
      spelled : is_barred b seat (λ _. false) i ≡ (nat_lt i (size b) && (true && ((not (stimulus b i == 0) && false) || (has items i || false))))
      spelled =
          ap (λ (xs : List ℕ). nat_lt i (size b) && (not (list_any (λ item. item == i) xs) && ((not (stimulus b i == 0) && (list_any (λ item. stimulus b item == stimulus b i) xs && not (stimulus b i == last_stimulus b (last_shown seat)))) || (is_withheld seat i || false)))) e
          ∙ ap (λ (list : Option (List ℕ)). nat_lt i (size b) && (true && ((not (stimulus b i == 0) && false) || (option_map_or (λ words. has words i) list false || false)))) listed

      by : (t u v : Bool) → (t && (true && ((u && false) || (v || false)))) ≡ true → v ≡ true
      by t u true h = refl
      by true true false h = absurd (true≢false (sym h))
      by true false false h = absurd (true≢false (sym h))
      by false u false h = absurd (true≢false (sym h))

  form_listed : (theta : ℕ) → Form (problem_aside b plan s seat theta) (has form)
  form_listed theta = record {
    meets = meets_plan;
    holds_given = λ i given. absurd (true≢false (sym given ∙ ap (λ (xs : List ℕ). list_any (λ x. x == i) xs) e));
    holds_no_barred = λ i barred. held i (barred_is_listed i barred);
  }

  pub listed_stands : seat.responses ≡ [] → seat.form ≡ Some form → Stands b plan s seat
  listed_stands f g =
      record {
        is_seat = bare_seat b plan seat e f
            (λ words h. subst (λ (ws : List ℕ). HoldsItems b (has ws)) (words_same form words (sym g ∙ h)) meets_plan.right_length.in_bank)
            (λ n. absurd (no_words seat.without items n listed))
            (λ h. absurd (no_words seat.form form h g));
        keeps = λ words theta h. subst (λ (ws : List ℕ). Form (problem_aside b plan s seat theta) (has ws)) (words_same form words (sym g ∙ h)) (form_listed theta);
      }

module _ (b : Tables) (plan : Plan) (s : ℕ) (seat : Seat) (stands : Stands b plan s seat) where
  is : IsSeat b plan seat
  is = stands.is_seat

  -- ---- eligibility is set aside in a band
  pub aside_stands : (flags : List Bool) → Stands b plan s (record seat { aside = flags })
  aside_stands flags =
      record {
        is_seat = record { items = stands.is_seat.items; once = stands.is_seat.once; few = stands.is_seat.few; responses = stands.is_seat.responses; in_range = stands.is_seat.in_range; form_items = stands.is_seat.form_items; form_none = stands.is_seat.form_none; form_some = stands.is_seat.form_some; list_form = stands.is_seat.list_form; not_withheld = stands.is_seat.not_withheld };
        keeps = λ words theta h. let form = stands.keeps words theta h in record { meets = form.meets; holds_given = form.holds_given; holds_no_barred = form.holds_no_barred };
      }

  -- ---- closing changes no list
  pub closed_stands : Stands b plan s (record seat { closed = true })
  closed_stands =
      record {
        is_seat = record { items = stands.is_seat.items; once = stands.is_seat.once; few = stands.is_seat.few; responses = stands.is_seat.responses; in_range = stands.is_seat.in_range; form_items = stands.is_seat.form_items; form_none = stands.is_seat.form_none; form_some = stands.is_seat.form_some; list_form = stands.is_seat.list_form; not_withheld = stands.is_seat.not_withheld };
        keeps = λ words theta h. let form = stands.keeps words theta h in record { meets = form.meets; holds_given = form.holds_given; holds_no_barred = form.holds_no_barred };
      }

  -- ---- the item shown last is answered
  pub answered_stands : (item response : ℕ) → length seat.responses + 1 ≡ length seat.shown → slice_get seat.shown (length seat.responses) ≡ Some item → response < categories b item → Stands b plan s (record seat { responses = seat.responses ++ response ∷ [] })
  answered_stands item response waits last within =
      let number = last_number seat.responses response in
      record {
        is_seat =
            record {
              items = stands.is_seat.items;
              once = stands.is_seat.once;
              few = stands.is_seat.few;
              responses = inl (omega (arith, number, waits));
              in_range =
                  λ k x r e h.
                  elim (old_or_new seat.responses response k r h) [
                    | inl old ↦ stands.is_seat.in_range k x r e old
                    | inr new ↦
                        let same : x ≡ item = let f = sym e ∙ (ap (λ (n : ℕ). slice_get seat.shown n) new.0 ∙ last) in cc in
                        subst (λ (i : ℕ). r < categories b i) (sym same) (subst (λ (m : ℕ). m < categories b item) (sym new.1) within)
                  ];
              form_items = stands.is_seat.form_items;
              form_none = stands.is_seat.form_none;
              form_some = stands.is_seat.form_some;
              list_form = stands.is_seat.list_form;
              not_withheld = stands.is_seat.not_withheld;
            };
        keeps = λ words theta h. let form = stands.keeps words theta h in record { meets = form.meets; holds_given = form.holds_given; holds_no_barred = form.holds_no_barred };
      }

  -- ---- the next item of a form is shown
  module _ (words : List ℕ) (item theta : ℕ) (proved : Bool) (answered : length seat.shown ≡ length seat.responses) (not_full : length seat.responses < plan.length)
      (form : Form (seat_problem b plan s seat theta) (has words)) (next : IsNext (seat_problem b plan s seat theta) (has words) item) where
    held_and_fresh : (has words item ≡ true) × (is_shown seat item ≡ false)
    held_and_fresh = by (has words item) (is_shown seat item) (and_true _ _ next.candidate).0
      where
        by : (held given : Bool) → (held && not given) ≡ true → (held ≡ true) × (given ≡ false)
        by true true e = absurd (true≢false (sym e))
        by true false e = (refl, refl)
        by false given e = absurd (true≢false (sym e))

    shown_items : (i : ℕ) → list_any (λ x. x == i) (seat.shown ++ item ∷ []) ≡ true → i < size b
    shown_items i h =
        elim (or_true (is_shown seat i) (list_any (λ x. x == i) (item ∷ [])) (sym (list_any-append (λ x. x == i) seat.shown (item ∷ [])) ∙ h)) [
          | inl old ↦ stands.is_seat.items i old
          | inr new ↦ elim (or_true (item == i) false new) [ inl same ↦ subst (λ (k : ℕ). k < size b) (eqb-true item i same) (form.meets.right_length.in_bank item held_and_fresh.0) | inr differs ↦ absurd (true≢false (sym differs)) ]
        ]

    -- an item that is withheld is barred, so no form holds it
    item_allowed : is_withheld seat item ≡ false
    item_allowed = elim (either (is_withheld seat item)) [
      | inl withheld ↦
          let in_bank : nat_lt item (size b) ≡ true = lt-ltb item (size b) (form.meets.right_length.in_bank item held_and_fresh.0) in
          let may_not = or_right (is_of_stimulus_left_behind b seat item) _ (or_left (is_withheld seat item) (is_unavailable_in seat (band_of plan theta) item) withheld) in
          absurd (true≢false (sym held_and_fresh.0 ∙ form.holds_no_barred item (both _ _ in_bank (both _ _ (ap not held_and_fresh.1) may_not))))
      | inr allowed ↦ allowed
    ]

    shown_allowed : (i : ℕ) → list_any (λ x. x == i) (seat.shown ++ item ∷ []) ≡ true → is_withheld seat i ≡ false
    shown_allowed i h =
        elim (or_true (is_shown seat i) (list_any (λ x. x == i) (item ∷ [])) (sym (list_any-append (λ x. x == i) seat.shown (item ∷ [])) ∙ h)) [
          | inl old ↦ stands.is_seat.not_withheld i old
          | inr new ↦ elim (or_true (item == i) false new) [ inl same ↦ subst (λ (k : ℕ). is_withheld seat k ≡ false) (eqb-true item i same) item_allowed | inr differs ↦ absurd (true≢false (sym differs)) ]
        ]

    not_again : (j x : ℕ) → slice_get seat.shown j ≡ Some x → x ≡ item → ⊥
    not_again j x e f = true≢false (sym (shown_at seat.shown j item (e ∙ ap (λ (y : ℕ). Some y) f)) ∙ held_and_fresh.1)

    shown_once : (j k x : ℕ) → slice_get (seat.shown ++ item ∷ []) j ≡ Some x → slice_get (seat.shown ++ item ∷ []) k ≡ Some x → j ≡ k
    shown_once j k x e h =
        elim (old_or_new seat.shown item j x e) [
          | inl j-old ↦ elim (old_or_new seat.shown item k x h) [ inl k-old ↦ stands.is_seat.once j k x j-old k-old | inr k-new ↦ absurd (not_again j x j-old k-new.1) ]
          | inr j-new ↦ elim (old_or_new seat.shown item k x h) [ inl k-old ↦ absurd (not_again k x k-old j-new.1) | inr k-new ↦ j-new.0 ∙ sym k-new.0 ]
        ]

    pub served_stands : Stands b plan s (record seat { shown = seat.shown ++ item ∷ []; form = Some words; proved = proved })
    served_stands =
        let number = last_number seat.shown item in
        record {
          is_seat =
              record {
                items = shown_items;
                once = shown_once;
                few = omega (arith, number, not_full, answered);
                responses = inr (omega (arith, number, answered));
                in_range =
                    λ k x response e h.
                    let within : k < length seat.responses = before_end seat.responses k response h in
                    elim (old_or_new seat.shown item k x e) [ inl old ↦ stands.is_seat.in_range k x response old h | inr new ↦ absurd (omega (arith, new.0, within, answered)) ];
                form_items = λ others e. subst (λ (ws : List ℕ). HoldsItems b (has ws)) (words_same words others e) form.meets.right_length.in_bank;
                form_none = λ e. absurd (no_words (Some words) words e refl);
                form_some = λ e n. absurd (omega (arith, number, e));
                list_form = λ e. absurd (no_words (Some words) words e refl);
                not_withheld = shown_allowed;
              };
          keeps = λ others later e.
              let aside : Form (problem_aside b plan s seat theta) (has words) = record { meets = form.meets; holds_given = form.holds_given; holds_no_barred = λ i barred. form.holds_no_barred i (barred_more b seat (is_unavailable_in seat (band_of plan theta)) i barred) } in
              let stays = form_stays_aside b plan s theta item 0 later seat words aside next in
              let here : Form (problem_aside b plan s (record seat { shown = seat.shown ++ item ∷ []; form = Some words; proved = proved }) later) (has words) = record { meets = stays.meets; holds_given = stays.holds_given; holds_no_barred = stays.holds_no_barred } in
              subst (λ (ws : List ℕ). Form (problem_aside b plan s (record seat { shown = seat.shown ++ item ∷ []; form = Some words; proved = proved }) later) (has ws)) (words_same words others e) here;
        }
