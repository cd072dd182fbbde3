-- Each legal run is a legal history as the headline states it.
use Rattle.std.proofs.Common.{◌≡◌, ℕ, zero, suc, Bool, cond, ◌&&◌, List, [], ◌∷◌, length, slice_get, Option, Some, None, refl, sym, ap, ◌∙◌, subst, arith, nat_lt}
use Rattle.std.specs.Prelude.{nat_le, Contains, filter_map}
use Rattle.std.proofs.lemmas.Bool.{eq-eqb, lt-ltb}
use Rattle.bank_tables.specs.Items.{Set, has}
use Rattle.bank_tables.specs.Tables.{Tables, size}
use Rattle.form_model.specs.Ability.{IsPosteriorMode}
use Rattle.form_model.specs.Forms.{Form, Best, HasNoForm, Meets}
use Rattle.form_model.specs.Plan.{Plan, band_of, bands_of}
use Rattle.form_model.specs.Problem.{Problem}
use Rattle.serving_model.specs.declared.seat.Seat.{Seat}
use Rattle.serving_model.specs.Seats.{answers, seat_problem, is_aside_in, IsPending}
use Rattle.serving_model.specs.Serving.{IsNext}
use Rattle.history_model.specs.declared.counts.Counts.{Counts}
use Rattle.history_model.specs.declared.entry.Bands.{Bands}
use Rattle.history_model.specs.declared.entry.Cause.{Cause}
use Rattle.history_model.specs.declared.entry.Cause.TheVariants.{NoForm, Spent}
use Rattle.history_model.specs.declared.entry.Entry.{Entry}
use Rattle.history_model.specs.declared.entry.Entry.TheVariants.{Started, SetAside, Served, Answered, Closed}
use Rattle.history_model.specs.declared.entry.Without.{Without}
use Rattle.history_model.specs.declared.place.Place.TheVariants.{Pending, Waiting}
use Rattle.history_model.specs.Counts.{band_counts}
use Rattle.history_model.specs.Draws.{AreDrawn, draw_word, is_admitted}
use Rattle.history_model.specs.Entries.{seat_of, holder, holder_of}
use Rattle.history_model.specs.Legality.{Legal, LegalRun, empty, more, IsLegalStart, IsLegalAside, IsLegalServing, IsLegalAnswer, IsLegalClosing, IsLegalCause}
use Rattle.history_model.specs.Lists.{IsLegalWithout}
use Rattle.history_model.specs.Lists as lists
use Rattle.history_model.specs.SessionProblems.{IsProblemOf}
use Rattle.history_model.proofs.Running.{pending_is_of_seat}
use Rattle.headline_model.specs.Counts.{IsDrawn}
use Rattle.headline_model.specs.Forms.{IsForm, IsBestForm, IsNextItem}
use Rattle.headline_model.specs.Legal.{IsLegalList, IsStart, IsToServe, IsCause, IsAside, IsServing, IsAnswer, IsClosing, MayAdd, empty as no_entry, more as one_more}
use Rattle.headline_model.specs.Laws.{LegalRunIsLegal}
use Rattle.headline_model.specs.Sessions.{seat_after}
use Rattle.headline_model.proofs.Counted.{counts_in_is}
use Rattle.headline_model.proofs.FormsOf.{is_form, is_best, has_none, is_next}
use Rattle.headline_model.proofs.Seats.{seat_is, started, place_of_seat, waits, goes, not_full}

-- ---- a start
some_is_not_none : {A : Type 0} (x : A) → ◌≡◌ {A = Option A} (Some x) None → ⊥
some_is_not_none x e = cc

abbrev behind : ℕ → List Entry → Option ℕ → List ℕ
behind booking xs (Some t) = t ∷ filter_map (holder_of booking) xs
behind booking xs None = filter_map (holder_of booking) xs

later : (booking : ℕ) (xs : List Entry) (o : Option ℕ) → slice_get (behind booking xs o) 0 ≡ None → holder xs booking ≡ None
later booking xs (Some t) f = absurd (some_is_not_none t f)
later booking xs None f = f

holder_by : (booking : ℕ) (x : Entry) (xs : List Entry) → holder (x ∷ xs) booking ≡ slice_get (behind booking xs (holder_of booking x)) 0
holder_by booking x xs = by (holder_of booking x) refl
  where
    by : (o : Option ℕ) → holder_of booking x ≡ o → holder (x ∷ xs) booking ≡ slice_get (behind booking xs (holder_of booking x)) 0
    by (Some t) e = grind arith
    by None e = grind arith

own_booking : (booking s : ℕ) (e : Bands) (w : Option Without) → holder_of booking (Started s booking e w) ≡ Some s
own_booking booking s e w = ap (λ (c : Bool). cond c (Some s) None) (eq-eqb booking booking refl)

none_booked : (H : List Entry) (booking s : ℕ) (e : Bands) (w : Option Without) → holder H booking ≡ None → Contains H (Started s booking e w) → ⊥
none_booked [] booking s e w none (k, below, at) = omega arith
none_booked (x ∷ xs) booking s e w none (zero, below, at) =
    let here : holder_of booking x ≡ Some s = ap (λ (z : Entry). holder_of booking z) at ∙ own_booking booking s e w in
    some_is_not_none s (ap (λ (o : Option ℕ). slice_get (behind booking xs o) 0) (sym here) ∙ (sym (holder_by booking x xs) ∙ none))
none_booked (x ∷ xs) booking s e w none (suc k, below, at) =
    none_booked xs booking s e w (later booking xs (holder_of booking x) (sym (holder_by booking x xs) ∙ none)) (k, omega arith, at)

module _ (b : Tables) (plan : Plan) (H : List Entry) (run : LegalRun b plan H) where
  drawn : (session : ℕ) (eligible : Bands) → AreDrawn b plan H session eligible → IsDrawn b plan H session eligible
  drawn session eligible are = record {
    number = are.number;
    each = λ band i of_plan of_bank.
        are.each band i
        ∙ (ap (λ (c : Bool). c && (nat_lt i (size b) && is_admitted (draw_word plan.key session band i) plan.rate (band_counts b plan H band i))) (lt-ltb band (bands_of plan) of_plan)
        ∙ (ap (λ (c : Bool). c && is_admitted (draw_word plan.key session band i) plan.rate (band_counts b plan H band i)) (lt-ltb i (size b) of_bank)
        ∙ ap (λ (c : Counts). is_admitted (draw_word plan.key session band i) plan.rate c) (counts_in_is b plan H band i run)));
  }

  list_is : (list : Without) → lists.IsLegalList b plan list → IsLegalList b plan list
  list_is list legal = record {
    of_bank = legal.items.of_bank;
    meets = subst (λ (P : Problem). Meets P.bank P.plan (has list.form)) legal.witness.is_whole.is legal.witness.form.meets;
    without = λ i listed. legal.witness.form.holds_no_barred i (ap (λ (P : Problem). P.barred i) legal.witness.is_whole.is ∙ listed);
  }

  listed_is : (without : Option Without) → IsLegalWithout b plan without → (list : Without) → without ≡ Some list → IsLegalList b plan list
  listed_is None legal list e = absurd (some_is_not_none list (sym e))
  listed_is (Some other) legal list e = subst (λ (l : Without). IsLegalList b plan l) (same_list other list e) (list_is other legal)
    where
      same_list : (x y : Without) → ◌≡◌ {A = Option Without} (Some x) (Some y) → x ≡ y
      same_list x y e = cc

  start_is : (session booking : ℕ) (eligible : Bands) (without : Option Without) → IsLegalStart b plan H session booking eligible without → IsStart b plan H session booking eligible without
  start_is session booking eligible without legal = record {
    number = legal.number.next;
    within = legal.number.within;
    not_booked = λ s e w there. none_booked H booking s e w legal.not_booked there;
    drawn = drawn session eligible legal.drawn;
    listed = listed_is without legal.listed;
  }

  -- ---- a session whose step is to be served
  module _ (session step : ℕ) (P : Problem) (is : IsProblemOf b plan H session step P) where
    same : seat_of H session ≡ seat_after H session
    same = seat_is b plan H session run

    pub problem_is : P ≡ seat_problem b plan session (seat_after H session) is.of_seat.theta
    problem_is = is.of_seat.is ∙ ap (λ (t : Seat). seat_problem b plan session t is.of_seat.theta) same

    pub to_serve : IsToServe b plan H session step is.of_seat.theta
    to_serve =
        let pending = pending_is_of_seat b plan H session step run is.pending in
        record {
          started = started b plan H session (Pending step) run is.pending;
          pending = subst (λ (t : Seat). IsPending plan t) same pending.0;
          step_is = sym pending.1 ∙ ap (λ (t : Seat). length t.responses) same;
          estimate = subst (λ (t : Seat). IsPosteriorMode b plan.prior (answers t) is.of_seat.theta) same is.of_seat.mode;
        }

    pub form_of : (X : Set) → Form P X → IsForm b plan (seat_after H session) is.of_seat.theta X
    form_of X form = is_form b plan session (seat_after H session) is.of_seat.theta X (subst (λ (Q : Problem). Form Q X) problem_is form)

    pub best_of : (X : Set) → Best P X → IsBestForm b plan (seat_after H session) is.of_seat.theta X
    best_of X best = is_best b plan session (seat_after H session) is.of_seat.theta X (subst (λ (Q : Problem). Best Q X) problem_is best)

    next_of : (X : Set) (item : ℕ) → Form P X → IsNext P X item → IsNextItem b (seat_after H session) is.of_seat.theta X item
    next_of X item form next =
        is_next b plan session (seat_after H session) is.of_seat.theta X (form_of X form).meets.right_length.in_bank item (subst (λ (Q : Problem). IsNext Q X item) problem_is next)

    cause_of : (cause : Cause) (nodes : ℕ) → IsLegalCause plan P cause nodes → IsCause b plan (seat_after H session) is.of_seat.theta cause nodes
    cause_of NoForm nodes none = has_none b plan session (seat_after H session) is.of_seat.theta (subst (λ (Q : Problem). HasNoForm Q) problem_is none)
    cause_of Spent nodes spent = spent

  aside_is : (session step band : ℕ) (cause : Cause) (nodes : ℕ) → IsLegalAside b plan H session step band cause nodes → IsAside b plan H session step band cause nodes
  aside_is session step band cause nodes legal =
      let at = problem_is session step legal.problem legal.is_problem in
      let band_at : band ≡ band_of plan legal.is_problem.of_seat.theta = legal.band_is ∙ ap (λ (Q : Problem). band_of plan Q.theta) at in
      record {
        theta = legal.is_problem.of_seat.theta;
        to_serve = to_serve session step legal.problem legal.is_problem;
        band_is = band_at;
        once = ap (λ (k : ℕ). is_aside_in (seat_after H session) k) band_at ∙ (ap (λ (Q : Problem). Q.aside) (sym at) ∙ legal.not_aside);
        cause_holds = cause_of session step legal.problem legal.is_problem cause nodes legal.cause_holds;
      }

  serving_is : (session step item : ℕ) (form : Set) (proved : Bool) (nodes : ℕ) → IsLegalServing b plan H session step item form proved nodes → IsServing b plan H session step item form proved nodes
  serving_is session step item form proved nodes legal = record {
    theta = legal.is_problem.of_seat.theta;
    to_serve = to_serve session step legal.problem legal.is_problem;
    is_form = form_of session step legal.problem legal.is_problem form legal.is_form;
    next = next_of session step legal.problem legal.is_problem form item legal.is_form legal.next;
    best = λ mark. best_of session step legal.problem legal.is_problem form (legal.best mark);
    spent = legal.spent;
  }

  answer_is : (session step response : ℕ) → IsLegalAnswer b plan H session step response → IsAnswer b plan H session step response
  answer_is session step response legal =
      let seat = seat_after H session in
      let w = waits seat.closed (nat_le plan.length (length seat.responses)) (length seat.responses) step legal.item (slice_get seat.shown (length seat.responses)) seat.proved legal.proved (place_of_seat b plan H session (Waiting step legal.item legal.proved) run legal.waiting) in
      record {
        item = legal.item;
        not_closed = w.not_closed;
        step_is = w.number;
        shown = ap (λ (n : ℕ). slice_get seat.shown n) w.number ∙ w.is;
        in_range = legal.in_range;
      }

  closing_is : (session : ℕ) → IsLegalClosing plan H session → IsClosing plan H session
  closing_is session legal =
      let seat = seat_after H session in
      let g = goes seat.closed (nat_le plan.length (length seat.responses)) (length seat.responses) (slice_get seat.shown (length seat.responses)) seat.proved legal.at (place_of_seat b plan H session legal.at run legal.stands) legal.goes_on in
      record {
        started = started b plan H session legal.at run legal.stands;
        not_closed = g.0;
        not_complete = not_full _ _ g.1;
      }

  pub may_add : (entry : Entry) → Legal b plan H entry → MayAdd b plan H entry
  may_add (Started session booking eligible without) legal = start_is session booking eligible without legal
  may_add (SetAside session step band cause nodes) legal = aside_is session step band cause nodes legal
  may_add (Served session step item form proved nodes) legal = serving_is session step item (has form) proved nodes legal
  may_add (Answered session step response) legal = answer_is session step response legal
  may_add (Closed session) legal = closing_is session legal

pub is_legal : LegalRunIsLegal
is_legal b plan H empty = no_entry
is_legal b plan H (more before entry run legal) = one_more before entry (is_legal b plan before run) (may_add b plan before run entry legal)
