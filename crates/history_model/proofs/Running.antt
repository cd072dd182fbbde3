-- What holds of each session along a legal run.
use Rattle.std.proofs.Common.{◌≡◌, ℕ, ◌+◌, ◌-◌, ◌<◌, ◌⊎◌, inl, inr, Bool, true, false, cond, not, ◌||◌, ◌==◌, List, [], ◌∷◌, ◌++◌, length, slice_get, map, Option, Some, None, refl, sym, ap, ◌∙◌, subst, arith}
use Rattle.std.specs.Prelude.{nat_le}
use Rattle.std.specs.Option.{option_map, option_map_or}
use Rattle.std.proofs.Math.Bool.{true≢false}
use Rattle.std.proofs.lemmas.Bool.{eqb-true, eq-eqb, cases_lt}
use Rattle.std.proofs.lemmas.Option.{slice_get-map}
use Rattle.std.proofs.lemmas.List.{length-map}
use Rattle.bank_tables.specs.Items.{has}
use Rattle.bank_tables.specs.Tables.{Tables}
use Rattle.serving_model.specs.declared.seat.Seat.{Seat}
use Rattle.form_model.specs.Plan.{Plan}
use Rattle.form_model.specs.Problem.{Problem}
use Rattle.form_model.specs.Forms.{Form}
use Rattle.serving_model.specs.Serving.{IsNext}
use Rattle.form_model.proofs.SumLaws.{either, or_true, or_left, or_right}
use Rattle.history_model.specs.declared.entry.Entry.{Entry}
use Rattle.history_model.specs.declared.entry.Without.{Without}
use Rattle.history_model.specs.declared.entry.Entry.TheVariants.{Started, SetAside, Served, Answered, Closed}
use Rattle.history_model.specs.declared.place.Place.{Place}
use Rattle.history_model.specs.declared.place.Place.TheVariants.{Pending, Waiting, Complete, Closed as IsClosed}
use Rattle.history_model.specs.Entries.{session_of, starts, starts_session, Serving, StepAnswer, sessions, is_started, is_closed, servings, step_answers, seat_of}
use Rattle.history_model.specs.Places.{serving_at, place_at}
use Rattle.history_model.specs.Legality.{Legal, IsLegalServing, IsLegalAnswer, LegalRun, empty, more}
use Rattle.history_model.specs.Lists.{IsLegalWithout}
use Rattle.history_model.specs.Laws.{AreInOrder, no_seat, raised, seat_with, step_place, SessionsAreNumbered, StepsAreInOrder, SeatBeforeStart, SeatGoesOn, SeatIsSeat, PlaceIsOfSeat, PendingIsOfSeat, LastFormStays}
use Rattle.history_model.proofs.Pushed.{started-push, sessions-push, seat_goes_on}
use Rattle.history_model.proofs.Standing.{past_end, before_end, IsPendingAt, IsWaitingFor, pending, waiting, there}
use Rattle.history_model.proofs.Ordered.{found_at, in_order}
use Rattle.history_model.proofs.SeatSteps.{Stands, new_stands, listed_stands, aside_stands, closed_stands, answered_stands, served_stands}

-- ---- the number of a seat's items and responses
pub shown_number : (H : List Entry) (s : ℕ) → length (seat_of H s).shown ≡ length (servings H s)
shown_number H s = length-map (servings H s) (λ (serving : Serving). serving.item)

pub responses_number : (H : List Entry) (s : ℕ) → length (seat_of H s).responses ≡ length (step_answers H s)
responses_number H s = length-map (step_answers H s) (λ (answer : StepAnswer). answer.response)

-- where a step is to be served, each item shown is answered
pub all_answered : (plan : Plan) (H : List Entry) (s k : ℕ) → AreInOrder H s → IsPendingAt plan H s k → length (servings H s) ≡ length (step_answers H s)
all_answered plan H s k order at =
    let little = past_end (servings H s) (length (step_answers H s)) (sym (found_at H s (length (step_answers H s)) order) ∙ at.not_served) in
    let few = order.few in
    omega arith

-- where an answer is waited for, one item more is shown
pub one_more : (plan : Plan) (H : List Entry) (s k item : ℕ) (proved : Bool) → AreInOrder H s → IsWaitingFor plan H s k item proved → length (step_answers H s) + 1 ≡ length (servings H s)
one_more plan H s k item proved order at =
    let room = before_end (servings H s) (length (step_answers H s)) at.serving (sym (found_at H s (length (step_answers H s)) order) ∙ at.served) in
    let many = order.many in
    omega arith

item_shown : (plan : Plan) (H : List Entry) (s k item : ℕ) (proved : Bool) → AreInOrder H s → IsWaitingFor plan H s k item proved → slice_get (seat_of H s).shown (length (seat_of H s).responses) ≡ Some item
item_shown plan H s k item proved order at =
    ap (λ (n : ℕ). slice_get (seat_of H s).shown n) (responses_number H s)
    ∙ (slice_get-map (λ (serving : Serving). serving.item) (servings H s) (length (step_answers H s))
    ∙ (ap (option_map (λ (serving : Serving). serving.item)) (sym (found_at H s (length (step_answers H s)) order) ∙ at.served)
    ∙ ap (λ (i : ℕ). Some i) at.item_is))

-- an entry of another session leaves the seat as it is
pub not_of : (s : ℕ) (seat : Seat) (e : Entry) → (session_of e == s) ≡ false → seat_with s seat e ≡ seat
not_of s seat (Started session booking eligible without) other = rw other refl
not_of s seat (SetAside session step band cause nodes) other = rw other refl
not_of s seat (Served session step item form proved nodes) other = rw other refl
not_of s seat (Answered session step response) other = rw other refl
not_of s seat (Closed session) other = rw other refl

-- it doesn't start this one
pub not_start_of : (s : ℕ) (e : Entry) → (session_of e == s) ≡ false → starts_session s e ≡ false
not_start_of s (Started session booking eligible without) other = other
not_start_of s (SetAside session step band cause nodes) other = refl
not_start_of s (Served session step item form proved nodes) other = refl
not_start_of s (Answered session step response) other = refl
not_start_of s (Closed session) other = refl

-- a legal entry that starts no session is of one that is started
pub legal_there : (b : Tables) (plan : Plan) (H : List Entry) (e : Entry) → Legal b plan H e → starts e ≡ false → is_started H (session_of e) ≡ true
legal_there b plan H (Started session booking eligible without) legal none = absurd (true≢false none)
legal_there b plan H (SetAside session step band cause nodes) legal none = there plan H session (Pending step) legal.is_problem.pending
legal_there b plan H (Served session step item form proved nodes) legal none = there plan H session (Pending step) legal.is_problem.pending
legal_there b plan H (Answered session step response) legal none = there plan H session (Waiting step legal.item legal.proved) legal.waiting
legal_there b plan H (Closed session) legal none = there plan H session legal.at legal.stands

-- one that starts a session has the next number
pub legal_number : (b : Tables) (plan : Plan) (H : List Entry) (e : Entry) → Legal b plan H e → starts e ≡ true → session_of e ≡ sessions H
legal_number b plan H (Started session booking eligible without) legal one = legal.number.next
legal_number b plan H (SetAside session step band cause nodes) legal one = absurd (true≢false (sym one))
legal_number b plan H (Served session step item form proved nodes) legal one = absurd (true≢false (sym one))
legal_number b plan H (Answered session step response) legal one = absurd (true≢false (sym one))
legal_number b plan H (Closed session) legal one = absurd (true≢false (sym one))

pub starts_this : (s : ℕ) (e : Entry) → starts_session s e ≡ true → (starts e ≡ true) × (session_of e ≡ s)
starts_this s (Started session booking eligible without) one = (refl, eqb-true session s one)
starts_this s (SetAside session step band cause nodes) one = absurd (true≢false (sym one))
starts_this s (Served session step item form proved nodes) one = absurd (true≢false (sym one))
starts_this s (Answered session step response) one = absurd (true≢false (sym one))
starts_this s (Closed session) one = absurd (true≢false (sym one))

pub starts_that : (s : ℕ) (e : Entry) → starts e ≡ true → (session_of e == s) ≡ true → starts_session s e ≡ true
starts_that s (Started session booking eligible without) one same = same
starts_that s (SetAside session step band cause nodes) one same = absurd (true≢false (sym one))
starts_that s (Served session step item form proved nodes) one same = absurd (true≢false (sym one))
starts_that s (Answered session step response) one same = absurd (true≢false (sym one))
starts_that s (Closed session) one same = absurd (true≢false (sym one))

-- ---- along a run
pub record Runs (b : Tables) (plan : Plan) (H : List Entry) (s : ℕ) : Type 0 where
  pub numbered : is_started H s ≡ true → s < sessions H
  pub all_there : s < sessions H → is_started H s ≡ true
  pub before_start : is_started H s ≡ false → seat_of H s ≡ no_seat
  pub stands : Stands b plan s (seat_of H s)

module _ (b : Tables) (plan : Plan) (H : List Entry) (e : Entry) (s : ℕ) (runs : Runs b plan H s) (order : AreInOrder H s) (legal : Legal b plan H e) where
  -- a session is started once
  pub once : starts_session s e ≡ true → is_started H s ≡ false
  once one =
      let this = starts_this s e one in
      let next = legal_number b plan H e legal this.0 in
      elim (either (is_started H s)) [ inl there ↦ absurd (let w = runs.numbered there in let at = this.1 in omega arith) | inr not_there ↦ not_there ]

  -- before its items are served
  unserved : starts_session s e ≡ true → servings H s ≡ []
  unserved one = no_servings (servings H s) (ap (λ (seat : Seat). seat.shown) (runs.before_start (once one)))
    where
      no_servings : (S : List Serving) → map (λ (serving : Serving). serving.item) S ≡ [] → S ≡ []
      no_servings [] none = refl
      no_servings (x ∷ S) none = absurd cc

  pub goes_on : seat_of (H ++ e ∷ []) s ≡ seat_with s (seat_of H s) e
  goes_on = seat_goes_on H e s (λ one. (once one, unserved one))

  more_sessions : (test : Bool) → starts e ≡ test → sessions (H ++ e ∷ []) ≡ sessions H + cond test 1 0
  more_sessions test is = sessions-push H e ∙ ap (λ (t : Bool). sessions H + cond t 1 0) is

  numbered : is_started (H ++ e ∷ []) s ≡ true → s < sessions (H ++ e ∷ [])
  numbered h =
      elim (or_true (is_started H s) (starts_session s e || false) (sym (started-push H e s) ∙ h)) [
        | inl old ↦ let w = runs.numbered old in let m = sessions-push H e in omega arith
        | inr new ↦ elim (or_true (starts_session s e) false new) [
          | inl one ↦
              let this = starts_this s e one in
              let next = legal_number b plan H e legal this.0 in
              let at = this.1 in
              let m = more_sessions true this.0 in
              omega arith
          | inr none ↦ absurd (true≢false (sym none))
        ]
      ]

  all_there : s < sessions (H ++ e ∷ []) → is_started (H ++ e ∷ []) s ≡ true
  all_there w = started-push H e s ∙ by (either (starts e))
    where
      here : starts e ≡ true → s ≡ sessions H → (is_started H s || (starts_session s e || false)) ≡ true
      here one at =
          let next = legal_number b plan H e legal one in
          let same : session_of e ≡ s = next ∙ sym at in
          or_right (is_started H s) _ (or_left (starts_session s e) false (starts_that s e one (eq-eqb (session_of e) s same)))

      by : (starts e ≡ true) ⊎ (starts e ≡ false) → (is_started H s || (starts_session s e || false)) ≡ true
      by (inl one) =
          let m = more_sessions true one in
          elim (cases_lt s (sessions H)) [ inl below ↦ or_left (is_started H s) _ (runs.all_there below) | inr not_below ↦ here one (omega arith) ]
      by (inr none) = let m = more_sessions false none in or_left (is_started H s) _ (runs.all_there (omega arith))

  before_start : is_started (H ++ e ∷ []) s ≡ false → seat_of (H ++ e ∷ []) s ≡ no_seat
  before_start h = goes_on ∙ (not_of s (seat_of H s) e other ∙ runs.before_start not_there)
    where
      not_there : is_started H s ≡ false
      not_there = elim (either (is_started H s)) [ inl is ↦ absurd (true≢false (sym (or_left (is_started H s) (starts_session s e || false) is) ∙ (sym (started-push H e s) ∙ h))) | inr not ↦ not ]

      not_started : starts_session s e ≡ false
      not_started = elim (either (starts_session s e)) [ inl is ↦ absurd (true≢false (sym (or_right (is_started H s) (starts_session s e || false) (or_left (starts_session s e) false is)) ∙ (sym (started-push H e s) ∙ h))) | inr not ↦ not ]

      this_one : (session_of e == s) ≡ true → (starts e ≡ true) ⊎ (starts e ≡ false) → ⊥
      this_one same (inl one) = true≢false (sym (starts_that s e one same) ∙ not_started)
      this_one same (inr none) = true≢false (sym (subst (λ (t : ℕ). is_started H t ≡ true) (eqb-true (session_of e) s same) (legal_there b plan H e legal none)) ∙ not_there)

      other : (session_of e == s) ≡ false
      other = elim (either (session_of e == s)) [ inl same ↦ absurd (this_one same (either (starts e))) | inr differs ↦ differs ]

-- ---- the predicate Stands holds of the seat after each entry
started_stands : (b : Tables) (plan : Plan) (s : ℕ) (eligible : List (List ℕ)) (without : Option Without) (seat : Seat) → seat ≡ no_seat → IsLegalWithout b plan without
    → Stands b plan s (record seat { eligible = eligible; without = option_map (λ (list : Without). list.items) without; form = option_map (λ (list : Without). list.form) without })
started_stands b plan s eligible None seat none legal =
    new_stands b plan s (record seat { eligible = eligible; without = None; form = None })
    (ap (λ (t : Seat). t.shown) none)
    (ap (λ (t : Seat). t.responses) none)
    refl
    refl
started_stands b plan s eligible (Some list) seat none legal =
    listed_stands b plan s (record seat { eligible = eligible; without = Some list.items; form = Some list.form }) list.items list.form
    (ap (λ (t : Seat). t.shown) none)
    refl
    legal.witness
    (ap (λ (t : Seat). t.responses) none)
    refl

stands_with : (b : Tables) (plan : Plan) (H : List Entry) (e : Entry) (s : ℕ) → Runs b plan H s → AreInOrder H s → Legal b plan H e → Stands b plan s (seat_with s (seat_of H s) e)
stands_with b plan H (Started session booking eligible without) s runs order legal = by (session == s) refl
  where
    by : (this : Bool) → (session == s) ≡ this → Stands b plan s (cond this (record (seat_of H s) { eligible = eligible.sets; without = option_map (λ (list : Without). list.items) without; form = option_map (λ (list : Without). list.form) without }) (seat_of H s))
    by true same = started_stands b plan s eligible.sets without (seat_of H s) (runs.before_start (once b plan H (Started session booking eligible without) s runs order legal same)) legal.listed
    by false other = runs.stands
stands_with b plan H (SetAside session step band cause nodes) s runs order legal = by (session == s) refl
  where
    by : (this : Bool) → (session == s) ≡ this → Stands b plan s (cond this (record (seat_of H s) { aside = raised (seat_of H s).aside band }) (seat_of H s))
    by true same = aside_stands b plan s (seat_of H s) runs.stands (raised (seat_of H s).aside band)
    by false other = runs.stands
stands_with b plan H (Served session step item form proved nodes) s runs order legal = by (session == s) refl
  where
    by : (this : Bool) → (session == s) ≡ this → Stands b plan s (cond this (record (seat_of H s) { shown = (seat_of H s).shown ++ item ∷ []; form = Some form; proved = proved }) (seat_of H s))
    by true same =
        let here = subst (λ (t : ℕ). IsLegalServing b plan H t step item (has form) proved nodes) (eqb-true session s same) legal in
        let at = pending plan H s step here.is_problem.pending in
        let theta = here.is_problem.of_seat.theta in
        let all = all_answered plan H s step order at in
        let n = shown_number H s in
        let m = responses_number H s in
        let room = at.not_full in
        served_stands b plan s (seat_of H s) runs.stands form item theta proved (omega arith) (omega arith)
        (subst (λ (P : Problem). Form P (has form)) here.is_problem.of_seat.is here.is_form)
        (subst (λ (P : Problem). IsNext P (has form) item) here.is_problem.of_seat.is here.next)
    by false other = runs.stands
stands_with b plan H (Answered session step response) s runs order legal = by (session == s) refl
  where
    by : (this : Bool) → (session == s) ≡ this → Stands b plan s (cond this (record (seat_of H s) { responses = (seat_of H s).responses ++ response ∷ [] }) (seat_of H s))
    by true same =
        let here = subst (λ (t : ℕ). IsLegalAnswer b plan H t step response) (eqb-true session s same) legal in
        let at = waiting plan H s step here.item here.proved here.waiting in
        let one = one_more plan H s step here.item here.proved order at in
        let n = shown_number H s in
        let m = responses_number H s in
        answered_stands b plan s (seat_of H s) runs.stands here.item response (omega arith) (item_shown plan H s step here.item here.proved order at) here.in_range
    by false other = runs.stands
stands_with b plan H (Closed session) s runs order legal = by (session == s) refl
  where
    by : (this : Bool) → (session == s) ≡ this → Stands b plan s (cond this (record (seat_of H s) { closed = true }) (seat_of H s))
    by true same = closed_stands b plan s (seat_of H s) runs.stands
    by false other = runs.stands

runs_step : (b : Tables) (plan : Plan) (H : List Entry) (e : Entry) (s : ℕ) → Runs b plan H s → AreInOrder H s → Legal b plan H e → Runs b plan (H ++ e ∷ []) s
runs_step b plan H e s runs order legal =
    record {
      numbered = numbered b plan H e s runs order legal;
      all_there = all_there b plan H e s runs order legal;
      before_start = before_start b plan H e s runs order legal;
      stands = subst (λ (seat : Seat). Stands b plan s seat) (sym (goes_on b plan H e s runs order legal)) (stands_with b plan H e s runs order legal);
    }

pub along : (b : Tables) (plan : Plan) (H : List Entry) (s : ℕ) → LegalRun b plan H → Runs b plan H s
along b plan H s empty = record { numbered = λ h. absurd (true≢false (sym h)); all_there = λ w. absurd (omega arith); before_start = λ h. refl; stands = new_stands b plan s no_seat refl refl refl refl }
along b plan H s (more before entry run legal) = runs_step b plan before entry s (along b plan before s run) (in_order b plan before s run) legal

-- ---- the laws
pub sessions_are_numbered : SessionsAreNumbered
sessions_are_numbered b plan H s run = let runs = along b plan H s run in (runs.numbered, runs.all_there)

pub steps_are_in_order : StepsAreInOrder
steps_are_in_order b plan H s run = in_order b plan H s run

pub seat_before_start : SeatBeforeStart
seat_before_start b plan H s run not_there = (along b plan H s run).before_start not_there

pub the_seat_goes_on : SeatGoesOn
the_seat_goes_on b plan H e s run legal = goes_on b plan H e s (along b plan H s run) (in_order b plan H s run) legal

pub seat_is_seat : SeatIsSeat
seat_is_seat b plan H s run = (along b plan H s run).stands.is_seat

pub last_form_stays : LastFormStays
last_form_stays b plan H s theta words run e = (along b plan H s run).stands.keeps words theta e

pub pending_is_of_seat : PendingIsOfSeat
pending_is_of_seat b plan H s step run e =
    let at = pending plan H s step e in
    let all = all_answered plan H s step (in_order b plan H s run) at in
    let n = shown_number H s in
    let m = responses_number H s in
    let number = at.number in
    let room = at.not_full in
    (record { not_closed = at.not_closed; not_complete = omega arith; answered = omega arith }, omega arith)

-- the place by the serving of the step is that by the item shown there
place_same : (k : ℕ) (serving : Option Serving) (item : Option ℕ) (mark : Bool) → item ≡ option_map (λ (x : Serving). x.item) serving → ((x : Serving) → serving ≡ Some x → x.proved ≡ mark) → place_at k serving ≡ step_place k item mark
place_same k None item mark e f = ap (λ (i : Option ℕ). step_place k i mark) (sym e)
place_same k (Some x) item mark e f = ap (λ (m : Bool). Waiting k x.item m) (f x refl) ∙ ap (λ (i : Option ℕ). step_place k i mark) (sym e)

pub place_is_of_seat : PlaceIsOfSeat
place_is_of_seat b plan H s run is =
    by (is_started H s) is
    ∙ ap (λ (p : Place). Some p) (ap (λ (p : Place). cond (is_closed H s) IsClosed (cond (nat_le plan.length (length (step_answers H s))) Complete p)) at_step
    ∙ ap (λ (n : ℕ). cond (is_closed H s) IsClosed (cond (nat_le plan.length n) Complete (step_place n (slice_get (seat_of H s).shown n) (seat_of H s).proved))) (sym (responses_number H s)))
  where
    order : AreInOrder H s
    order = in_order b plan H s run

    item_same : slice_get (seat_of H s).shown (length (step_answers H s)) ≡ option_map (λ (x : Serving). x.item) (serving_at H s (length (step_answers H s)))
    item_same = slice_get-map (λ (x : Serving). x.item) (servings H s) (length (step_answers H s)) ∙ ap (option_map (λ (x : Serving). x.item)) (sym (found_at H s (length (step_answers H s)) order))

    -- the serving that waits for its answer is the last one
    mark_same : (x : Serving) → serving_at H s (length (step_answers H s)) ≡ Some x → x.proved ≡ (seat_of H s).proved
    mark_same x e =
        let f : slice_get (servings H s) (length (step_answers H s)) ≡ Some x = sym (found_at H s (length (step_answers H s)) order) ∙ e in
        let within = before_end (servings H s) (length (step_answers H s)) x f in
        let many = order.many in
        let last : length (step_answers H s) ≡ length (servings H s) - 1 = omega arith in
        sym (ap (λ (y : Option Serving). option_map_or (λ (z : Serving). z.proved) y false) (sym (ap (λ (n : ℕ). slice_get (servings H s) n) last) ∙ f))

    at_step : place_at (length (step_answers H s)) (serving_at H s (length (step_answers H s))) ≡ step_place (length (step_answers H s)) (slice_get (seat_of H s).shown (length (step_answers H s))) (seat_of H s).proved
    at_step = place_same (length (step_answers H s)) (serving_at H s (length (step_answers H s))) (slice_get (seat_of H s).shown (length (step_answers H s))) (seat_of H s).proved item_same mark_same

    pull : (closed full : Bool) (p : Place) → cond closed (Some IsClosed) (cond full (Some Complete) (Some p)) ≡ Some (cond closed IsClosed (cond full Complete p))
    pull true full p = refl
    pull false true p = refl
    pull false false p = refl

    by : (is_there : Bool) → is_there ≡ true → cond (not is_there) None (cond (is_closed H s) (Some IsClosed) (cond (nat_le plan.length (length (step_answers H s))) (Some Complete) (Some (place_at (length (step_answers H s)) (serving_at H s (length (step_answers H s)))))))
        ≡ Some (cond (is_closed H s) IsClosed (cond (nat_le plan.length (length (step_answers H s))) Complete (place_at (length (step_answers H s)) (serving_at H s (length (step_answers H s))))))
    by true e = pull (is_closed H s) (nat_le plan.length (length (step_answers H s))) (place_at (length (step_answers H s)) (serving_at H s (length (step_answers H s))))
    by false e = absurd (true≢false (sym e))
