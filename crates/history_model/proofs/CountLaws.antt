-- How one entry more changes the counts.
use Rattle.std.proofs.Common.{◌≡◌, ℕ, zero, suc, ◌+◌, ◌≤◌, ◌<◌, ◌⊎◌, inl, inr, Bool, true, false, cond, not, ◌&&◌, ◌||◌, ◌==◌, List, [], ◌∷◌, ◌++◌, length, take, Option, Some, None, refl, sym, ap, ◌∙◌, subst, arith, length-append}
use Rattle.std.specs.Prelude.{nat_le, is_some, find, slice_index_or}
use Rattle.std.specs.List.{filter_map, zip}
use Rattle.std.proofs.Math.Bool.{true≢false}
use Rattle.std.proofs.lemmas.List.{take-append-le}
use Rattle.std.proofs.lemmas.Bool.{eqb-true, eq-eqb, leb-true}
use Rattle.bank_tables.specs.Items.{Set}
use Rattle.bank_tables.specs.Sums.{count_in, any_below}
use Rattle.bank_tables.specs.Tables.{Tables}
use Rattle.serving_model.specs.declared.seat.Seat.{Seat}
use Rattle.form_model.specs.Plan.{Plan, band_of, bands_of}
use Rattle.form_model.specs.Ability.{AnswerList, mode_of}
use Rattle.serving_model.specs.Seats.{answers, band_at, first_band, is_shown_in, is_available_in, is_withheld, visits}
use Rattle.form_model.proofs.SumLaws.{either, or_left, or_right}
use Rattle.history_model.specs.declared.counts.Counts.{Counts}
use Rattle.history_model.specs.declared.entry.Bands.{Bands}
use Rattle.history_model.specs.declared.entry.Entry.{Entry}
use Rattle.history_model.specs.declared.entry.Without.{Without}
use Rattle.history_model.specs.declared.entry.Entry.TheVariants.{Started, SetAside, Served, Answered, Closed}
use Rattle.history_model.specs.declared.place.Place.{Place}
use Rattle.history_model.specs.declared.place.Place.TheVariants.{Pending, Waiting, Complete, Closed as IsClosed}
use Rattle.history_model.specs.Entries.{session_of, starts, starts_session, Serving, StepAnswer, sessions, is_started, is_closed, servings, step_answers, seat_of}
use Rattle.history_model.proofs.SessionEntries.{session_serving, session_answer, closes_session}
use Rattle.history_model.specs.Places.{place_at, place, is_over, is_finished}
use Rattle.history_model.specs.Counts.{finished_with, finished, shows, opens, shows_in, opens_in}
use Rattle.history_model.specs.Legality.{Legal, GoesOn, LegalRun}
use Rattle.history_model.specs.Laws.{seat_with, finished_by, number_after, CountsGoOn, BandCountsGoOn, VisitedGoesOn, FinishedGoesOn}
use Rattle.history_model.proofs.Pushed.{list_end, or_end, servings-push, answers-push, started-push, closed-push, sessions-push}
use Rattle.history_model.proofs.Standing.{pending, waiting}
use Rattle.history_model.proofs.Running.{not_of, legal_there, legal_number, along, shown_number, responses_number, one_more, the_seat_goes_on}
use Rattle.history_model.proofs.Ordered.{in_order}

-- ---- sums over sessions
-- what a session adds
abbrev term : Set → Set → ℕ → ℕ
term X p t = cond (X t) (cond (p t) 1 0) 0

same_sum : (n : ℕ) (X p Y q : Set) → ((t : ℕ) → t < n → term X p t ≡ term Y q t) → count_in n X p ≡ count_in n Y q
same_sum zero X p Y q same = refl
same_sum (suc n) X p Y q same = let before = same_sum n X p Y q (λ t w. same t (omega arith)) in let here = same n (omega arith) in omega arith

last_or : (i n : ℕ) → i < suc n → (i < n) ⊎ (i ≡ n)
last_or i n w = grind arith

-- one session adds more, the others the same
more_sum : (n s k : ℕ) (X p Y q : Set) → s < n → ((t : ℕ) → t < n → (t ≡ s → ⊥) → term X p t ≡ term Y q t) → term Y q s ≡ term X p s + k → count_in n Y q ≡ count_in n X p + k
more_sum zero s k X p Y q within same more = absurd (omega arith)
more_sum (suc n) s k X p Y q within same more =
    elim (last_or s n within) [
      | inl below ↦
          let before = more_sum n s k X p Y q below (λ t w other. same t (omega arith) other) more in
          let here = same n (omega arith) (λ e. omega arith) in
          omega arith
      | inr at ↦
          let before = same_sum n X p Y q (λ t w. same t (omega arith) (λ e. omega arith)) in
          let here = subst (λ (t : ℕ). term Y q t ≡ term X p t + k) at more in
          omega arith
    ]

-- ---- places
abbrev place_from : Plan → Bool → Bool → List StepAnswer → List Serving → Option Place
place_from plan is_there closed A S =
    cond (not is_there) None (cond closed (Some IsClosed) (cond (nat_le plan.length (length A)) (Some Complete) (Some (place_at (length A) (find (λ (x : Serving). x.step == length A) S)))))

-- an entry that doesn't start, close, serve or answer in the session leaves its place
place_stays : (plan : Plan) (H : List Entry) (e : Entry) (s : ℕ) → starts_session s e ≡ false → closes_session s e ≡ false → filter_map (session_answer s) (e ∷ []) ≡ [] → filter_map (session_serving s) (e ∷ []) ≡ [] → place plan (H ++ e ∷ []) s ≡ place plan H s
place_stays plan H e s no_start no_close no_answer no_serving =
    ap (λ (there : Bool). place_from plan there (is_closed (H ++ e ∷ []) s) (step_answers (H ++ e ∷ []) s) (servings (H ++ e ∷ []) s)) there
    ∙ (ap (λ (closed : Bool). place_from plan (is_started H s) closed (step_answers (H ++ e ∷ []) s) (servings (H ++ e ∷ []) s)) closed
    ∙ (ap (λ (A : List StepAnswer). place_from plan (is_started H s) (is_closed H s) A (servings (H ++ e ∷ []) s)) answers
    ∙ ap (λ (S : List Serving). place_from plan (is_started H s) (is_closed H s) (step_answers H s) S) served))
  where
    there : is_started (H ++ e ∷ []) s ≡ is_started H s
    there = started-push H e s ∙ (ap (λ (b : Bool). is_started H s || (b || false)) no_start ∙ or_end (is_started H s))

    closed : is_closed (H ++ e ∷ []) s ≡ is_closed H s
    closed = closed-push H e s ∙ (ap (λ (b : Bool). is_closed H s || (b || false)) no_close ∙ or_end (is_closed H s))

    answers : step_answers (H ++ e ∷ []) s ≡ step_answers H s
    answers = answers-push H e s ∙ (ap (λ (xs : List StepAnswer). step_answers H s ++ xs) no_answer ∙ list_end (step_answers H s))

    served : servings (H ++ e ∷ []) s ≡ servings H s
    served = servings-push H e s ∙ (ap (λ (xs : List Serving). servings H s ++ xs) no_serving ∙ list_end (servings H s))

-- so does one of another session
place_elsewhere : (plan : Plan) (H : List Entry) (e : Entry) (s : ℕ) → (session_of e == s) ≡ false → place plan (H ++ e ∷ []) s ≡ place plan H s
place_elsewhere plan H (Started session booking eligible without) s other = place_stays plan H (Started session booking eligible without) s other refl refl refl
place_elsewhere plan H (SetAside session step band cause nodes) s other = place_stays plan H (SetAside session step band cause nodes) s refl refl refl refl
place_elsewhere plan H (Served session step item form proved nodes) s other = place_stays plan H (Served session step item form proved nodes) s refl refl refl (rw other refl)
place_elsewhere plan H (Answered session step response) s other = place_stays plan H (Answered session step response) s refl refl (rw other refl) refl
place_elsewhere plan H (Closed session) s other = place_stays plan H (Closed session) s refl other refl refl

-- a session is over exactly where it is closed or each item is answered
over_from : (plan : Plan) (closed : Bool) (A : List StepAnswer) (S : List Serving) → is_over (place_from plan true closed A S) ≡ (closed || nat_le plan.length (length A))
over_from plan true A S = refl
over_from plan false A S = by (nat_le plan.length (length A)) (length A) (find (λ (x : Serving). x.step == length A) S)
  where
    by : (full : Bool) (k : ℕ) (o : Option Serving) → is_over (cond full (Some Complete) (Some (place_at k o))) ≡ full
    by true k o = refl
    by false k None = refl
    by false k (Some x) = refl

over_is : (plan : Plan) (H : List Entry) (s : ℕ) → is_started H s ≡ true → is_finished plan H s ≡ (is_closed H s || nat_le plan.length (length (step_answers H s)))
over_is plan H s there =
    ap (λ (b : Bool). is_over (place_from plan b (is_closed H s) (step_answers H s) (servings H s))) there ∙ over_from plan (is_closed H s) (step_answers H s) (servings H s)

not_over : (plan : Plan) (H : List Entry) (s : ℕ) → is_closed H s ≡ false → length (step_answers H s) < plan.length → is_started H s ≡ true → is_finished plan H s ≡ false
not_over plan H s open' few there =
    let full : nat_le plan.length (length (step_answers H s)) ≡ false = elim (either (nat_le plan.length (length (step_answers H s)))) [ inl is ↦ absurd (let w = leb-true _ _ is in omega arith) | inr not ↦ not ] in
    over_is plan H s there ∙ (ap (λ (b : Bool). b || nat_le plan.length (length (step_answers H s))) open' ∙ full)

-- ---- the session of the entry: not over before, and over after exactly where the entry finishes
-- it
goes_on_is_not_over : (o : Option Place) (at : Place) → o ≡ Some at → GoesOn at → is_over o ≡ false
goes_on_is_not_over o (Pending step) e goes = ap is_over e
goes_on_is_not_over o (Waiting step item proved) e goes = ap is_over e
goes_on_is_not_over o Complete e goes = absurd goes
goes_on_is_not_over o IsClosed e goes = absurd goes

module _ (b : Tables) (plan : Plan) (H : List Entry) (some : 0 < plan.length) (run : LegalRun b plan H) where
  before : (e : Entry) → Legal b plan H e → starts e ≡ false → is_finished plan H (session_of e) ≡ false
  before (Started session booking eligible without) legal none = absurd (true≢false none)
  before (SetAside session step band cause nodes) legal none = ap is_over legal.is_problem.pending
  before (Served session step item form proved nodes) legal none = ap is_over legal.is_problem.pending
  before (Answered session step response) legal none = ap is_over legal.waiting
  before (Closed session) legal none = goes_on_is_not_over (place plan H session) legal.at legal.stands legal.goes_on

  after_start : (session booking : ℕ) (eligible : Bands) (without : Option Without) → Legal b plan H (Started session booking eligible without) → is_finished plan (H ++ Started session booking eligible without ∷ []) session ≡ false
  after_start session booking eligible without legal =
      not_over plan (H ++ e ∷ []) session
      (closed-push H e session ∙ (or_end (is_closed H session) ∙ ap (λ (seat : Seat). seat.closed) empty))
      few
      (started-push H e session ∙ or_right (is_started H session) _ (or_left (session == session) false (eq-eqb session session refl)))
    where
      e : Entry
      e = Started session booking eligible without

      not_there : is_started H session ≡ false
      not_there = elim (either (is_started H session)) [ inl there ↦ absurd (let w = (along b plan H session run).numbered there in let n = legal.number.next in omega arith) | inr not ↦ not ]

      empty : seat_of H session ≡ Rattle.history_model.specs.Laws.no_seat
      empty = (along b plan H session run).before_start not_there

      few : length (step_answers (H ++ e ∷ []) session) < plan.length
      few =
          let same : length (step_answers (H ++ e ∷ []) session) ≡ length (step_answers H session) = ap (λ (xs : List StepAnswer). length xs) (answers-push H e session ∙ list_end (step_answers H session)) in
          let none : length (seat_of H session).responses ≡ 0 = ap (λ (seat : Seat). length seat.responses) empty in
          let number = responses_number H session in
          omega arith

  after : (e : Entry) → Legal b plan H e → is_finished plan (H ++ e ∷ []) (session_of e) ≡ is_some (finished_by plan e)
  after (Started session booking eligible without) legal = after_start session booking eligible without legal
  after (SetAside session step band cause nodes) legal = ap is_over (place_stays plan H (SetAside session step band cause nodes) session refl refl refl refl ∙ legal.is_problem.pending)
  after (Served session step item form proved nodes) legal =
      let e = Served session step item form proved nodes in
      let at = pending plan H session step legal.is_problem.pending in
      let same : length (step_answers (H ++ Served session step item form proved nodes ∷ []) session) ≡ length (step_answers H session) = ap (λ (xs : List StepAnswer). length xs) (answers-push H (Served session step item form proved nodes) session ∙ list_end (step_answers H session)) in
      let room = at.not_full in
      not_over plan (H ++ Served session step item form proved nodes ∷ []) session
      (closed-push H (Served session step item form proved nodes) session ∙ (or_end (is_closed H session) ∙ at.not_closed))
      (omega arith)
      (started-push H (Served session step item form proved nodes) session ∙ or_left (is_started H session) _ at.there)
  after (Answered session step response) legal =
      let at = waiting plan H session step legal.item legal.proved legal.waiting in
      let this : (session == session) ≡ true = eq-eqb session session refl in
      let pushed : step_answers (H ++ Answered session step response ∷ []) session ≡ step_answers H session ++ record { step = step; response = response } ∷ [] = answers-push H (Answered session step response) session ∙ rw this refl in
      let number : length (step_answers (H ++ Answered session step response ∷ []) session) ≡ step + 1 =
      ap (λ (xs : List StepAnswer). length xs) pushed ∙ (let long = length-append (step_answers H session) (record { step = step; response = response } ∷ []) in let n = at.number in omega arith) in
      over_is plan (H ++ Answered session step response ∷ []) session (started-push H (Answered session step response) session ∙ or_left (is_started H session) _ at.there)
      ∙ (ap (λ (c : Bool). c || nat_le plan.length (length (step_answers (H ++ Answered session step response ∷ []) session))) (closed-push H (Answered session step response) session ∙ (or_end (is_closed H session) ∙ at.not_closed))
      ∙ (ap (λ (n : ℕ). nat_le plan.length n) number ∙ by (nat_le plan.length (step + 1))))
    where
      by : (full : Bool) → full ≡ is_some (cond full (Some session) None)
      by true = refl
      by false = refl
  after (Closed session) legal =
      let there = Rattle.history_model.proofs.Standing.there plan H session legal.at legal.stands in
      let this : (session == session) ≡ true = eq-eqb session session refl in
      over_is plan (H ++ Closed session ∷ []) session (started-push H (Closed session) session ∙ or_left (is_started H session) _ there)
      ∙ or_left _ _ (closed-push H (Closed session) session ∙ or_right (is_closed H session) _ (or_left (session == session) false this))

  -- ---- the counts of what a test finds in the seats of finished sessions
  module _ (P : Seat → Bool) (e : Entry) (legal : Legal b plan H e) (kept : (t : ℕ) → finished_by plan e ≡ Some t → P (seat_with (session_of e) (seat_of H (session_of e)) e) ≡ P (seat_of H (session_of e))) where
    count_of : List Entry → ℕ → ℕ
    count_of G n = count_in n (is_finished plan G) (λ s. P (seat_of G s))

    other_term : (t : ℕ) → (session_of e == t) ≡ false → term (is_finished plan H) (λ s. P (seat_of H s)) t ≡ term (is_finished plan (H ++ e ∷ [])) (λ s. P (seat_of (H ++ e ∷ []) s)) t
    other_term t other =
        let same-place = place_elsewhere plan H e t other in
        let same-seat : seat_of (H ++ e ∷ []) t ≡ seat_of H t = the_seat_goes_on b plan H e t run legal ∙ not_of t (seat_of H t) e other in
        ap (λ (o : Option Place). cond (is_over o) (cond (P (seat_of H t)) 1 0) 0) (sym same-place)
        ∙ ap (λ (seat : Seat). cond (is_over (place plan (H ++ e ∷ []) t)) (cond (P seat) 1 0) 0) (sym same-seat)

    differs : (t : ℕ) → (t ≡ session_of e → ⊥) → (session_of e == t) ≡ false
    differs t other = elim (either (session_of e == t)) [ inl same ↦ absurd (other (sym (eqb-true (session_of e) t same))) | inr not ↦ not ]

    -- before the entry its session adds nothing
    adds_nothing : starts e ≡ false → term (is_finished plan H) (λ s. P (seat_of H s)) (session_of e) ≡ 0
    adds_nothing none = ap (λ (over : Bool). cond over (cond (P (seat_of H (session_of e))) 1 0) 0) (before e legal none)

    -- what it adds after
    adds : (o : Option ℕ) → finished_by plan e ≡ o → ℕ
    adds None is = 0
    adds (Some s) is = cond (P (seat_of H (session_of e))) 1 0

    adds_after : (o : Option ℕ) (is : finished_by plan e ≡ o) → term (is_finished plan (H ++ e ∷ [])) (λ s. P (seat_of (H ++ e ∷ []) s)) (session_of e) ≡ adds o is
    unfolding adds
    adds_after None is = ap (λ (over : Bool). cond over (cond (P (seat_of (H ++ e ∷ []) (session_of e))) 1 0) 0) (after e legal ∙ ap is_some is)
    adds_after (Some s) is =
        ap (λ (over : Bool). cond over (cond (P (seat_of (H ++ e ∷ []) (session_of e))) 1 0) 0) (after e legal ∙ ap is_some is)
        ∙ ap (λ (test : Bool). cond test 1 0) (ap P (the_seat_goes_on b plan H e (session_of e) run legal) ∙ kept s is)

    changes : (o : Option ℕ) (is : finished_by plan e ≡ o) → count_of (H ++ e ∷ []) (sessions (H ++ e ∷ [])) ≡ count_of H (sessions H) + adds o is
    unfolding adds count_of
    changes o is = by (either (starts e))
      where
        more : (test : Bool) → starts e ≡ test → sessions (H ++ e ∷ []) ≡ sessions H + cond test 1 0
        more test at = sessions-push H e ∙ ap (λ (t : Bool). sessions H + cond t 1 0) at

        starts_nothing : (f : Entry) → starts f ≡ true → finished_by plan f ≡ None
        starts_nothing (Started session booking eligible without) one = refl
        starts_nothing (SetAside session step band cause nodes) one = absurd (true≢false (sym one))
        starts_nothing (Served session step item form proved nodes) one = absurd (true≢false (sym one))
        starts_nothing (Answered session step response) one = absurd (true≢false (sym one))
        starts_nothing (Closed session) one = absurd (true≢false (sym one))

        nothing : (q : Option ℕ) (at : finished_by plan e ≡ q) → finished_by plan e ≡ None → adds q at ≡ 0
        nothing None at none = refl
        nothing (Some s) at none = absurd (let clash = sym none ∙ at in cc)

        by : (starts e ≡ true) ⊎ (starts e ≡ false) → count_in (sessions (H ++ e ∷ [])) (is_finished plan (H ++ e ∷ [])) (λ s. P (seat_of (H ++ e ∷ []) s)) ≡ count_in (sessions H) (is_finished plan H) (λ s. P (seat_of H s)) + adds o is
        by (inl one) =
            let number : session_of e ≡ sessions H = legal_number b plan H e legal one in
            let none = nothing o is (starts_nothing e one) in
            let last : term (is_finished plan (H ++ e ∷ [])) (λ s. P (seat_of (H ++ e ∷ []) s)) (sessions H) ≡ 0 = subst (λ (t : ℕ). term (is_finished plan (H ++ e ∷ [])) (λ s. P (seat_of (H ++ e ∷ []) s)) t ≡ 0) number (adds_after o is ∙ none) in
            let front = same_sum (sessions H) (is_finished plan H) (λ s. P (seat_of H s)) (is_finished plan (H ++ e ∷ [])) (λ s. P (seat_of (H ++ e ∷ []) s)) (λ t w. other_term t (differs t (λ at. omega arith))) in
            let grown : sessions (H ++ e ∷ []) ≡ suc (sessions H) = more true one ∙ omega arith in
            ap (λ (n : ℕ). count_in n (is_finished plan (H ++ e ∷ [])) (λ s. P (seat_of (H ++ e ∷ []) s))) grown ∙ omega arith
        by (inr none) =
            let same : sessions (H ++ e ∷ []) ≡ sessions H = more false none ∙ omega arith in
            let within : session_of e < sessions H = (along b plan H (session_of e) run).numbered (legal_there b plan H e legal none) in
            let zero-before = adds_nothing none in
            let then = adds_after o is in
            ap (λ (n : ℕ). count_in n (is_finished plan (H ++ e ∷ [])) (λ s. P (seat_of (H ++ e ∷ []) s))) same
            ∙ more_sum (sessions H) (session_of e) (adds o is) (is_finished plan H) (λ s. P (seat_of H s)) (is_finished plan (H ++ e ∷ [])) (λ s. P (seat_of (H ++ e ∷ []) s)) within
            (λ t w other. other_term t (differs t other)) (omega arith)

-- ---- what a finishing entry leaves of a seat: all but the last response and the end
-- a response more, to an item that was shown
no_answers : (shown : List ℕ) → zip {X = ℕ} shown [] ≡ []
no_answers [] = refl
no_answers (item ∷ shown) = refl

answers_more : (shown responses : List ℕ) (response : ℕ) → length responses < length shown → (item : ℕ) × (zip shown (responses ++ response ∷ []) ≡ zip shown responses ++ (item, response) ∷ [])
answers_more [] responses response room = absurd (omega arith)
answers_more (item ∷ shown) [] response room = (item, ap (λ (xs : List (ℕ × ℕ)). (item, response) ∷ xs) (no_answers shown))
answers_more (item ∷ shown) (r ∷ responses) response room =
    let rest = answers_more shown responses response (omega arith) in
    (rest.0, ap (λ (xs : List (ℕ × ℕ)). (item, r) ∷ xs) rest.1)

pub answers_number : (shown responses : List ℕ) → length responses ≤ length shown → length (zip shown responses) ≡ length responses
answers_number [] [] within = refl
answers_number [] (r ∷ responses) within = absurd (omega arith)
answers_number (item ∷ shown) [] within = refl
answers_number (item ∷ shown) (r ∷ responses) within = let rest = answers_number shown responses (omega arith) in omega arith

-- the answers before a step that was served stay
pub first_answers : (seat : Seat) (response step : ℕ) → length seat.responses + 1 ≡ length seat.shown → step < length seat.shown
    → (let after : Seat = record seat { responses = seat.responses ++ response ∷ [] } in take step (answers after) ≡ take step (answers seat))
first_answers seat response step waits within =
    let more = answers_more seat.shown seat.responses response (omega arith) in
    let number = answers_number seat.shown seat.responses (omega arith) in
    ap (take step) more.1 ∙ take-append-le step (answers seat) ((more.0, response) ∷ []) (omega arith)

same_any : (n : ℕ) (p q : Set) → ((k : ℕ) → k < n → p k ≡ q k) → any_below n p ≡ any_below n q
same_any zero p q same = refl
same_any (suc n) p q same = let before = same_any n p q (λ k w. same k (omega arith)) in let here = same n (omega arith) in rw (before, here) refl

module _ (b : Tables) (plan : Plan) (seat : Seat) (response : ℕ) (waits : length seat.responses + 1 ≡ length seat.shown) where
  pub answered : Seat
  answered = record seat { responses = seat.responses ++ response ∷ [] }

  same_band : (step : ℕ) → step < length seat.shown → band_at b plan answered step ≡ band_at b plan seat step
  unfolding answered
  same_band step within = ap (λ (xs : AnswerList). band_of plan (mode_of b plan.prior xs)) (first_answers seat response step waits within)

  pub same_shown_in : (band i : ℕ) → is_shown_in b plan answered band i ≡ is_shown_in b plan seat band i
  unfolding answered
  same_shown_in band i =
      same_any (length seat.shown) (λ step. (slice_index_or seat.shown step 0 == i) && (band_at b plan answered step == band)) (λ step. (slice_index_or seat.shown step 0 == i) && (band_at b plan seat step == band))
      (λ step within. ap (λ (at : ℕ). (slice_index_or seat.shown step 0 == i) && (at == band)) (same_band step within))

  pub same_visits : (band : ℕ) → visits b plan answered band ≡ visits b plan seat band
  unfolding answered
  same_visits band =
      ap (λ (t : Bool). (first_band b plan == band) || t)
      (same_any (length seat.shown) (λ step. band_at b plan answered step == band) (λ step. band_at b plan seat step == band) (λ step within. ap (λ (at : ℕ). at == band) (same_band step within)))

-- a test that a last response and an end leave
record IsKept (P : Seat → Bool) : Type 0 where
  pub by_answer : (seat : Seat) (response : ℕ) → length seat.responses + 1 ≡ length seat.shown → (let after : Seat = record seat { responses = seat.responses ++ response ∷ [] } in P after ≡ P seat)
  pub by_end : (seat : Seat) → (let after : Seat = record seat { closed = true } in P after ≡ P seat)

-- such a test of the seat of a session is left by the entry that finishes it
kept_by : (P : Seat → Bool) → IsKept P → (b : Tables) (plan : Plan) (H : List Entry) (e : Entry) → LegalRun b plan H → Legal b plan H e
    → (t : ℕ) → finished_by plan e ≡ Some t → P (seat_with (session_of e) (seat_of H (session_of e)) e) ≡ P (seat_of H (session_of e))
kept_by P kept b plan H (Started session booking eligible without) run legal t is = absurd (cc)
kept_by P kept b plan H (SetAside session step band cause nodes) run legal t is = absurd (cc)
kept_by P kept b plan H (Served session step item form proved nodes) run legal t is = absurd (cc)
kept_by P kept b plan H (Answered session step response) run legal t is =
    let at = waiting plan H session step legal.item legal.proved legal.waiting in
    let one = one_more plan H session step legal.item legal.proved (in_order b plan H session run) at in
    let n = shown_number H session in
    let m = responses_number H session in
    let this : (session == session) ≡ true = eq-eqb session session refl in
    ap (λ (test : Bool). let seat : Seat = cond test (record (seat_of H session) { responses = (seat_of H session).responses ++ response ∷ [] }) (seat_of H session) in P seat) this
    ∙ kept.by_answer (seat_of H session) response (omega arith)
kept_by P kept b plan H (Closed session) run legal t is =
    let this : (session == session) ≡ true = eq-eqb session session refl in
    ap (λ (test : Bool). let seat : Seat = cond test (record (seat_of H session) { closed = true }) (seat_of H session) in P seat) this
    ∙ kept.by_end (seat_of H session)

finished_is : (plan : Plan) (e : Entry) (s : ℕ) → finished_by plan e ≡ Some s → session_of e ≡ s
finished_is plan (Started session booking eligible without) s is = absurd (cc)
finished_is plan (SetAside session step band cause nodes) s is = absurd (cc)
finished_is plan (Served session step item form proved nodes) s is = absurd (cc)
finished_is plan (Answered session step response) s is = by (nat_le plan.length (step + 1)) is
  where
    by : (full : Bool) → cond full (Some session) None ≡ Some s → session ≡ s
    by true e = cc
    by false e = absurd (cc)
finished_is plan (Closed session) s is = cc

-- ---- the laws
same_counts : (a b c d : ℕ) → a ≡ c → b ≡ d → (let x : Counts = record { alpha = a; eps = b } in let y : Counts = record { alpha = c; eps = d } in x ≡ y)
same_counts a b c d e f = cc

-- each test of the counts is left
all_kept : IsKept (λ seat. true)
all_kept = record { by_answer = λ seat response waits. refl; by_end = λ seat. refl }

shown_kept : (i : ℕ) → IsKept (shows i)
shown_kept i = record { by_answer = λ seat response waits. refl; by_end = λ seat. refl }

shown_in_kept : (b : Tables) (plan : Plan) (band i : ℕ) → IsKept (shows_in b plan band i)
unfolding answered
shown_in_kept b plan band i = record { by_answer = λ seat response waits. same_shown_in b plan seat response waits band i; by_end = λ seat. refl }

visits_kept : (b : Tables) (plan : Plan) (band : ℕ) → IsKept (λ seat. visits b plan seat band)
unfolding answered
visits_kept b plan band = record { by_answer = λ seat response waits. same_visits b plan seat response waits band; by_end = λ seat. refl }

open_in_kept : (b : Tables) (plan : Plan) (band i : ℕ) → IsKept (opens_in b plan band i)
unfolding answered
open_in_kept b plan band i = record { by_answer = λ seat response waits. ap (λ (t : Bool). t && (is_available_in seat band i && not (is_withheld seat i))) (same_visits b plan seat response waits band); by_end = λ seat. refl }

open_kept : (b : Tables) (plan : Plan) (i : ℕ) → IsKept (opens b plan i)
open_kept b plan i = record {
  by_answer = λ seat response waits. same_any (bands_of plan) _ _ (λ band within. (open_in_kept b plan band i).by_answer seat response waits);
  by_end = λ seat. refl;
}

-- so the number that passes it goes on
number_goes_on : (P : Seat → Bool) → IsKept P → (b : Tables) (plan : Plan) (H : List Entry) (e : Entry) → 0 < plan.length → LegalRun b plan H → Legal b plan H e
    → finished_with plan (H ++ e ∷ []) P ≡ number_after H (finished_by plan e) P (finished_with plan H P)
unfolding count_of adds
number_goes_on P kept b plan H e some run legal = by (finished_by plan e) refl
  where
    by : (o : Option ℕ) → finished_by plan e ≡ o → finished_with plan (H ++ e ∷ []) P ≡ number_after H o P (finished_with plan H P)
    by None is = let same = changes b plan H some run P e legal (kept_by P kept b plan H e run legal) None is in omega (arith, same)
    by (Some s) is =
        let at = finished_is plan e s is in
        let more = changes b plan H some run P e legal (kept_by P kept b plan H e run legal) (Some s) is in
        more ∙ ap (λ (t : ℕ). finished_with plan H P + cond (P (seat_of H t)) 1 0) at

pub counts_go_on : CountsGoOn
counts_go_on b plan H e i some run legal =
    same_counts _ _ _ _ (number_goes_on (shows i) (shown_kept i) b plan H e some run legal) (number_goes_on (opens b plan i) (open_kept b plan i) b plan H e some run legal)

pub band_counts_go_on : BandCountsGoOn
band_counts_go_on b plan H e band i some run legal =
    same_counts _ _ _ _ (number_goes_on (shows_in b plan band i) (shown_in_kept b plan band i) b plan H e some run legal) (number_goes_on (opens_in b plan band i) (open_in_kept b plan band i) b plan H e some run legal)

pub visited_goes_on : VisitedGoesOn
visited_goes_on b plan H e band some run legal = number_goes_on (λ seat. visits b plan seat band) (visits_kept b plan band) b plan H e some run legal

pub finished_goes_on : FinishedGoesOn
finished_goes_on b plan H e some run legal = number_goes_on (λ seat. true) all_kept b plan H e some run legal ∙ by (finished_by plan e)
  where
    by : (o : Option ℕ) → number_after H o (λ seat. true) (finished plan H) ≡ finished plan H + cond (is_some o) 1 0
    by None = omega arith
    by (Some s) = refl
