-- The form last served from stays a form of the session's problem while the estimate stays in its
-- band.
use Rattle.std.proofs.Common.{◌≡◌, ℕ, zero, suc, ◌+◌, Bool, true, false, cond, not, ◌&&◌, ◌||◌, ◌==◌, List, [], ◌∷◌, ◌++◌, length, take, get_or, Some, refl, sym, ap, ◌∙◌, subst, arith, nat_lt}
use Rattle.std.specs.List.{zip}
use Rattle.std.specs.Option.{option_map}
use Rattle.std.proofs.Math.Bool.{true≢false}
use Rattle.std.proofs.lemmas.Bool.{eqb-true}
use Rattle.std.proofs.lemmas.List.{take_all, length-append}
use Rattle.bank_tables.specs.Items.{Set, has}
use Rattle.bank_tables.specs.Tables.{Tables, size}
use Rattle.serving_model.specs.declared.seat.Seat.{Seat}
use Rattle.form_model.specs.Plan.{Plan, band_of}
use Rattle.form_model.specs.Problem.{Problem}
use Rattle.form_model.specs.Forms.{Form}
use Rattle.form_model.specs.Ability.{AnswerList, IsPosteriorMode, mode_of}
use Rattle.serving_model.specs.Serving.{IsNext}
use Rattle.serving_model.specs.Seats.{answers, eight, is_shown, is_of_stimulus_left_behind, is_withheld, is_barred, is_aside_in, is_unavailable_in, eligible_in, band_at, problem_barring, seat_problem}
use Rattle.form_model.proofs.SumLaws.{or_left}
use Rattle.form_model.proofs.SomeMode.{mode_is_mode_of}
use Rattle.serving_model.proofs.Staying.{form_stays}
use Rattle.history_model.specs.declared.entry.Entry.{Entry}
use Rattle.history_model.specs.declared.entry.Without.{Without}
use Rattle.history_model.specs.declared.entry.Entry.TheVariants.{Started, SetAside, Served, Answered, Closed}
use Rattle.history_model.specs.Entries.{is_set_aside, seat_of}
use Rattle.history_model.specs.Legality.{Legal, IsLegalServing, IsLegalAnswer, LegalRun, empty, more}
use Rattle.history_model.specs.Laws.{raised, seat_with, LastFormStaysInBand}
use Rattle.history_model.proofs.Standing.{waiting}
use Rattle.history_model.proofs.Ordered.{in_order}
use Rattle.history_model.proofs.CountLaws.{answers_number, first_answers}
use Rattle.history_model.proofs.Running.{along, once, one_more, shown_number, responses_number, the_seat_goes_on, pending_is_of_seat}

-- the form last served from is a form of the problem in the band of the step at which it was
-- served, whatever the estimate
abbrev Keeps : Tables → Plan → ℕ → Seat → Type 0
Keeps b plan s seat = (step theta : ℕ) (aside : Bool) (words : List ℕ) → length seat.shown ≡ step + 1 → seat.form ≡ Some words
    → Form (problem_barring b plan s seat theta aside (is_unavailable_in seat (band_at b plan seat step))) (has words)

-- with fewer items unavailable fewer are barred
barred_by : (b : Tables) (seat : Seat) (unavailable fewer : Set) (i : ℕ) → (fewer i ≡ true → unavailable i ≡ true) → is_barred b seat fewer i ≡ true → is_barred b seat unavailable i ≡ true
barred_by b seat unavailable fewer i also = by (nat_lt i (size b)) (is_shown seat i) (is_of_stimulus_left_behind b seat i) (is_withheld seat i) (fewer i) (unavailable i) also
  where
    by : (in_bank shown left withheld t u : Bool) → (t ≡ true → u ≡ true) → (in_bank && (not shown && (left || (withheld || t)))) ≡ true → (in_bank && (not shown && (left || (withheld || u)))) ≡ true
    by true false true withheld t u m h = refl
    by true false false true t u m h = refl
    by true false false false t u m h = m h
    by true true left withheld t u m h = absurd (true≢false (sym h))
    by false shown left withheld t u m h = absurd (true≢false (sym h))

-- a flag that is raised stays raised
still_raised : (f : ℕ → Bool) (band k : ℕ) → get_or (eight f) k false ≡ true → get_or (raised (eight f) band) k false ≡ true
still_raised f band zero e = or_left (f 0) (band == 0) e
still_raised f band (suc zero) e = or_left (f 1) (band == 1) e
still_raised f band (suc (suc zero)) e = or_left (f 2) (band == 2) e
still_raised f band (suc (suc (suc zero))) e = or_left (f 3) (band == 3) e
still_raised f band (suc (suc (suc (suc zero)))) e = or_left (f 4) (band == 4) e
still_raised f band (suc (suc (suc (suc (suc zero))))) e = or_left (f 5) (band == 5) e
still_raised f band (suc (suc (suc (suc (suc (suc zero)))))) e = or_left (f 6) (band == 6) e
still_raised f band (suc (suc (suc (suc (suc (suc (suc zero))))))) e = or_left (f 7) (band == 7) e
still_raised f band (suc (suc (suc (suc (suc (suc (suc (suc k)))))))) e = absurd (true≢false (sym e))

-- so no item becomes unavailable
less_unavailable : (s t eligible : Bool) → (s ≡ true → t ≡ true) → not (eligible || t) ≡ true → not (eligible || s) ≡ true
less_unavailable s t true kept e = absurd (true≢false (sym e))
less_unavailable true true false kept e = e
less_unavailable true false false kept e = absurd (true≢false (sym (kept refl)))
less_unavailable false t false kept e = refl

-- an item that is not answered yet adds nothing to the answers
answers_same : (shown responses : List ℕ) (item : ℕ) → length shown ≡ length responses → zip (shown ++ item ∷ []) responses ≡ zip shown responses
answers_same [] [] item same = refl
answers_same [] (r ∷ responses) item same = absurd (omega arith)
answers_same (x ∷ shown) [] item same = absurd (omega arith)
answers_same (x ∷ shown) (r ∷ responses) item same = ap (λ (xs : AnswerList). (x, r) ∷ xs) (answers_same shown responses item (omega arith))

-- ---- an item of a form is served
module _ (b : Tables) (plan : Plan) (s : ℕ) (seat : Seat) (form : List ℕ) (item theta : ℕ) (proved : Bool) (all_answered : length seat.shown ≡ length seat.responses)
    (mode : IsPosteriorMode b plan.prior (answers seat) theta) (is_form : Form (seat_problem b plan s seat theta) (has form)) (next : IsNext (seat_problem b plan s seat theta) (has form) item) where
  after : Seat
  after = record seat { shown = seat.shown ++ item ∷ []; form = Some form; proved = proved }

  -- the band of the step is that of the estimate
  at_step : (step : ℕ) → length seat.shown ≡ step → band_at b plan after step ≡ band_of plan theta
  unfolding after
  at_step step number =
      let all : take step (zip (seat.shown ++ item ∷ []) seat.responses) ≡ answers seat =
      ap (take step) (answers_same seat.shown seat.responses item all_answered) ∙ take_all step (answers seat) (let n = answers_number seat.shown seat.responses (omega arith) in omega arith) in
      ap (λ (xs : AnswerList). band_of plan (mode_of b plan.prior xs)) all ∙ ap (band_of plan) (sym ((mode_is_mode_of b plan.prior (answers seat) theta (let w = mode.within in omega arith)).0 mode))

  pub served_keeps : Keeps b plan s (record seat { shown = seat.shown ++ item ∷ []; form = Some form; proved = proved })
  unfolding after
  served_keeps step later aside words number there =
      let longer = length-append seat.shown (item ∷ []) in
      let same : form ≡ words = let e : Some form ≡ Some words = there in cc in
      let stays = form_stays b plan s theta item 0 later seat form (is_aside_in seat (band_of plan theta)) aside (is_unavailable_in seat (band_of plan theta)) is_form next in
      let here : Form (problem_barring b plan s after later aside (is_unavailable_in seat (band_of plan theta))) (has form) = record { meets = stays.meets; holds_given = stays.holds_given; holds_no_barred = stays.holds_no_barred } in
      subst (λ (ws : List ℕ). Form (problem_barring b plan s after later aside (is_unavailable_in seat (band_at b plan after step))) (has ws)) same
      (subst (λ (k : ℕ). Form (problem_barring b plan s after later aside (is_unavailable_in seat k)) (has form)) (sym (at_step step (omega arith))) here)

-- ---- each entry
keeps_with : (b : Tables) (plan : Plan) (H : List Entry) (e : Entry) (s : ℕ) → LegalRun b plan H → Keeps b plan s (seat_of H s) → Legal b plan H e → Keeps b plan s (seat_with s (seat_of H s) e)
keeps_with b plan H (Started session booking eligible without) s run keeps legal = by (session == s) refl
  where
    by : (this : Bool) → (session == s) ≡ this → Keeps b plan s (cond this (record (seat_of H s) { eligible = eligible.sets; without = option_map (λ (list : Without). list.items) without; form = option_map (λ (list : Without). list.form) without }) (seat_of H s))
    by true same = λ step theta aside words number there.
        let runs = along b plan H s run in
        let none = runs.before_start (once b plan H (Started session booking eligible without) s runs (in_order b plan H s run) legal same) in
        let zero_items : length (seat_of H s).shown ≡ 0 = ap (λ (seat : Seat). length seat.shown) none in
        absurd (omega arith)
    by false other = keeps
keeps_with b plan H (SetAside session step band cause nodes) s run keeps legal = by (session == s)
  where
    by : (this : Bool) → Keeps b plan s (cond this (record (seat_of H s) { aside = raised (seat_of H s).aside band }) (seat_of H s))
    by true = λ at theta aside words number there.
        let form = keeps at theta aside words number there in
        let k = band_at b plan (seat_of H s) at in
        record {
          meets = form.meets;
          holds_given = form.holds_given;
          holds_no_barred = λ i barred. form.holds_no_barred i (barred_by b (seat_of H s) (is_unavailable_in (seat_of H s) k) (λ j. not (eligible_in (seat_of H s) k j || get_or (raised (seat_of H s).aside band) k false)) i
              (less_unavailable (is_aside_in (seat_of H s) k) (get_or (raised (seat_of H s).aside band) k false) (eligible_in (seat_of H s) k i) (still_raised (is_set_aside H s) band k)) barred);
        }
    by false = keeps
keeps_with b plan H (Served session step item form proved nodes) s run keeps legal = by (session == s) refl
  where
    by : (this : Bool) → (session == s) ≡ this → Keeps b plan s (cond this (record (seat_of H s) { shown = (seat_of H s).shown ++ item ∷ []; form = Some form; proved = proved }) (seat_of H s))
    by true same =
        let here = subst (λ (t : ℕ). IsLegalServing b plan H t step item (has form) proved nodes) (eqb-true session s same) legal in
        let at = pending_is_of_seat b plan H s step run here.is_problem.pending in
        served_keeps b plan s (seat_of H s) form item here.is_problem.of_seat.theta proved at.0.answered here.is_problem.of_seat.mode
        (subst (λ (P : Problem). Form P (has form)) here.is_problem.of_seat.is here.is_form)
        (subst (λ (P : Problem). IsNext P (has form) item) here.is_problem.of_seat.is here.next)
    by false other = keeps
keeps_with b plan H (Answered session step response) s run keeps legal = by (session == s) refl
  where
    by : (this : Bool) → (session == s) ≡ this → Keeps b plan s (cond this (record (seat_of H s) { responses = (seat_of H s).responses ++ response ∷ [] }) (seat_of H s))
    by true same = λ at theta aside words number there.
        let here = subst (λ (t : ℕ). IsLegalAnswer b plan H t step response) (eqb-true session s same) legal in
        let place = waiting plan H s step here.item here.proved here.waiting in
        let one = one_more plan H s step here.item here.proved (in_order b plan H s run) place in
        let n = shown_number H s in
        let m = responses_number H s in
        let band = ap (λ (xs : AnswerList). band_of plan (mode_of b plan.prior xs)) (first_answers (seat_of H s) response at (omega arith) (omega arith)) in
        let form = keeps at theta aside words number there in
        let moved = subst (λ (k : ℕ). Form (problem_barring b plan s (seat_of H s) theta aside (is_unavailable_in (seat_of H s) k)) (has words)) (sym band) form in
        record { meets = moved.meets; holds_given = moved.holds_given; holds_no_barred = moved.holds_no_barred }
    by false other = keeps
keeps_with b plan H (Closed session) s run keeps legal = by (session == s)
  where
    by : (this : Bool) → Keeps b plan s (cond this (record (seat_of H s) { closed = true }) (seat_of H s))
    by true = λ at theta aside words number there. let form = keeps at theta aside words number there in record { meets = form.meets; holds_given = form.holds_given; holds_no_barred = form.holds_no_barred }
    by false = keeps

-- ---- along a run
keeps : (b : Tables) (plan : Plan) (H : List Entry) (s : ℕ) → LegalRun b plan H → Keeps b plan s (seat_of H s)
keeps b plan H s empty = λ step theta aside words number there. absurd (omega arith)
keeps b plan H s (more before e run legal) =
    subst (λ (seat : Seat). Keeps b plan s seat) (sym (the_seat_goes_on b plan before e s run legal)) (keeps_with b plan before e s run (keeps b plan before s run) legal)

pub last_form_stays_in_band : LastFormStaysInBand
last_form_stays_in_band b plan H s step P words run is band there =
    let at = pending_is_of_seat b plan H s (step + 1) run is.pending in
    let shown = at.0.answered in
    let number = at.1 in
    let theta = is.of_seat.theta in
    let same : band_at b plan (seat_of H s) step ≡ band_of plan theta = band ∙ ap (λ (Q : Problem). band_of plan Q.theta) is.of_seat.is in
    let stays = keeps b plan H s run step theta (is_aside_in (seat_of H s) (band_of plan theta)) words (omega arith) there in
    subst (λ (Q : Problem). Form Q (has words)) (sym is.of_seat.is)
    (subst (λ (k : ℕ). Form (problem_barring b plan s (seat_of H s) theta (is_aside_in (seat_of H s) (band_of plan theta)) (is_unavailable_in (seat_of H s) k)) (has words)) same stays)
