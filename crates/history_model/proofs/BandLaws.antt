-- Eligibility is set aside in the band of the estimate, which is one of the plan.
use Rattle.std.proofs.Common.{◌≡◌, ℕ, zero, suc, ◌≤◌, ◌<◌, inl, inr, Bool, true, false, cond, ◌&&◌, ◌==◌, List, [], ◌∷◌, ◌++◌, length, take, map, get_or, Some, refl, sym, ap, ◌∙◌, subst, arith}
use Rattle.std.specs.Prelude.{nat_le}
use Rattle.std.specs.List.{zip, filter_map}
use Rattle.std.specs.Option.{option_map}
use Rattle.std.proofs.lemmas.Bool.{eqb-true, cases_Bool, le-ltb}
use Rattle.std.proofs.lemmas.List.{map-append}
use Rattle.std.proofs.lemmas.List.Elements.{filter_map-append}
use Rattle.std.proofs.lemmas.List.Sums.{count_by-le-length}
use Rattle.bank_tables.specs.Tables.{Tables}
use Rattle.serving_model.specs.declared.seat.Seat.{Seat}
use Rattle.form_model.specs.Plan.{Plan, band_of, bands_of}
use Rattle.form_model.specs.Problem.{Problem}
use Rattle.form_model.specs.Ability.{AnswerList, mode_of}
use Rattle.serving_model.specs.Seats.{answers, eight, eligible_in, is_aside_in, band_at}
use Rattle.form_model.proofs.SomeMode.{mode_is_mode_of}
use Rattle.history_model.specs.declared.entry.Entry.{Entry}
use Rattle.history_model.specs.declared.entry.Without.{Without}
use Rattle.history_model.specs.declared.entry.Entry.TheVariants.{Started, SetAside, Served, Answered, Closed}
use Rattle.history_model.specs.Entries.{Serving, StepAnswer, is_set_aside, servings, step_answers, shown, responses, seat_of}
use Rattle.history_model.specs.Draws.{draw, drawn}
use Rattle.history_model.specs.Legality.{Legal, LegalRun, empty, more}
use Rattle.history_model.specs.Laws.{raised, seat_with, OnlyBandsOfPlan, AsideIsOfEstimate}
use Rattle.history_model.proofs.SessionEntries.{session_serving, session_answer, servings_by, answers_by}
use Rattle.history_model.proofs.Bounds.{no_set}
use Rattle.history_model.proofs.RunParts.{each_is_legal}
use Rattle.history_model.proofs.Running.{the_seat_goes_on, pending_is_of_seat}

-- ---- the bands of the plan
band_is_of_plan : (plan : Plan) (g : ℕ) → band_of plan g < bands_of plan
band_is_of_plan plan g = let few = count_by-le-length (λ point. nat_le point g) plan.bands in omega arith

-- a flag that is not raised is as it was
other_flag : (f : ℕ → Bool) (band k : ℕ) → (band == k) ≡ false → get_or (eight f) k false ≡ false → get_or (raised (eight f) band) k false ≡ false
other_flag f band zero other e = rw (e, other) refl
other_flag f band (suc zero) other e = rw (e, other) refl
other_flag f band (suc (suc zero)) other e = rw (e, other) refl
other_flag f band (suc (suc (suc zero))) other e = rw (e, other) refl
other_flag f band (suc (suc (suc (suc zero)))) other e = rw (e, other) refl
other_flag f band (suc (suc (suc (suc (suc zero))))) other e = rw (e, other) refl
other_flag f band (suc (suc (suc (suc (suc (suc zero)))))) other e = rw (e, other) refl
other_flag f band (suc (suc (suc (suc (suc (suc (suc zero))))))) other e = rw (e, other) refl
other_flag f band (suc (suc (suc (suc (suc (suc (suc (suc k)))))))) other e = refl

no_flag : (k : ℕ) → get_or (eight (λ _. false)) k false ≡ false
no_flag zero = refl
no_flag (suc zero) = refl
no_flag (suc (suc zero)) = refl
no_flag (suc (suc (suc zero))) = refl
no_flag (suc (suc (suc (suc zero)))) = refl
no_flag (suc (suc (suc (suc (suc zero))))) = refl
no_flag (suc (suc (suc (suc (suc (suc zero)))))) = refl
no_flag (suc (suc (suc (suc (suc (suc (suc zero))))))) = refl
no_flag (suc (suc (suc (suc (suc (suc (suc (suc k)))))))) = refl

-- nothing is in the band
abbrev IsBare : Seat → ℕ → Type 0
IsBare seat band = ((i : ℕ) → eligible_in seat band i ≡ false) × (is_aside_in seat band ≡ false)

bare_with : (b : Tables) (plan : Plan) (H : List Entry) (e : Entry) (s k : ℕ) → bands_of plan ≤ k → IsBare (seat_of H s) k → Legal b plan H e → IsBare (seat_with s (seat_of H s) e) k
bare_with b plan H (Started session booking eligible without) s k past bare legal = by (session == s)
  where
    no_draw : (i : ℕ) → draw b plan H session k i ≡ false
    no_draw i = ap (λ (t : Bool). t && drawn plan.key plan.rate session k (Rattle.bank_tables.specs.Tables.size b) (Rattle.history_model.specs.Counts.band_counts b plan H k) i) (le-ltb k (bands_of plan) past)

    by : (this : Bool) → (let seat : Seat = cond this (record (seat_of H s) { eligible = eligible.sets; without = option_map (λ (list : Without). list.items) without; form = option_map (λ (list : Without). list.form) without }) (seat_of H s) in IsBare seat k)
    by true = (λ i. legal.drawn.each k i ∙ no_draw i, bare.1)
    by false = bare
bare_with b plan H (SetAside session step band cause nodes) s k past bare legal = by (session == s)
  where
    other : (band == k) ≡ false
    other = elim (cases_Bool (band == k)) [
      | inl same ↦
          let at : band ≡ k = eqb-true band k same in
          let is = legal.band_is in
          let below = band_is_of_plan plan legal.problem.theta in
          absurd (omega arith)
      | inr differs ↦ differs
    ]

    by : (this : Bool) → (let seat : Seat = cond this (record (seat_of H s) { aside = raised (seat_of H s).aside band }) (seat_of H s) in IsBare seat k)
    by true = (bare.0, other_flag (is_set_aside H s) band k other bare.1)
    by false = bare
bare_with b plan H (Served session step item form proved nodes) s k past bare legal = by (session == s)
  where
    by : (this : Bool) → (let seat : Seat = cond this (record (seat_of H s) { shown = (seat_of H s).shown ++ item ∷ []; form = Some form; proved = proved }) (seat_of H s) in IsBare seat k)
    by true = bare
    by false = bare
bare_with b plan H (Answered session step response) s k past bare legal = by (session == s)
  where
    by : (this : Bool) → (let seat : Seat = cond this (record (seat_of H s) { responses = (seat_of H s).responses ++ response ∷ [] }) (seat_of H s) in IsBare seat k)
    by true = bare
    by false = bare
bare_with b plan H (Closed session) s k past bare legal = by (session == s)
  where
    by : (this : Bool) → (let seat : Seat = cond this (record (seat_of H s) { closed = true }) (seat_of H s) in IsBare seat k)
    by true = bare
    by false = bare

pub only_bands_of_plan : OnlyBandsOfPlan
only_bands_of_plan b plan H s k empty past = (no_set k, no_flag k)
only_bands_of_plan b plan H s k (more before e run legal) past =
    subst (λ (seat : Seat). IsBare seat k) (sym (the_seat_goes_on b plan before e s run legal)) (bare_with b plan before e s k past (only_bands_of_plan b plan before s k run past) legal)

-- ---- the band of an entry
-- a longer history has more after what a session was shown and what it answered
more_shown : (H later : List Entry) (s : ℕ) → (rest : List ℕ) × (shown (H ++ later) s ≡ shown H s ++ rest)
more_shown H later s =
    let longer : servings (H ++ later) s ≡ servings H s ++ filter_map (session_serving s) later =
    servings_by (H ++ later) s ∙ (filter_map-append (session_serving s) H later ∙ ap (λ (xs : List Serving). xs ++ filter_map (session_serving s) later) (sym (servings_by H s))) in (
      map (λ (serving : Serving). serving.item) (filter_map (session_serving s) later),
      ap (map (λ (serving : Serving). serving.item)) longer ∙ map-append (λ (serving : Serving). serving.item) (servings H s) (filter_map (session_serving s) later),
    )

more_responses : (H later : List Entry) (s : ℕ) → (rest : List ℕ) × (responses (H ++ later) s ≡ responses H s ++ rest)
more_responses H later s =
    let longer : step_answers (H ++ later) s ≡ step_answers H s ++ filter_map (session_answer s) later =
    answers_by (H ++ later) s ∙ (filter_map-append (session_answer s) H later ∙ ap (λ (xs : List StepAnswer). xs ++ filter_map (session_answer s) later) (sym (answers_by H s))) in (
      map (λ (answer : StepAnswer). answer.response) (filter_map (session_answer s) later),
      ap (map (λ (answer : StepAnswer). answer.response)) longer ∙ map-append (λ (answer : StepAnswer). answer.response) (step_answers H s) (filter_map (session_answer s) later),
    )

first_pairs : (xs ys later others : List ℕ) (n : ℕ) → length xs ≡ n → length ys ≡ n → take n (zip (xs ++ later) (ys ++ others)) ≡ zip xs ys
first_pairs [] [] later others zero e f = refl
first_pairs [] [] later others (suc n) e f = absurd (omega arith)
first_pairs [] (y ∷ ys) later others n e f = absurd (omega arith)
first_pairs (x ∷ xs) [] later others n e f = absurd (omega arith)
first_pairs (x ∷ xs) (y ∷ ys) later others zero e f = absurd (omega arith)
first_pairs (x ∷ xs) (y ∷ ys) later others (suc n) e f = ap (λ (zs : AnswerList). (x, y) ∷ zs) (first_pairs xs ys later others n (omega arith) (omega arith))

-- the answers before a step are the first ones of a longer history
first_answers : (H later : List Entry) (s step : ℕ) → length (seat_of H s).shown ≡ step → length (seat_of H s).responses ≡ step → take step (answers (seat_of (H ++ later) s)) ≡ answers (seat_of H s)
first_answers H later s step e f =
    let a = more_shown H later s in
    let r = more_responses H later s in
    ap (λ (xs : List ℕ). take step (zip xs (responses (H ++ later) s))) a.1
    ∙ (ap (λ (ys : List ℕ). take step (zip (shown H s ++ a.0) ys)) r.1 ∙ first_pairs (shown H s) (responses H s) a.0 r.0 step e f)

pub aside_is_of_estimate : AsideIsOfEstimate
aside_is_of_estimate b plan H before after session step band cause nodes is run =
    let both = each_is_legal b plan before (SetAside session step band cause nodes) after (subst (LegalRun b plan) is run) in
    let legal = both.1 in
    let of_seat = legal.is_problem.of_seat in
    let at = pending_is_of_seat b plan before session step both.0 legal.is_problem.pending in
    let number = at.1 in
    let answered = at.0.answered in
    let first = first_answers before (SetAside session step band cause nodes ∷ after) session step (omega arith) number in
    let mode = (mode_is_mode_of b plan.prior (answers (seat_of before session)) of_seat.theta (let w = of_seat.mode.within in omega arith)).0 of_seat.mode in
    let there : band_at b plan (seat_of H session) step ≡ band_of plan of_seat.theta =
    ap (λ (G : List Entry). band_at b plan (seat_of G session) step) is ∙ (ap (λ (xs : AnswerList). band_of plan (mode_of b plan.prior xs)) first ∙ ap (band_of plan) (sym mode)) in
    (sym number, legal.band_is ∙ (ap (λ (P : Problem). band_of plan P.theta) of_seat.is ∙ sym there))
