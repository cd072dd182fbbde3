-- What one entry more changes.
use Rattle.std.proofs.Common.{◌≡◌, ℕ, ◌+◌, ◌-◌, Bool, true, false, cond, ◌&&◌, ◌||◌, ◌==◌, List, [], ◌∷◌, ◌++◌, length, slice_get, Option, Some, None, refl, sym, ap, ◌∙◌, arith, map, unwrap_or, length-append}
use Rattle.std.specs.List.{cons_option, filter_map}
use Rattle.std.specs.Option.{option_map, option_map_or, option_or}
use Rattle.std.proofs.lemmas.List.{map-append}
use Rattle.std.proofs.lemmas.List.Elements.{filter_map-append}
use Rattle.std.proofs.lemmas.List.Folds.{list_any-append}
use Rattle.std.proofs.lemmas.List.Sums.{sum_by-append}
use Rattle.std.proofs.Math.Bool.{true≢false}
use Rattle.serving_model.specs.declared.seat.Seat.{Seat}
use Rattle.serving_model.specs.Seats.{eight}
use Rattle.history_model.specs.declared.entry.Entry.{Entry}
use Rattle.history_model.specs.declared.entry.Without.{Without}
use Rattle.history_model.specs.declared.entry.Entry.TheVariants.{Started, SetAside, Served, Answered, Closed}
use Rattle.history_model.specs.Entries.{starts, starts_session, eligible_of, without_of, Serving, StepAnswer, sessions, is_started, servings, step_answers, is_set_aside, is_closed, seat_of}
use Rattle.history_model.proofs.SessionEntries.{sets_session_aside, session_serving, session_answer, closes_session, servings_by, answers_by, aside_by, closed_by}
use Rattle.history_model.specs.Laws.{raised, seat_with}

pub list_end : {A : Type 0} (xs : List A) → xs ++ [] ≡ xs
list_end [] = refl
list_end (x ∷ xs) = ap (λ ys. x ∷ ys) (list_end xs)

pub or_end : (b : Bool) → (b || false) ≡ b
or_end true = refl
or_end false = refl

or_on : (b : Bool) → (b || true) ≡ true
or_on true = refl
or_on false = refl

last_push : {A : Type 0} (xs : List A) (x : A) → slice_get (xs ++ x ∷ []) (length xs) ≡ Some x
last_push [] x = refl
last_push (y ∷ xs) x = last_push xs x

-- the last element is the one pushed
pub last-push : {A : Type 0} (xs : List A) (x : A) → slice_get (xs ++ x ∷ []) (length (xs ++ x ∷ []) - 1) ≡ Some x
last-push xs x = let e : length (xs ++ x ∷ []) - 1 ≡ length xs = omega (arith, length-append xs (x ∷ [])) in ap (slice_get (xs ++ x ∷ [])) e ∙ last_push xs x

-- ---- filters
pub servings-push : (H : List Entry) (e : Entry) (s : ℕ) → servings (H ++ e ∷ []) s ≡ servings H s ++ filter_map (session_serving s) (e ∷ [])
servings-push H e s = servings_by (H ++ e ∷ []) s ∙ (filter_map-append (session_serving s) H (e ∷ []) ∙ ap (λ (xs : List Serving). xs ++ filter_map (session_serving s) (e ∷ [])) (sym (servings_by H s)))

pub answers-push : (H : List Entry) (e : Entry) (s : ℕ) → step_answers (H ++ e ∷ []) s ≡ step_answers H s ++ filter_map (session_answer s) (e ∷ [])
answers-push H e s = answers_by (H ++ e ∷ []) s ∙ (filter_map-append (session_answer s) H (e ∷ []) ∙ ap (λ (xs : List StepAnswer). xs ++ filter_map (session_answer s) (e ∷ [])) (sym (answers_by H s)))

pub started-push : (H : List Entry) (e : Entry) (s : ℕ) → is_started (H ++ e ∷ []) s ≡ (is_started H s || (starts_session s e || false))
started-push H e s = list_any-append (starts_session s) H (e ∷ [])

pub aside-push : (H : List Entry) (e : Entry) (s band : ℕ) → is_set_aside (H ++ e ∷ []) s band ≡ (is_set_aside H s band || (sets_session_aside s band e || false))
aside-push H e s band = aside_by (H ++ e ∷ []) s band ∙ (list_any-append (sets_session_aside s band) H (e ∷ []) ∙ ap (λ (t : Bool). t || (sets_session_aside s band e || false)) (sym (aside_by H s band)))

-- eight flags are the same where each is
pub eight_same : (f g : ℕ → Bool) → ((k : ℕ) → f k ≡ g k) → eight f ≡ eight g
eight_same f g same = rw (same 0, same 1, same 2, same 3, same 4, same 5, same 6, same 7) refl

pub closed-push : (H : List Entry) (e : Entry) (s : ℕ) → is_closed (H ++ e ∷ []) s ≡ (is_closed H s || (closes_session s e || false))
closed-push H e s = closed_by (H ++ e ∷ []) s ∙ (list_any-append (closes_session s) H (e ∷ []) ∙ ap (λ (t : Bool). t || (closes_session s e || false)) (sym (closed_by H s)))

pub sessions-push : (H : List Entry) (e : Entry) → sessions (H ++ e ∷ []) ≡ sessions H + cond (starts e) 1 0
sessions-push H e = omega (arith, sum_by-append (λ (x : Entry). cond (starts x) 1 0) H (e ∷ []))

-- ---- the seat, by what it reads of the history
abbrev seat_by : List Serving → List StepAnswer → List (List (List ℕ)) → List Without → List Bool → Bool → Seat
seat_by S A E W aside closed =
    record {
      shown = map (λ (serving : Serving). serving.item) S;
      responses = map (λ (answer : StepAnswer). answer.response) A;
      eligible = unwrap_or (slice_get E 0) [];
      aside = aside;
      without = option_map (λ (list : Without). list.items) (slice_get W 0);
      form = option_or (option_map (λ (serving : Serving). serving.form) (slice_get S (length S - 1))) (option_map (λ (list : Without). list.form) (slice_get W 0));
      proved = option_map_or (λ (serving : Serving). serving.proved) (slice_get S (length S - 1)) false;
      closed = closed;
    }

eligibles : List Entry → ℕ → List (List (List ℕ))
eligibles H s = filter_map (eligible_of s) H

lists : List Entry → ℕ → List Without
lists H s = filter_map (without_of s) H

seat-push : (H : List Entry) (e : Entry) (s : ℕ) → seat_of (H ++ e ∷ []) s ≡ seat_by (servings H s ++ filter_map (session_serving s) (e ∷ [])) (step_answers H s ++ filter_map (session_answer s) (e ∷ [])) (eligibles H s ++ filter_map (eligible_of s) (e ∷ [])) (lists H s ++ filter_map (without_of s) (e ∷ [])) (eight (λ k. is_set_aside H s k || (sets_session_aside s k e || false))) (is_closed H s || (closes_session s e || false))
unfolding eligibles lists
seat-push H e s =
    rw (servings-push H e s, answers-push H e s, filter_map-append (eligible_of s) H (e ∷ []), filter_map-append (without_of s) H (e ∷ []), eight_same (is_set_aside (H ++ e ∷ []) s) (λ k. is_set_aside H s k || (sets_session_aside s k e || false)) (aside-push H e s), closed-push H e s) refl

same_seat : (shown shown' responses responses' : List ℕ) (eligible eligible' : List (List ℕ)) (aside aside' : List Bool) (without without' form form' : Option (List ℕ)) (proved proved' closed closed' : Bool)
    → shown ≡ shown' → responses ≡ responses' → eligible ≡ eligible' → aside ≡ aside' → without ≡ without' → form ≡ form' → proved ≡ proved' → closed ≡ closed'
    → (let s : Seat = record { shown = shown; responses = responses; eligible = eligible; aside = aside; without = without; form = form; proved = proved; closed = closed } in let t : Seat = record { shown = shown'; responses = responses'; eligible = eligible'; aside = aside'; without = without'; form = form'; proved = proved'; closed = closed' } in s ≡ t)
same_seat shown shown' responses responses' eligible eligible' aside aside' without without' form form' proved proved' closed closed' a b c d e f g h = cc

-- no flag is raised
raised_none : (aside : ℕ → Bool) → eight (λ k. aside k || false) ≡ eight aside
raised_none aside = eight_same (λ k. aside k || false) aside (λ k. or_end (aside k))

module _ (S : List Serving) (A : List StepAnswer) (E : List (List (List ℕ))) (W : List Without) (aside : ℕ → Bool) (closed : Bool) where
  -- the entry adds nothing to the seat of the session
  same_by : seat_by (S ++ []) (A ++ []) (E ++ []) (W ++ []) (eight (λ k. aside k || false)) (closed || false) ≡ seat_by S A E W (eight aside) closed
  same_by = rw (list_end S, list_end A, list_end E, list_end W, raised_none aside, or_end closed) refl

  started_by : (words : List (List ℕ)) (list : Option Without) → S ≡ [] → E ≡ [] → W ≡ []
      → seat_by (S ++ []) (A ++ []) (E ++ words ∷ []) (W ++ cons_option list []) (eight (λ k. aside k || false)) (closed || false)
      ≡ record (seat_by S A E W (eight aside) closed) { eligible = words; without = option_map (λ (list : Without). list.items) list; form = option_map (λ (list : Without). list.form) list }
  started_by words None unserved none unlisted = rw (unserved, list_end A, none, unlisted, raised_none aside, or_end closed) refl
  started_by words (Some list) unserved none unlisted = rw (unserved, list_end A, none, unlisted, raised_none aside, or_end closed) refl

  set_aside_by : (band : ℕ) → seat_by (S ++ []) (A ++ []) (E ++ []) (W ++ []) (eight (λ k. aside k || ((band == k) || false))) (closed || false) ≡ record (seat_by S A E W (eight aside) closed) { aside = raised (eight aside) band }
  set_aside_by band =
      let flags : eight (λ k. aside k || ((band == k) || false)) ≡ eight (λ k. aside k || (band == k)) = eight_same (λ k. aside k || ((band == k) || false)) (λ k. aside k || (band == k)) (λ k. ap (λ (t : Bool). aside k || t) (or_end (band == k))) in
      rw (list_end S, list_end A, list_end E, list_end W, flags, or_end closed) refl

  was_closed_by : seat_by (S ++ []) (A ++ []) (E ++ []) (W ++ []) (eight (λ k. aside k || false)) (closed || true) ≡ record (seat_by S A E W (eight aside) closed) { closed = true }
  was_closed_by = rw (list_end S, list_end A, list_end E, list_end W, raised_none aside, or_on closed) refl

  served_by : (serving : Serving) → seat_by (S ++ serving ∷ []) (A ++ []) (E ++ []) (W ++ []) (eight (λ k. aside k || false)) (closed || false) ≡ record (seat_by S A E W (eight aside) closed) { shown = map (λ (serving : Serving). serving.item) S ++ serving.item ∷ []; form = Some serving.form; proved = serving.proved }
  served_by serving =
      same_seat _ _ _ _ _ _ _ _ _ _ _ _ _ _ _ _
      (map-append (λ (serving : Serving). serving.item) S (serving ∷ []))
      (ap (map (λ (answer : StepAnswer). answer.response)) (list_end A))
      (ap (λ (words : List (List (List ℕ))). unwrap_or (slice_get words 0) []) (list_end E))
      (raised_none aside)
      (ap (λ (lists : List Without). option_map (λ (list : Without). list.items) (slice_get lists 0)) (list_end W))
      (ap (λ (last : Option Serving). option_or (option_map (λ (serving : Serving). serving.form) last) (option_map (λ (list : Without). list.form) (slice_get (W ++ []) 0))) (last-push S serving))
      (ap (λ (last : Option Serving). option_map_or (λ (serving : Serving). serving.proved) last false) (last-push S serving))
      (or_end closed)

  answered_by : (answer : StepAnswer) → seat_by (S ++ []) (A ++ answer ∷ []) (E ++ []) (W ++ []) (eight (λ k. aside k || false)) (closed || false) ≡ record (seat_by S A E W (eight aside) closed) { responses = map (λ (answer : StepAnswer). answer.response) A ++ answer.response ∷ [] }
  answered_by answer = rw (list_end S, map-append (λ (answer : StepAnswer). answer.response) A (answer ∷ []), list_end E, list_end W, raised_none aside, or_end closed) refl

-- a session that isn't started has no eligible set
no_eligible : (H : List Entry) (s : ℕ) → is_started H s ≡ false → eligibles H s ≡ []
unfolding eligibles
no_eligible [] s e = refl
no_eligible (Started session booking eligible without ∷ H) s e = by (session == s) (no_eligible H s) e
  where
    by : (this : Bool) → (is_started H s ≡ false → filter_map (eligible_of s) H ≡ []) → (this || is_started H s) ≡ false → cons_option (cond this (Some eligible.sets) None) (filter_map (eligible_of s) H) ≡ []
    by true rest h = absurd (true≢false h)
    by false rest h = rest h
no_eligible (SetAside session step band cause nodes ∷ H) s e = no_eligible H s e
no_eligible (Served session step item form proved nodes ∷ H) s e = no_eligible H s e
no_eligible (Answered session step response ∷ H) s e = no_eligible H s e
no_eligible (Closed session ∷ H) s e = no_eligible H s e

-- nor a list
no_lists : (H : List Entry) (s : ℕ) → is_started H s ≡ false → lists H s ≡ []
unfolding lists
no_lists [] s e = refl
no_lists (Started session booking eligible without ∷ H) s e = by (session == s) (no_lists H s) e
  where
    by : (this : Bool) → (is_started H s ≡ false → filter_map (without_of s) H ≡ []) → (this || is_started H s) ≡ false → cons_option (cond this without None) (filter_map (without_of s) H) ≡ []
    by true rest h = absurd (true≢false h)
    by false rest h = rest h
no_lists (SetAside session step band cause nodes ∷ H) s e = no_lists H s e
no_lists (Served session step item form proved nodes ∷ H) s e = no_lists H s e
no_lists (Answered session step response ∷ H) s e = no_lists H s e
no_lists (Closed session ∷ H) s e = no_lists H s e

-- the seat goes on by the entry, if the session is started at most once, and before its items are
-- served
pub seat_goes_on : (H : List Entry) (e : Entry) (s : ℕ) → (starts_session s e ≡ true → (is_started H s ≡ false) × (servings H s ≡ [])) → seat_of (H ++ e ∷ []) s ≡ seat_with s (seat_of H s) e
unfolding eligibles lists
seat_goes_on H (Started session booking eligible without) s new = seat-push H (Started session booking eligible without) s ∙ by (session == s) new
  where
    by : (this : Bool) → (this ≡ true → (is_started H s ≡ false) × (servings H s ≡ [])) → seat_by (servings H s ++ []) (step_answers H s ++ []) (filter_map (eligible_of s) H ++ cons_option (cond this (Some eligible.sets) None) []) (filter_map (without_of s) H ++ cons_option (cond this without None) []) (eight (λ k. is_set_aside H s k || false)) (is_closed H s || false) ≡ cond this (record (seat_of H s) { eligible = eligible.sets; without = option_map (λ (list : Without). list.items) without; form = option_map (λ (list : Without). list.form) without }) (seat_of H s)
    by true h = started_by (servings H s) (step_answers H s) (filter_map (eligible_of s) H) (filter_map (without_of s) H) (is_set_aside H s) (is_closed H s) eligible.sets without (h refl).1 (no_eligible H s (h refl).0) (no_lists H s (h refl).0)
    by false h = same_by (servings H s) (step_answers H s) (filter_map (eligible_of s) H) (filter_map (without_of s) H) (is_set_aside H s) (is_closed H s)
seat_goes_on H (SetAside session step band cause nodes) s new = seat-push H (SetAside session step band cause nodes) s ∙ by (session == s)
  where
    by : (this : Bool) → seat_by (servings H s ++ []) (step_answers H s ++ []) (filter_map (eligible_of s) H ++ []) (filter_map (without_of s) H ++ []) (eight (λ k. is_set_aside H s k || ((this && (band == k)) || false))) (is_closed H s || false) ≡ cond this (record (seat_of H s) { aside = raised (seat_of H s).aside band }) (seat_of H s)
    by true = set_aside_by (servings H s) (step_answers H s) (filter_map (eligible_of s) H) (filter_map (without_of s) H) (is_set_aside H s) (is_closed H s) band
    by false = same_by (servings H s) (step_answers H s) (filter_map (eligible_of s) H) (filter_map (without_of s) H) (is_set_aside H s) (is_closed H s)
seat_goes_on H (Served session step item form proved nodes) s new = seat-push H (Served session step item form proved nodes) s ∙ by (session == s)
  where
    serving : Serving
    serving = record { step = step; item = item; form = form; proved = proved }

    by : (this : Bool) → seat_by (servings H s ++ cons_option (cond this (Some serving) None) []) (step_answers H s ++ []) (filter_map (eligible_of s) H ++ []) (filter_map (without_of s) H ++ []) (eight (λ k. is_set_aside H s k || false)) (is_closed H s || false) ≡ cond this (record (seat_of H s) { shown = (seat_of H s).shown ++ item ∷ []; form = Some form; proved = proved }) (seat_of H s)
    by true = served_by (servings H s) (step_answers H s) (filter_map (eligible_of s) H) (filter_map (without_of s) H) (is_set_aside H s) (is_closed H s) serving
    by false = same_by (servings H s) (step_answers H s) (filter_map (eligible_of s) H) (filter_map (without_of s) H) (is_set_aside H s) (is_closed H s)
seat_goes_on H (Answered session step response) s new = seat-push H (Answered session step response) s ∙ by (session == s)
  where
    answer : StepAnswer
    answer = record { step = step; response = response }

    by : (this : Bool) → seat_by (servings H s ++ []) (step_answers H s ++ cons_option (cond this (Some answer) None) []) (filter_map (eligible_of s) H ++ []) (filter_map (without_of s) H ++ []) (eight (λ k. is_set_aside H s k || false)) (is_closed H s || false) ≡ cond this (record (seat_of H s) { responses = (seat_of H s).responses ++ response ∷ [] }) (seat_of H s)
    by true = answered_by (servings H s) (step_answers H s) (filter_map (eligible_of s) H) (filter_map (without_of s) H) (is_set_aside H s) (is_closed H s) answer
    by false = same_by (servings H s) (step_answers H s) (filter_map (eligible_of s) H) (filter_map (without_of s) H) (is_set_aside H s) (is_closed H s)
seat_goes_on H (Closed session) s new = seat-push H (Closed session) s ∙ by (session == s)
  where
    by : (this : Bool) → seat_by (servings H s ++ []) (step_answers H s ++ []) (filter_map (eligible_of s) H ++ []) (filter_map (without_of s) H ++ []) (eight (λ k. is_set_aside H s k || false)) (is_closed H s || (this || false)) ≡ cond this (record (seat_of H s) { closed = true }) (seat_of H s)
    by true = was_closed_by (servings H s) (step_answers H s) (filter_map (eligible_of s) H) (filter_map (without_of s) H) (is_set_aside H s) (is_closed H s)
    by false = same_by (servings H s) (step_answers H s) (filter_map (eligible_of s) H) (filter_map (without_of s) H) (is_set_aside H s) (is_closed H s)
