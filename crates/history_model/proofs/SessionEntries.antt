-- The content of a session's entries, read from all entries at once.
use Rattle.std.proofs.Common.{◌≡◌, ℕ, Bool, true, false, cond, ◌&&◌, ◌||◌, ◌==◌, List, [], ◌∷◌, Option, Some, None, refl, sym, ap, ◌∙◌}
use Rattle.std.specs.List.{filter, filter_map, list_any, cons_option}
use Rattle.history_model.specs.declared.entry.Entry.{Entry}
use Rattle.history_model.specs.declared.entry.Entry.TheVariants.{Started, SetAside, Served, Answered, Closed}
use Rattle.history_model.specs.Entries.{Serving, StepAnswer, session_of, serving_of, answer_of, sets_aside_in, closes, servings, step_answers, is_set_aside, is_closed}

-- ---- one entry, for a session
abbrev pub session_serving : ℕ → Entry → Option Serving
session_serving s (Served session step item form proved nodes) = cond (session == s) (Some (record { step = step; item = item; form = form; proved = proved })) None
session_serving s entry = None

abbrev pub session_answer : ℕ → Entry → Option StepAnswer
session_answer s (Answered session step response) = cond (session == s) (Some (record { step = step; response = response })) None
session_answer s entry = None

abbrev pub sets_session_aside : ℕ → ℕ → Entry → Bool
sets_session_aside s band (SetAside session step at cause nodes) = (session == s) && (at == band)
sets_session_aside s band entry = false

abbrev pub closes_session : ℕ → Entry → Bool
closes_session s (Closed session) = session == s
closes_session s entry = false

-- ---- a list
map_filter : {A : Type 0} (p : Entry → Bool) (f g : Entry → Option A) → ((e : Entry) → g e ≡ cond (p e) (f e) None) → (xs : List Entry) → filter_map f (filter p xs) ≡ filter_map g xs
map_filter p f g same [] = refl
map_filter {A} p f g same (x ∷ xs) = by (p x) (map_filter p f g same xs) ∙ ap (λ (o : Option A). cons_option o (filter_map g xs)) (sym (same x))
  where
    by : (t : Bool) → filter_map f (filter p xs) ≡ filter_map g xs → filter_map f (cond t (x ∷ filter p xs) (filter p xs)) ≡ cons_option (cond t (f x) None) (filter_map g xs)
    by true rest = ap (λ (ys : List A). cons_option (f x) ys) rest
    by false rest = rest

any_filter : (p f g : Entry → Bool) → ((e : Entry) → g e ≡ (p e && f e)) → (xs : List Entry) → list_any f (filter p xs) ≡ list_any g xs
any_filter p f g same [] = refl
any_filter p f g same (x ∷ xs) = by (p x) (any_filter p f g same xs) ∙ ap (λ (t : Bool). t || list_any g xs) (sym (same x))
  where
    by : (t : Bool) → list_any f (filter p xs) ≡ list_any g xs → list_any f (cond t (x ∷ filter p xs) (filter p xs)) ≡ ((t && f x) || list_any g xs)
    by true rest = ap (λ (t : Bool). f x || t) rest
    by false rest = rest

neither : {A : Type 0} (t : Bool) → ◌≡◌ {A = Option A} None (cond t None None)
neither true = refl
neither false = refl

not_both : (t : Bool) → false ≡ (t && false)
not_both true = refl
not_both false = refl

both : (t : Bool) → t ≡ (t && true)
both true = refl
both false = refl

one_serving : (s : ℕ) (e : Entry) → session_serving s e ≡ cond (session_of e == s) (serving_of e) None
one_serving s (Started session booking eligible without) = neither (session == s)
one_serving s (SetAside session step band cause nodes) = neither (session == s)
one_serving s (Served session step item form proved nodes) = refl
one_serving s (Answered session step response) = neither (session == s)
one_serving s (Closed session) = neither (session == s)

one_answer : (s : ℕ) (e : Entry) → session_answer s e ≡ cond (session_of e == s) (answer_of e) None
one_answer s (Started session booking eligible without) = neither (session == s)
one_answer s (SetAside session step band cause nodes) = neither (session == s)
one_answer s (Served session step item form proved nodes) = neither (session == s)
one_answer s (Answered session step response) = refl
one_answer s (Closed session) = neither (session == s)

one_aside : (s band : ℕ) (e : Entry) → sets_session_aside s band e ≡ ((session_of e == s) && sets_aside_in band e)
one_aside s band (Started session booking eligible without) = not_both (session == s)
one_aside s band (SetAside session step at cause nodes) = refl
one_aside s band (Served session step item form proved nodes) = not_both (session == s)
one_aside s band (Answered session step response) = not_both (session == s)
one_aside s band (Closed session) = not_both (session == s)

one_closing : (s : ℕ) (e : Entry) → closes_session s e ≡ ((session_of e == s) && closes e)
one_closing s (Started session booking eligible without) = not_both (session == s)
one_closing s (SetAside session step band cause nodes) = not_both (session == s)
one_closing s (Served session step item form proved nodes) = not_both (session == s)
one_closing s (Answered session step response) = not_both (session == s)
one_closing s (Closed session) = both (session == s)

pub servings_by : (H : List Entry) (s : ℕ) → servings H s ≡ filter_map (session_serving s) H
servings_by H s = map_filter (λ e. session_of e == s) serving_of (session_serving s) (one_serving s) H

pub answers_by : (H : List Entry) (s : ℕ) → step_answers H s ≡ filter_map (session_answer s) H
answers_by H s = map_filter (λ e. session_of e == s) answer_of (session_answer s) (one_answer s) H

pub aside_by : (H : List Entry) (s band : ℕ) → is_set_aside H s band ≡ list_any (sets_session_aside s band) H
aside_by H s band = any_filter (λ e. session_of e == s) (sets_aside_in band) (sets_session_aside s band) (one_aside s band) H

pub closed_by : (H : List Entry) (s : ℕ) → is_closed H s ≡ list_any (closes_session s) H
closed_by H s = any_filter (λ e. session_of e == s) closes (closes_session s) (one_closing s) H
