-- What a longer history keeps.
use Rattle.std.proofs.Common.{◌≡◌, inl, inr, ℕ, zero, suc, ◌+◌, ◌≤◌, Bool, true, false, cond, not, ◌==◌, List, [], ◌∷◌, ◌++◌, length, slice_get, map, Option, Some, None, refl, sym, ap, ◌∙◌, subst, arith, append_assoc, length-append}
use Rattle.std.specs.Prelude.{nat_le}
use Rattle.std.specs.List.{filter_map, list_any}
use Rattle.std.proofs.lemmas.Bool.{cases_Bool, eqb-true, leb-true, le-leb}
use Rattle.std.proofs.lemmas.List.{append-nil, map-append}
use Rattle.std.proofs.lemmas.List.Elements.{filter_map-append}
use Rattle.std.proofs.lemmas.List.Folds.{list_any-append}
use Rattle.std.proofs.lemmas.List.Sums.{sum_by-append}
use Rattle.bank_tables.specs.Tables.{Tables}
use Rattle.form_model.specs.Plan.{Plan}
use Rattle.history_model.specs.declared.entry.Entry.{Entry}
use Rattle.history_model.specs.declared.entry.Entry.TheVariants.{Started, SetAside, Served, Answered, Closed}
use Rattle.history_model.specs.declared.place.Place.{Place}
use Rattle.history_model.specs.declared.place.Place.TheVariants.{Complete, Closed as IsClosed}
use Rattle.history_model.specs.Entries.{Serving, StepAnswer, starts, starts_session, holder_of, is_started, step_answers, is_closed}
use Rattle.history_model.proofs.SessionEntries.{session_answer, closes_session, answers_by, closed_by as session_closed_by}
use Rattle.history_model.specs.Places.{serving_at, place_at, place}
use Rattle.history_model.specs.Legality.{Legal, LegalRun, GoesOn}
use Rattle.history_model.specs.Laws.{HolderStays, ResponseStays, ClosedStays, SessionsGrow, CompleteStays}
use Rattle.history_model.proofs.Pushed.{closed-push}
use Rattle.history_model.proofs.RunParts.{each_is_legal}

-- an element of a list has the same place in the list with more after it
get_longer : {A : Type 0} (xs ys : List A) (k : ℕ) (x : A) → slice_get xs k ≡ Some x → slice_get (xs ++ ys) k ≡ Some x
get_longer [] ys k x e = absurd (cc)
get_longer (y ∷ xs) ys zero x e = e
get_longer (y ∷ xs) ys (suc k) x e = get_longer xs ys k x e

pub holder_stays : HolderStays
holder_stays H more booking session e =
    ap (λ (xs : List ℕ). slice_get xs 0) (filter_map-append (holder_of booking) H more) ∙ get_longer (filter_map (holder_of booking) H) (filter_map (holder_of booking) more) 0 session e

longer_answers : (H more : List Entry) (s : ℕ) → step_answers (H ++ more) s ≡ step_answers H s ++ step_answers more s
longer_answers H more s =
    answers_by (H ++ more) s
    ∙ (filter_map-append (session_answer s) H more
    ∙ (ap (λ (xs : List StepAnswer). xs ++ filter_map (session_answer s) more) (sym (answers_by H s)) ∙ ap (λ (xs : List StepAnswer). step_answers H s ++ xs) (sym (answers_by more s))))

pub response_stays : ResponseStays
response_stays H more s step response e =
    ap (λ (xs : List ℕ). slice_get xs step) (ap (map (λ (answer : StepAnswer). answer.response)) (longer_answers H more s) ∙ map-append (λ (answer : StepAnswer). answer.response) (step_answers H s) (step_answers more s))
    ∙ get_longer (map (λ (answer : StepAnswer). answer.response) (step_answers H s)) (map (λ (answer : StepAnswer). answer.response) (step_answers more s)) step response e

pub sessions_grow : SessionsGrow
sessions_grow H more = omega (arith, sum_by-append (λ (x : Entry). cond (starts x) 1 0) H more)

-- ---- closed
pub still_started : (H more : List Entry) (s : ℕ) → is_started H s ≡ true → is_started (H ++ more) s ≡ true
still_started H more s e = list_any-append (starts_session s) H more ∙ rw e refl

pub still_closed : (H more : List Entry) (s : ℕ) → is_closed H s ≡ true → is_closed (H ++ more) s ≡ true
still_closed H more s e =
    let before : list_any (closes_session s) H ≡ true = sym (session_closed_by H s) ∙ e in
    session_closed_by (H ++ more) s ∙ (list_any-append (closes_session s) H more ∙ rw before refl)

closed_by : (is_there closed full : Bool) (n : ℕ) (o : Option Serving) → ◌≡◌ {A = Option Place} (cond (not is_there) None (cond closed (Some IsClosed) (cond full (Some Complete) (Some (place_at n o))))) (Some IsClosed) → (is_there ≡ true) × (closed ≡ true)
closed_by false closed full n o e = absurd (cc)
closed_by true true full n o e = (refl, refl)
closed_by true false true n o e = absurd (cc)
closed_by true false false n None e = absurd (cc)
closed_by true false false n (Some serving) e = absurd (cc)

pub closed_stays : ClosedStays
closed_stays plan H more s e =
    let p = closed_by (is_started H s) (is_closed H s) (nat_le plan.length (length (step_answers H s))) (length (step_answers H s)) (serving_at H s (length (step_answers H s))) e in
    rw (still_started H more s p.0, still_closed H more s p.1) refl

-- ---- complete
record IsCompleteBy (is_there closed full : Bool) : Type 0 where
  pub there : is_there ≡ true
  pub not_closed : closed ≡ false
  pub enough : full ≡ true

complete_by : (is_there closed full : Bool) (n : ℕ) (o : Option Serving) → ◌≡◌ {A = Option Place} (cond (not is_there) None (cond closed (Some IsClosed) (cond full (Some Complete) (Some (place_at n o))))) (Some Complete) → IsCompleteBy is_there closed full
complete_by false closed full n o e = absurd (cc)
complete_by true true full n o e = absurd (cc)
complete_by true false true n o e = record { there = refl; not_closed = refl; enough = refl }
complete_by true false false n None e = absurd (cc)
complete_by true false false n (Some serving) e = absurd (cc)

not_over : (plan : Plan) (H : List Entry) (s : ℕ) (at : Place) → place plan H s ≡ Some Complete → place plan H s ≡ Some at → GoesOn at → ⊥
not_over plan H s at complete is goes_on =
    let e : Some Complete ≡ Some at = sym complete ∙ is in
    let same : Complete ≡ at = cc in
    subst GoesOn (sym same) goes_on

not_closing : (b : Tables) (plan : Plan) (H : List Entry) (e : Entry) (s : ℕ) → Legal b plan H e → place plan H s ≡ Some Complete → closes_session s e ≡ false
not_closing b plan H (Started session booking eligible without) s legal complete = refl
not_closing b plan H (SetAside session step band cause nodes) s legal complete = refl
not_closing b plan H (Served session step item form proved nodes) s legal complete = refl
not_closing b plan H (Answered session step response) s legal complete = refl
not_closing b plan H (Closed session) s legal complete = elim (cases_Bool (session == s)) [
  | inl same ↦
      let number : session ≡ s = eqb-true session s same in
      absurd (not_over plan H s legal.at complete (ap (λ (n : ℕ). place plan H n) (sym number) ∙ legal.stands) legal.goes_on)
  | inr other ↦ other
]

one_more : (b : Tables) (plan : Plan) (H : List Entry) (e : Entry) (s : ℕ) → Legal b plan H e → place plan H s ≡ Some Complete → place plan (H ++ e ∷ []) s ≡ Some Complete
one_more b plan H e s legal complete =
    let p = complete_by (is_started H s) (is_closed H s) (nat_le plan.length (length (step_answers H s))) (length (step_answers H s)) (serving_at H s (length (step_answers H s))) complete in
    let before : plan.length ≤ length (step_answers H s) = leb-true _ _ p.enough in
    let number : length (step_answers (H ++ e ∷ []) s) ≡ length (step_answers H s) + length (step_answers (e ∷ []) s) = ap (λ (xs : List StepAnswer). length xs) (longer_answers H (e ∷ []) s) ∙ length-append (step_answers H s) (step_answers (e ∷ []) s) in
    let enough : nat_le plan.length (length (step_answers (H ++ e ∷ []) s)) ≡ true = le-leb _ _ (omega arith) in
    let open_yet : is_closed (H ++ e ∷ []) s ≡ false = closed-push H e s ∙ rw (p.not_closed, not_closing b plan H e s legal complete) refl in
    rw (still_started H (e ∷ []) s p.there, open_yet, enough) refl

pub complete_stays : CompleteStays
complete_stays b plan H [] s run complete = ap (λ (G : List Entry). place plan G s) (append-nil H) ∙ complete
complete_stays b plan H (e ∷ more) s run complete =
    let both = each_is_legal b plan H e more run in
    let same : (H ++ e ∷ []) ++ more ≡ H ++ e ∷ more = append_assoc H (e ∷ []) more in
    ap (λ (G : List Entry). place plan G s) (sym same)
    ∙ complete_stays b plan (H ++ e ∷ []) more s (subst (LegalRun b plan) (sym same) run) (one_more b plan H e s both.1 complete)
