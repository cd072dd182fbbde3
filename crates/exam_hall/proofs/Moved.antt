-- What is added between two moments at which a session waits for an item.
use Rattle.std.proofs.Common.{◌≡◌, ◌≢◌, ◌⊎◌, ℕ, zero, suc, ◌+◌, ◌<◌, ◌==◌, cond, List, [], ◌∷◌, ◌++◌, length, refl, sym, ap, ◌∙◌, subst, inl, inr, ⊎_elim, arith, Option, Some, None, filter_map, Contains, slice_get, length-append}
use Rattle.std.specs.List.{cons_option}
use Rattle.std.proofs.lemmas.Bool.{eqb-true, cases_Bool}
use Rattle.std.proofs.lemmas.List.Elements.{filter_map-append}
use Rattle.bank_tables.specs.Tables.{Tables}
use Rattle.form_model.specs.Plan.{Plan}
use Rattle.history_model.specs.declared.entry.Entry.{Entry}
use Rattle.history_model.specs.declared.entry.Entry.TheVariants.{Started, SetAside, Served, Answered, Closed}
use Rattle.history_model.specs.declared.place.Place.TheVariants.{Pending}
use Rattle.history_model.specs.Entries.{Serving, StepAnswer, servings, step_answers}
use Rattle.history_model.specs.Legality.{LegalRun}
use Rattle.history_model.specs.Places.{place}
use Rattle.history_model.proofs.SessionEntries.{session_serving, session_answer, servings_by, answers_by}
use Rattle.history_model.proofs.Standing.{pending}
use Rattle.history_model.proofs.Running.{all_answered}
use Rattle.history_model.proofs.Ordered.{in_order}
use Rattle.turn_lock.specs.Histories.{StartsWith}
use Rattle.turn_lock.proofs.Lists.{contains_cons, contains_nothing}
use Rattle.exam_office.specs.declared.mark.Mark.{Mark}
use Rattle.exam_office.specs.declared.mark.Mark.TheVariants.{Old, Opened, Own, Adopted, Fault}
use Rattle.exam_office.specs.Marks.{entry_of, history}
use Rattle.exam_hall.specs.Went.{taken}
use Rattle.exam_hall.specs.Parts.{own_of, owns, AtMostOne, IsAside, IsServing, IsAnswer, HasOther, MovedOn}
use Rattle.exam_hall.proofs.Went.{get_after}

pub history_append : (S T : List Mark) → history (S ++ T) ≡ history S ++ history T
history_append S T = filter_map-append entry_of S T

pub owns_append : (S T : List Mark) → owns (S ++ T) ≡ owns S ++ owns T
owns_append S T = filter_map-append own_of S T

-- ---- the entries of a session
pub more_servings : (H G : List Entry) (s : ℕ) → servings (H ++ G) s ≡ servings H s ++ servings G s
more_servings H G s =
    servings_by (H ++ G) s
    ∙ (filter_map-append (session_serving s) H G
    ∙ (ap (λ (xs : List Serving). xs ++ filter_map (session_serving s) G) (sym (servings_by H s)) ∙ ap (λ (xs : List Serving). servings H s ++ xs) (sym (servings_by G s))))

pub more_answers : (H G : List Entry) (s : ℕ) → step_answers (H ++ G) s ≡ step_answers H s ++ step_answers G s
more_answers H G s =
    answers_by (H ++ G) s
    ∙ (filter_map-append (session_answer s) H G
    ∙ (ap (λ (xs : List StepAnswer). xs ++ filter_map (session_answer s) G) (sym (answers_by H s)) ∙ ap (λ (xs : List StepAnswer). step_answers H s ++ xs) (sym (answers_by G s))))

-- a session that waits for an item has as many items as answers, and its step is their number
pub record IsEven (H : List Entry) (s k : ℕ) : Type 0 where
  pub answers : length (step_answers H s) ≡ k
  pub servings : length (Rattle.history_model.specs.Entries.servings H s) ≡ k

pub even : (b : Tables) (plan : Plan) (H : List Entry) (s k : ℕ) → LegalRun b plan H → place plan H s ≡ Some (Pending k) → IsEven H s k
even b plan H s k run e =
    let at = pending plan H s k e in
    let number = at.number in
    let all = all_answered plan H s k (in_order b plan H s run) at in
    record { answers = number; servings = omega arith }

-- ---- marks that add them
-- some mark of the list has an entry that passes P
abbrev pub Has : (Entry → Type 0) → List Mark → Type 0
Has P T = (p : ℕ) × (m : Mark) × (e : Entry) × (slice_get T p ≡ Some m) × (entry_of m ≡ Some e) × P e

pub shifted : (P : Entry → Type 0) (x : Mark) (T : List Mark) → Has P T → Has P (x ∷ T)
shifted P x T h = (suc h.0, h.1, h.2, h.3, h.4, h.5)

module _ {A : Type 0} (f : Entry → Option A) (P : Entry → Type 0) (or : (e : Entry) → P e ⊎ (f e ≡ None)) where
  by_entry : (m : Mark) (e : Entry) (T : List Mark) → entry_of m ≡ Some e → (0 < length (filter_map f (history T)) → Has P T) → 0 < length (cons_option (f e) (filter_map f (history T))) → Has P (m ∷ T)
  by_entry m e T is rest lt = ⊎_elim
      (λ h. (0, m, e, refl, is, h))
      (λ none. shifted P m T (rest (subst (λ (o : Option A). 0 < length (cons_option o (filter_map f (history T)))) none lt)))
      (or e)

  -- where something of the kind was added, some mark has it
  pub found_in : (T : List Mark) → 0 < length (filter_map f (history T)) → Has P T
  found_in [] lt = absurd (omega arith)
  found_in (Old e ∷ T) lt = by_entry (Old e) e T refl (found_in T) lt
  found_in (Opened n ∷ T) lt = shifted P (Opened n) T (found_in T lt)
  found_in (Own e n ∷ T) lt = by_entry (Own e n) e T refl (found_in T) lt
  found_in (Adopted e n ∷ T) lt = by_entry (Adopted e n) e T refl (found_in T) lt
  found_in (Fault e ∷ T) lt = shifted P (Fault e) T (found_in T lt)

either : {A : Type 0} (x s : ℕ) (a : A) → (x ≡ s) ⊎ (cond (x == s) (Some a) None ≡ None)
either x s a = elim (cases_Bool (x == s)) [ inl t ↦ inl (eqb-true x s t) | inr f ↦ inr (rw f refl) ]

serving_or : (s : ℕ) (e : Entry) → IsServing s e ⊎ (session_serving s e ≡ None)
serving_or s (Started session booking eligible without) = inr refl
serving_or s (SetAside session step band cause nodes) = inr refl
serving_or s (Served session step item form proved nodes) = either session s (record { step = step; item = item; form = form; proved = proved })
serving_or s (Answered session step response) = inr refl
serving_or s (Closed session) = inr refl

answer_or : (s : ℕ) (e : Entry) → IsAnswer s e ⊎ (session_answer s e ≡ None)
answer_or s (Started session booking eligible without) = inr refl
answer_or s (SetAside session step band cause nodes) = inr refl
answer_or s (Served session step item form proved nodes) = inr refl
answer_or s (Answered session step response) = either session s (record { step = step; response = response })
answer_or s (Closed session) = inr refl

-- between two steps at which it waits for an item, a session was served and answered
pub moved : (b : Tables) (plan : Plan) (s : ℕ) (F T : List Mark) (k j : ℕ) → LegalRun b plan (history F) → LegalRun b plan (history (F ++ T))
    → place plan (history F) s ≡ Some (Pending k) → place plan (history (F ++ T)) s ≡ Some (Pending j) → j ≢ k → Has (IsServing s) T × Has (IsAnswer s) T
moved b plan s F T k j run later before now apart =
    let one = even b plan (history F) s k run before in
    let two = even b plan (history (F ++ T)) s j later now in
    let same = history_append F T in
    let A : length (step_answers (history (F ++ T)) s) ≡ length (step_answers (history F) s) + length (step_answers (history T) s) =
    ap (λ (H : List Entry). length (step_answers H s)) same ∙ (ap length (more_answers (history F) (history T) s) ∙ length-append (step_answers (history F) s) (step_answers (history T) s)) in
    let V : length (servings (history (F ++ T)) s) ≡ length (servings (history F) s) + length (servings (history T) s) =
    ap (λ (H : List Entry). length (servings H s)) same ∙ (ap length (more_servings (history F) (history T) s) ∙ length-append (servings (history F) s) (servings (history T) s)) in
    let a1 = one.answers in
    let a2 = two.answers in
    let v1 = one.servings in
    let v2 = two.servings in
    let some_answers : 0 < length (step_answers (history T) s) = grown (length (step_answers (history T) s)) k j (omega arith) apart in
    let some_servings : 0 < length (servings (history T) s) = grown (length (servings (history T) s)) k j (omega arith) apart in (
      found_in (session_serving s) (IsServing s) (serving_or s) T (subst (λ (l : List Serving). 0 < length l) (servings_by (history T) s) some_servings),
      found_in (session_answer s) (IsAnswer s) (answer_or s) T (subst (λ (l : List StepAnswer). 0 < length l) (answers_by (history T) s) some_answers),
    )
  where
    grown : (n k j : ℕ) → j ≡ k + n → j ≢ k → 0 < n
    grown zero k j e apart = absurd (apart (omega arith))
    grown (suc n) k j e apart = omega arith

-- ---- own marks
kept_owns : (o : Option Mark) (L : List Mark) (e : Entry) → Contains (owns L) e → Contains (owns (cons_option o L)) e
kept_owns None L e c = c
kept_owns (Some (Old d)) L e c = c
kept_owns (Some (Opened n)) L e c = c
kept_owns (Some (Own d n)) L e c = let lt = c.1 in (suc c.0, omega arith, c.2)
kept_owns (Some (Adopted d n)) L e c = c
kept_owns (Some (Fault d)) L e c = c

-- an own mark at one of the places is among the own entries of these places
pub owns_has : (S : List Mark) (ps : List ℕ) (p : ℕ) (e : Entry) (n : ℕ) → Contains ps p → slice_get S p ≡ Some (Own e n) → Contains (owns (taken S ps)) e
owns_has S [] p e n c at = absurd (let lt = c.1 in omega arith)
owns_has S (x ∷ ps) p e n c at = ⊎_elim
    (λ same. subst (λ o. Contains (owns (cons_option o (taken S ps))) e) (sym (ap (λ k. slice_get S k) same ∙ at)) (0, omega arith, refl))
    (λ t. kept_owns (slice_get S x) (taken S ps) e (owns_has S ps p e n t at))
    (contains_cons x p ps c)

pub only_one : {A : Type 0} (P : A → Type 0) (E : List A) (e : A) → AtMostOne P E → Contains E e → P e
only_one P E e h c = ⊎_elim
    (λ t. absurd (contains_nothing e (subst (λ l. Contains l e) t c)))
    (λ t. ⊎_elim (λ s. subst P s t.2) (λ s. absurd (contains_nothing e s)) (contains_cons t.0 e [] (subst (λ l. Contains l e) t.1 c)))
    h

some_same : {A : Type 0} {a b : A} → Some a ≡ Some b → a ≡ b
some_same e = cc

not_own : (s : ℕ) (S : List Mark) (ps : List ℕ) (p : ℕ) (m : Mark) (e : Entry) → AtMostOne (IsAside s) (owns (taken S ps)) → (IsAside s e → ⊥) → slice_get S p ≡ Some m → entry_of m ≡ Some e → Contains ps p → own_of m ≡ None
not_own s S ps p (Old d) e h apart at is c = refl
not_own s S ps p (Opened n) e h apart at is c = refl
not_own s S ps p (Own d n) e h apart at is c = absurd (apart (subst (IsAside s) (some_same is) (only_one (IsAside s) (owns (taken S ps)) d h (owns_has S ps p d n c at))))
not_own s S ps p (Adopted d n) e h apart at is c = refl
not_own s S ps p (Fault d) e h apart at is c = refl

serving_aside : (s : ℕ) (e : Entry) → IsServing s e → IsAside s e → ⊥
serving_aside s (Started session booking eligible without) h k = absurd h
serving_aside s (SetAside session step band cause nodes) h k = absurd h
serving_aside s (Served session step item form proved nodes) h k = absurd k
serving_aside s (Answered session step response) h k = absurd h
serving_aside s (Closed session) h k = absurd h

answer_aside : (s : ℕ) (e : Entry) → IsAnswer s e → IsAside s e → ⊥
answer_aside s (Started session booking eligible without) h k = absurd h
answer_aside s (SetAside session step band cause nodes) h k = absurd h
answer_aside s (Served session step item form proved nodes) h k = absurd h
answer_aside s (Answered session step response) h k = absurd k
answer_aside s (Closed session) h k = absurd h

other : (P : Entry → Type 0) (s : ℕ) (F S T : List Mark) (later : List ℕ) → S ≡ F ++ T → AtMostOne (IsAside s) (owns (taken S later)) → ((e : Entry) → P e → IsAside s e → ⊥) → Has P T → HasOther P F S later
other P s F S T later same asides apart h =
    let at : slice_get S (length F + h.0) ≡ Some h.1 = ap (λ (L : List Mark). slice_get L (length F + h.0)) same ∙ (get_after F T h.0 ∙ h.3) in
    record {
      at = length F + h.0;
      mark = h.1;
      entry = h.2;
      later = omega arith;
      there = at;
      is = h.4;
      passes = h.5;
      not_own = not_own s S later (length F + h.0) h.1 h.2 asides (apart h.2 h.5) at h.4;
    }

-- where the call's later marks set nothing but eligibility aside, others moved the session on
pub others_moved : (b : Tables) (plan : Plan) (s : ℕ) (F S : List Mark) (later : List ℕ) (k j : ℕ) → StartsWith S F → LegalRun b plan (history F) → LegalRun b plan (history S)
    → AtMostOne (IsAside s) (owns (taken S later)) → place plan (history F) s ≡ Some (Pending k) → place plan (history S) s ≡ Some (Pending j) → j ≢ k → MovedOn s F S later
others_moved b plan s F S later k j begins early run asides before now apart =
    let same = begins.1 in
    let T = begins.0 in
    let h = moved b plan s F T k j early (subst (λ L. LegalRun b plan (history L)) same run) before (subst (λ L. place plan (history L) s ≡ Some (Pending j)) same now) apart in
    (other (IsServing s) s F S T later same asides (serving_aside s) h.0, other (IsAnswer s) s F S T later same asides (answer_aside s) h.1)
