-- What is assembled before an answer is the session's problem once the answer is there.
use Rattle.std.proofs.Common.{◌≡◌, inl, inr, ℕ, zero, suc, ◌+◌, ◌<◌, Bool, true, false, ◌==◌, List, [], ◌∷◌, ◌++◌, length, slice_get, Some, refl, sym, ap, ◌∙◌, subst, arith, append_assoc}
use Rattle.std.specs.Prelude.{slice_index_or}
use Rattle.std.proofs.lemmas.Bool.{cases_Bool, eqb-true, eq-eqb, true≢false}
use Rattle.std.proofs.lemmas.List.{append-nil}
use Rattle.bank_tables.specs.Tables.{Tables}
use Rattle.serving_model.specs.declared.seat.Seat.{Seat}
use Rattle.form_model.specs.Plan.{Plan, band_of}
use Rattle.serving_model.specs.Seats.{is_aside_in, IsSeatProblem}
use Rattle.history_model.specs.declared.entry.Entry.{Entry}
use Rattle.history_model.specs.declared.entry.Entry.TheVariants.{Started, SetAside, Served, Answered, Closed}
use Rattle.history_model.specs.declared.place.Place.TheVariants.{Pending, Waiting, Closed as IsClosed}
use Rattle.history_model.specs.Entries.{sessions, session_of, starts_session, is_started, servings, seat_of}
use Rattle.history_model.specs.Legality.{Legal, LegalRun, more}
use Rattle.history_model.specs.Laws.{seat_with, seat_place}
use Rattle.history_model.specs.Places.{place}
use Rattle.history_model.specs.Refusals.{recorded}
use Rattle.history_model.specs.SessionProblems.{IsProblemOf}
use Rattle.history_model.proofs.Pushed.{started-push, seat_goes_on}
use Rattle.history_model.proofs.Running.{not_of, not_start_of, sessions_are_numbered, place_is_of_seat, responses_number}
use Rattle.history_model.proofs.RunParts.{each_is_legal, beginning_is_legal}
use Rattle.history_model.proofs.Standing.{waiting, there}
use Rattle.history_model.proofs.Staying.{response_stays, closed_stays, still_started}
use Rattle.history_model.proofs.ProblemStaying.{problem_stays}
use Rattle.history_model.specs.Ahead.{AheadStays, AnsweredThere}

-- ---- lists
get_at_end : {A : Type 0} (xs ys : List A) (x : A) → slice_get (xs ++ x ∷ ys) (length xs) ≡ Some x
get_at_end [] ys x = refl
get_at_end (y ∷ xs) ys x = get_at_end xs ys x

split : {A : Type 0} (xs : List A) (x : A) (k : ℕ) → k < length xs → slice_index_or xs k x ≡ x → (ys : List A) × (zs : List A) × (xs ≡ ys ++ x ∷ zs)
split [] x k l e = absurd (omega arith)
split (y ∷ xs) x zero l e = ([], xs, ap (λ z. z ∷ xs) e)
split (y ∷ xs) x (suc k) l e = let t = split xs x k (omega arith) e in (y ∷ t.0, t.1, ap (λ zs. y ∷ zs) t.2)

-- ---- places
step_of : (k j item other : ℕ) (proved mark : Bool) → Some (Waiting k item proved) ≡ Some (Waiting j other mark) → k ≡ j
step_of k j item other proved mark e = cc

not_both : (k j item : ℕ) (proved : Bool) → Some (Waiting k item proved) ≡ Some (Pending j) → ⊥
not_both k j item proved e = absurd (cc)

not_over : (j : ℕ) → Some IsClosed ≡ Some (Pending j) → ⊥
not_over j e = absurd (cc)

some_same : (r q : ℕ) → Some r ≡ Some q → r ≡ q
some_same r q e = cc

-- ---- a seat with a response more
no_start : (s step response : ℕ) (H : List Entry) → starts_session s (Answered s step response) ≡ true → (is_started H s ≡ false) × (servings H s ≡ [])
no_start s step response H e = absurd (true≢false (sym e))

-- the response of an answer is recorded for its step
just_answered : (b : Tables) (plan : Plan) (H : List Entry) (s step response : ℕ) → Legal b plan H (Answered s step response) → recorded (H ++ Answered s step response ∷ []) s step ≡ Some response
just_answered b plan H s step response legal =
    let at = waiting plan H s step legal.item legal.proved legal.waiting in
    let number : length (seat_of H s).responses ≡ step = responses_number H s ∙ at.number in
    let seat : (seat_of (H ++ Answered s step response ∷ []) s).responses ≡ (seat_of H s).responses ++ response ∷ [] = ap (λ (t : Seat). t.responses) (seat_goes_on H (Answered s step response) s (no_start s step response H)) ∙ rw (eq-eqb s s refl) refl in
    ap (λ (xs : List ℕ). slice_get xs step) seat
    ∙ (ap (λ (k : ℕ). slice_get ((seat_of H s).responses ++ response ∷ []) k) (sym number) ∙ get_at_end (seat_of H s).responses [] response)

pub answered_there : AnsweredThere
answered_there b plan H s step response run c =
    let t = split H (Answered s step response) c.0 c.1 c.2 in
    let before : List Entry = t.0 in
    let after : List Entry = t.1 in
    let e : H ≡ before ++ Answered s step response ∷ after = t.2 in
    let legal = (each_is_legal b plan before (Answered s step response) after (subst (LegalRun b plan) e run)).1 in
    let stays = response_stays (before ++ Answered s step response ∷ []) after s step response (just_answered b plan before s step response legal) in
    let whole : (before ++ Answered s step response ∷ []) ++ after ≡ H = append_assoc before (Answered s step response ∷ []) after ∙ sym e in
    subst (λ (K : List Entry). recorded K s step ≡ Some response) whole stays

-- ---- until the answer comes the seat stays
pub record IsUntil (G E : List Entry) (s k r : ℕ) : Type 0 where
  pub before : List Entry
  pub after : List Entry
  pub is : E ≡ before ++ Answered s k r ∷ after
  pub seat : seat_of (G ++ before) s ≡ seat_of G s

module _ (b : Tables) (plan : Plan) (s k r : ℕ) where
  -- an entry of another session leaves the seat and the place
  other_seat : (G : List Entry) (e : Entry) → (session_of e == s) ≡ false → seat_of (G ++ e ∷ []) s ≡ seat_of G s
  other_seat G e other = seat_goes_on G e s (λ same. absurd (true≢false (sym same ∙ not_start_of s e other))) ∙ not_of s (seat_of G s) e other

  started_more : (G : List Entry) (e : Entry) → is_started G s ≡ true → is_started (G ++ e ∷ []) s ≡ true
  started_more G e started = started-push G e s ∙ rw started refl

  other_place : (G : List Entry) (e : Entry) → LegalRun b plan (G ++ e ∷ []) → LegalRun b plan G → is_started G s ≡ true → (session_of e == s) ≡ false → place plan (G ++ e ∷ []) s ≡ place plan G s
  other_place G e after run started other =
      place_is_of_seat b plan (G ++ e ∷ []) s after (started_more G e started)
      ∙ (ap (λ (seat : Seat). Some (seat_place plan seat)) (other_seat G e other) ∙ sym (place_is_of_seat b plan G s run started))

  Goal : List Entry → List Entry → Type 0
  Goal G E = IsUntil G E s k r

  module _ (item : ℕ) (proved : Bool) where
    -- an entry of the session is its answer, or its closing
    own : (G : List Entry) (e : Entry) (E : List Entry) → session_of e ≡ s → LegalRun b plan G → Legal b plan G e → LegalRun b plan (G ++ e ∷ []) → place plan G s ≡ Some (Waiting k item proved)
        → recorded ((G ++ e ∷ []) ++ E) s k ≡ Some r → place plan ((G ++ e ∷ []) ++ E) s ≡ Some (Pending (k + 1)) → IsUntil G (e ∷ E) s k r
    own G (Started session booking eligible without) E same run legal next at given pending =
        let started : is_started G s ≡ true = there plan G s (Waiting k item proved) at in
        let below : s < sessions G = (sessions_are_numbered b plan G s run).0 started in
        let number = legal.number.next in
        absurd (omega arith)
    own G (SetAside session step band cause nodes) E same run legal next at given pending =
        absurd (not_both k step item proved (sym at ∙ subst (λ (t : ℕ). place plan G t ≡ Some (Pending step)) same legal.is_problem.pending))
    own G (Served session step shown form mark nodes) E same run legal next at given pending =
        absurd (not_both k step item proved (sym at ∙ subst (λ (t : ℕ). place plan G t ≡ Some (Pending step)) same legal.is_problem.pending))
    own G (Closed session) E same run legal next at given pending =
        let closed_now : place plan (G ++ Closed session ∷ []) s ≡ Some IsClosed =
        place_is_of_seat b plan (G ++ Closed session ∷ []) s next (started_more G (Closed session) (there plan G s (Waiting k item proved) at))
        ∙ (ap (λ (t : Seat). Some (seat_place plan t)) (seat_goes_on G (Closed session) s (λ h. absurd (true≢false (sym h)))) ∙ rw (eq-eqb session s same) refl)
        in absurd (not_over (k + 1) (sym (closed_stays plan (G ++ Closed session ∷ []) E s closed_now) ∙ pending))
    own G (Answered session step response) E same run legal next at given pending =
        let mine : Legal b plan G (Answered s step response) = subst (λ (t : ℕ). Legal b plan G (Answered t step response)) same legal in
        let now : step ≡ k = step_of step k mine.item item mine.proved proved (sym mine.waiting ∙ at) in
        let stays : recorded ((G ++ Answered s step response ∷ []) ++ E) s step ≡ Some response = response_stays (G ++ Answered s step response ∷ []) E s step response (just_answered b plan G s step response mine) in
        let stays_k : recorded ((G ++ Answered session step response ∷ []) ++ E) s k ≡ Some response =
        subst (λ (j : ℕ). recorded ((G ++ Answered session step response ∷ []) ++ E) s j ≡ Some response) now (subst (λ (t : ℕ). recorded ((G ++ Answered t step response ∷ []) ++ E) s step ≡ Some response) (sym same) stays) in
        let one : response ≡ r = some_same response r (sym stays_k ∙ given) in
        let entry : Answered session step response ≡ Answered s k r = ap (λ t. Answered t step response) same ∙ (ap (λ j. Answered s j response) now ∙ ap (λ q. Answered s k q) one) in
        record { before = []; after = E; is = ap (λ (e : Entry). e ∷ E) entry; seat = ap (λ (K : List Entry). seat_of K s) (append-nil G) }

    pub until : (E G : List Entry) → LegalRun b plan (G ++ E) → place plan G s ≡ Some (Waiting k item proved) → recorded (G ++ E) s k ≡ Some r → place plan (G ++ E) s ≡ Some (Pending (k + 1)) → IsUntil G E s k r
    until [] G run at given pending = absurd (not_both k (k + 1) item proved (sym at ∙ subst (λ (K : List Entry). place plan K s ≡ Some (Pending (k + 1))) (append-nil G) pending))
    until (e ∷ E) G run at given pending =
        let both = each_is_legal b plan G e E run in
        let same : (G ++ e ∷ []) ++ E ≡ G ++ e ∷ E = append_assoc G (e ∷ []) E in
        let run1 : LegalRun b plan ((G ++ e ∷ []) ++ E) = subst (LegalRun b plan) (sym same) run in
        let given1 : recorded ((G ++ e ∷ []) ++ E) s k ≡ Some r = subst (λ (K : List Entry). recorded K s k ≡ Some r) (sym same) given in
        let pending1 : place plan ((G ++ e ∷ []) ++ E) s ≡ Some (Pending (k + 1)) = subst (λ (K : List Entry). place plan K s ≡ Some (Pending (k + 1))) (sym same) pending in
        let next : LegalRun b plan (G ++ e ∷ []) = more G e both.0 both.1 in
        elim (cases_Bool (session_of e == s)) [
          | inl mine ↦ own G e E (eqb-true (session_of e) s mine) both.0 both.1 next at given1 pending1
          | inr other ↦
              let started : is_started G s ≡ true = there plan G s (Waiting k item proved) at in
              let u : IsUntil (G ++ e ∷ []) E s k r = until E (G ++ e ∷ []) run1 (other_place G e next both.0 started other ∙ at) given1 pending1 in
              record {
                before = e ∷ u.before;
                after = u.after;
                is = ap (λ (K : List Entry). e ∷ K) u.is;
                seat = ap (λ (K : List Entry). seat_of K s) (sym (append_assoc G (e ∷ []) u.before)) ∙ (u.seat ∙ other_seat G e other);
              }
        ]

pub ahead_stays : AheadStays
ahead_stays b plan H E s k r P a run given pending aside =
    let u = until b plan s k r a.item a.proved E H run a.waiting given pending in
    let A : Entry = Answered s k r in
    let J : List Entry = H ++ u.before in
    let whole : H ++ E ≡ (J ++ A ∷ []) ++ u.after =
    ap (λ (K : List Entry). H ++ K) u.is ∙ (sym (append_assoc H u.before (A ∷ u.after)) ∙ sym (append_assoc J (A ∷ []) u.after)) in
    let run1 : LegalRun b plan ((J ++ A ∷ []) ++ u.after) = subst (LegalRun b plan) whole run in
    let there1 : LegalRun b plan (J ++ A ∷ []) = beginning_is_legal b plan (J ++ A ∷ []) u.after run1 in
    let before : LegalRun b plan H = beginning_is_legal b plan H E run in
    let legal : Legal b plan H A = record { item = a.item; proved = a.proved; waiting = a.waiting; in_range = a.in_range } in
    let then : LegalRun b plan (H ++ A ∷ []) = more H A before legal in
    let started : is_started H s ≡ true = there plan H s (Waiting k a.item a.proved) a.waiting in
    let seat : seat_of (J ++ A ∷ []) s ≡ seat_of (H ++ A ∷ []) s =
    seat_goes_on J A s (no_start s k r J) ∙ (ap (λ (t : Seat). seat_with s t A) u.seat ∙ sym (seat_goes_on H A s (no_start s k r H))) in
    let at_h : place plan (H ++ A ∷ []) s ≡ Some (seat_place plan (seat_of (H ++ A ∷ []) s)) = place_is_of_seat b plan (H ++ A ∷ []) s then (there plan (H ++ A ∷ []) s (Pending (k + 1)) a.is_problem.pending) in
    let mine : is_started J s ≡ true = still_started H u.before s started in
    let at_j : place plan (J ++ A ∷ []) s ≡ Some (seat_place plan (seat_of (J ++ A ∷ []) s)) = place_is_of_seat b plan (J ++ A ∷ []) s there1 (started-push J A s ∙ rw mine refl) in
    let pending_j : place plan (J ++ A ∷ []) s ≡ Some (Pending (k + 1)) =
    at_j ∙ (ap (λ (t : Seat). Some (seat_place plan t)) seat ∙ (sym at_h ∙ a.is_problem.pending)) in
    let of_j : IsProblemOf b plan (J ++ A ∷ []) s (k + 1) P =
    record { pending = pending_j; of_seat = subst (λ (t : Seat). IsSeatProblem b plan s t P) (sym seat) a.is_problem.of_seat } in
    let flag : is_aside_in (seat_of ((J ++ A ∷ []) ++ u.after) s) (band_of plan P.theta) ≡ P.aside =
    subst (λ (K : List Entry). is_aside_in (seat_of K s) (band_of plan P.theta) ≡ P.aside) whole aside in
    subst (λ (K : List Entry). IsProblemOf b plan K s (k + 1) P) (sym whole)
    (problem_stays b plan (J ++ A ∷ []) u.after s (k + 1) P run1 of_j (subst (λ (K : List Entry). place plan K s ≡ Some (Pending (k + 1))) whole pending) flag)
