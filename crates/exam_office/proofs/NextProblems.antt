-- The problem of a session once its item is answered is the one that is made before the answer.
use Rattle.std.proofs.Common.{◌≡◌, ◌⊎◌, ⊎_elim, ℕ, ◌+◌, ◌<◌, ◌==◌, true, false, cond, List, [], ◌∷◌, ◌++◌, length, Option, Some, None, IfSome, refl, sym, ap, ◌∙◌, subst, arith, append_assoc, length-append}
use Rattle.std.specs.Prelude.{IsSome, IfNone, ◌↔◌}
use Rattle.std.proofs.lemmas.Bool.{eq-eqb, true≢false}
use Rattle.bank_tables.specs.Tables.{Tables}
use Rattle.bank_tables.specs.Validity.{IsBank}
use Rattle.serving_model.specs.declared.seat.Seat.{Seat}
use Rattle.serving_model.specs.Seats.{IsPending, IsSeat, IsSeatProblem, with_response}
use Rattle.form_model.specs.Plan.{Plan}
use Rattle.form_model.specs.Problem.{Problem as Model}
use Rattle.form_model.specs.Validity.{IsPlanFor, IsWellMade}
use Rattle.constraint_model.specs.declared.problem.Problem.{Problem}
use Rattle.constraint_model.specs.Views.{problem_of}
use Rattle.history_model.specs.declared.entry.Entry.{Entry}
use Rattle.history_model.specs.declared.entry.Entry.TheVariants.{Answered}
use Rattle.history_model.specs.declared.place.Place.TheVariants.{Pending, Waiting}
use Rattle.history_model.specs.Entries.{is_started, seat_of}
use Rattle.history_model.specs.Legality.{Legal, LegalRun, more}
use Rattle.history_model.specs.Laws.{seat_place}
use Rattle.history_model.specs.Places.{place}
use Rattle.history_model.specs.Refusals.{recorded}
use Rattle.history_model.specs.SessionProblems.{IsProblemOf}
use Rattle.history_model.proofs.Pushed.{seat_goes_on}
use Rattle.history_model.proofs.Running.{the_seat_goes_on, place_is_of_seat, pending_is_of_seat, responses_number, seat_is_seat}
use Rattle.history_model.proofs.RunParts.{beginning_is_legal}
use Rattle.history_model.proofs.Standing.{waiting, there, before_end}
use Rattle.history_model.proofs.Staying.{still_started}
use Rattle.history_model.proofs.ProblemStaying.{same_problem}
use Rattle.history_model.proofs.AheadLaws.{until}
use Rattle.exam_session.proofs.BookLaws.{seat_if_started, is_there, waiting_shown, problem_is}
use Rattle.exam_office.specs.Ahead.{HasNextStep, IsNextProblem, LeadsTo}

-- ---- the seat once the item is answered
module _ (b : Tables) (plan : Plan) (H : List Entry) (s response : ℕ) (run : LegalRun b plan H) (next : HasNextStep b plan H s response) where
  abbrev answer : Entry
  answer = Answered s next.step response

  abbrev pub after : List Entry
  after = H ++ answer ∷ []

  legal : Legal b plan H answer
  legal = record { item = next.item; proved = next.proved; waiting = next.waiting; in_range = next.in_range }

  pub run_after : LegalRun b plan after
  run_after = more H answer run legal

  pub started_now : is_started H s ≡ true
  started_now = there plan H s (Waiting next.step next.item next.proved) next.waiting

  started_after : is_started after s ≡ true
  started_after = still_started H (answer ∷ []) s started_now

  pub seat_after : seat_of after s ≡ with_response (seat_of H s) response
  seat_after = the_seat_goes_on b plan H answer s run legal ∙ ap (λ t. cond t (with_response (seat_of H s) response) (seat_of H s)) (eq-eqb s s refl)

  pub number_now : length (seat_of H s).responses ≡ next.step
  number_now = responses_number H s ∙ (waiting plan H s next.step next.item next.proved next.waiting).number

  -- each item shown is answered then, and the session goes on
  pub pending_after : IsPending plan (seat_of after s)
  pending_after =
      let at = waiting plan H s next.step next.item next.proved next.waiting in
      let seat = seat_of H s in
      let number = number_now in
      let last = next.not_last in
      let more_one = length-append seat.responses (response ∷ []) in
      let shown = before_end seat.shown (length seat.responses) next.item (waiting_shown b plan H s next.step next.item next.proved run next.waiting) in
      let both : length seat.shown ≡ length seat.responses + 1 = ⊎_elim (λ e. omega arith) (λ e. omega arith) (seat_is_seat b plan H s run).responses in
      subst (λ (t : Seat). IsPending plan t) (sym seat_after)
      (record { not_closed = at.not_closed; not_complete = omega arith; answered = omega arith })

  found_after : Some (seat_of after s) ≡ seat_if_started after s
  found_after = sym (ap (λ t. cond t (Some (seat_of after s)) None) started_after)

  pub next_problem_is : (P : Problem) → IsSeatProblem b plan s (seat_of after s) (problem_of P) → IsWellMade (problem_of P) → IsNextProblem b plan H s response P
  next_problem_is P of_seat made =
      let asked : IsProblemOf b plan after s P.step (problem_of P) = problem_is b plan after s P.step (seat_of after s) (problem_of P) run_after found_after pending_after of_seat refl in
      let number : length (seat_of after s).responses ≡ P.step = (pending_is_of_seat b plan after s P.step run_after asked.pending).1 in
      let counted : length (seat_of after s).responses ≡ length ((seat_of H s).responses ++ response ∷ []) = ap (λ (t : Seat). length t.responses) seat_after in
      let before = number_now in
      let one = length-append (seat_of H s).responses (response ∷ []) in
      let step : P.step ≡ next.step + 1 = omega arith in
      record {
        step = next.step;
        after = step;
        ahead = record {
          item = next.item;
          proved = next.proved;
          waiting = next.waiting;
          in_range = next.in_range;
          not_last = next.not_last;
          is_problem = subst (λ k. IsProblemOf b plan after s k (problem_of P)) step asked;
        };
        well_made = made;
        of_bank = ap (λ (R : Model). R.bank) of_seat.is;
        of_plan = ap (λ (R : Model). R.plan) of_seat.is;
      }

-- ---- the seat that the book has of the session
pub seat_there : (E H : List Entry) → E ≡ H → (s : ℕ) (seat : Seat) → Some seat ≡ seat_if_started E s → seat ≡ seat_of H s
seat_there E H same s seat found = (is_there H s seat (subst (λ (K : List Entry). Some seat ≡ seat_if_started K s) same found)).1

pub seat_missing : (E H : List Entry) → E ≡ H → (s : ℕ) → None ≡ seat_if_started E s → is_started H s ≡ true → ⊥
seat_missing E H same s none is = absurd (not_none (seat_of H s) (subst (λ (K : List Entry). None ≡ seat_if_started K s) same none ∙ ap (λ t. cond t (Some (seat_of H s)) None) is))
  where
    not_none : (seat : Seat) → None ≡ Some seat → ⊥
    not_none seat e = cc

module _ (b : Tables) (plan : Plan) (H : List Entry) (s response : ℕ) (run : LegalRun b plan H) (next : HasNextStep b plan H s response) where
  pub few_responses : IsBank b → IsPlanFor b plan → (seat : Seat) → seat ≡ seat_of H s → length seat.responses < 512
  few_responses bank for seat is =
      let number = number_now b plan H s response run next in
      let same : length seat.responses ≡ length (seat_of H s).responses = ap (λ (t : Seat). length t.responses) is in
      let last = next.not_last in
      let few = for.few_items in
      let most = bank.few in
      omega arith

  -- what holds of the seat after the answer holds of the one that is made
  made_seat : (P : Seat → Type 0) (seat : Seat) → seat ≡ seat_of H s → (answered : Seat) → answered ≡ with_response seat response → P (seat_of (after b plan H s response run next) s) → P answered
  made_seat P seat is answered made h =
      subst P (sym (made ∙ (ap (λ (t : Seat). with_response t response) is ∙ sym (seat_after b plan H s response run next)))) h

  pub answered_seat : (seat : Seat) → seat ≡ seat_of H s → (answered : Seat) → answered ≡ with_response seat response → IsSeat b plan answered
  answered_seat seat is answered made = made_seat (IsSeat b plan) seat is answered made (seat_is_seat b plan (after b plan H s response run next) s (run_after b plan H s response run next))

  pub next_given : (seat : Seat) → seat ≡ seat_of H s → (answered : Seat) → answered ≡ with_response seat response → (r : Option Problem)
      → IfSome r (λ P. IsSeatProblem b plan s answered (problem_of P)) → IfSome r (λ P. IsWellMade (problem_of P)) → IfSome r (IsNextProblem b plan H s response)
  next_given seat is answered made None of_seat well = tt
  next_given seat is answered made (Some P) of_seat well =
      next_problem_is b plan H s response run next P (subst (λ (t : Seat). IsSeatProblem b plan s t (problem_of P)) (made ∙ (ap (λ (t : Seat). with_response t response) is ∙ sym (seat_after b plan H s response run next))) of_seat) well

  pub some_next : (seat : Seat) → seat ≡ seat_of H s → (answered : Seat) → answered ≡ with_response seat response → (r : Option Problem)
      → (IsSome r ↔ IsPending plan answered) → IfNone r (HasNextStep b plan H s response → ⊥)
  some_next seat is answered made (Some P) waits = tt
  some_next seat is answered made None waits =
      absurd (true≢false (sym (waits.1 (made_seat (IsPending plan) seat is answered made (pending_after b plan H s response run next)))))

-- ---- whatever is done meanwhile
pub leads_to : (b : Tables) (plan : Plan) (H : List Entry) (s response : ℕ) (P : Problem) → IsNextProblem b plan H s response P → LeadsTo b plan H s response P
leads_to b plan H s r P n = λ rest step Q run at given asked flag.
    let a = n.ahead in
    let k : ℕ = n.step in
    let same_step : step ≡ k = (let e = sym at ∙ n.after in omega arith) in
    let given_k : recorded (H ++ rest) s k ≡ Some r = subst (λ j. recorded (H ++ rest) s j ≡ Some r) same_step given in
    let asked_k : IsProblemOf b plan (H ++ rest) s (k + 1) (problem_of Q) = subst (λ j. IsProblemOf b plan (H ++ rest) s j (problem_of Q)) n.after asked in
    let u = until b plan s k r a.item a.proved rest H run a.waiting given_k asked_k.pending in
    let A : Entry = Answered s k r in
    let J : List Entry = H ++ u.before in
    let whole : H ++ rest ≡ (J ++ A ∷ []) ++ u.after =
    ap (λ (K : List Entry). H ++ K) u.is ∙ (sym (append_assoc H u.before (A ∷ u.after)) ∙ sym (append_assoc J (A ∷ []) u.after)) in
    let run1 : LegalRun b plan ((J ++ A ∷ []) ++ u.after) = subst (LegalRun b plan) whole run in
    let run_j : LegalRun b plan (J ++ A ∷ []) = beginning_is_legal b plan (J ++ A ∷ []) u.after run1 in
    let run_h : LegalRun b plan H = beginning_is_legal b plan H rest run in
    let next : HasNextStep b plan H s r = record { step = k; item = a.item; proved = a.proved; waiting = a.waiting; in_range = a.in_range; not_last = a.not_last } in
    let seat : seat_of (J ++ A ∷ []) s ≡ seat_of (H ++ A ∷ []) s =
    seat_goes_on J A s (λ starts. absurd (true≢false (sym starts))) ∙ (ap (λ (t : Seat). cond (s == s) (with_response t r) t) u.seat ∙ sym (seat_goes_on H A s (λ starts. absurd (true≢false (sym starts))))) in
    let started_j : is_started (J ++ A ∷ []) s ≡ true = still_started J (A ∷ []) s (still_started H u.before s (started_now b plan H s r run_h next)) in
    let at_h : place plan (H ++ A ∷ []) s ≡ Some (seat_place plan (seat_of (H ++ A ∷ []) s)) = place_is_of_seat b plan (H ++ A ∷ []) s (run_after b plan H s r run_h next) (still_started H (A ∷ []) s (started_now b plan H s r run_h next)) in
    let at_j : place plan (J ++ A ∷ []) s ≡ Some (seat_place plan (seat_of (J ++ A ∷ []) s)) = place_is_of_seat b plan (J ++ A ∷ []) s run_j started_j in
    let pending_j : place plan (J ++ A ∷ []) s ≡ Some (Pending (k + 1)) = at_j ∙ (ap (λ (t : Seat). Some (seat_place plan t)) seat ∙ (sym at_h ∙ a.is_problem.pending)) in
    let of_j : IsProblemOf b plan (J ++ A ∷ []) s (k + 1) (problem_of P) =
    record { pending = pending_j; of_seat = subst (λ (t : Seat). IsSeatProblem b plan s t (problem_of P)) (sym seat) a.is_problem.of_seat } in
    sym (same_problem b plan (J ++ A ∷ []) u.after s (k + 1) (problem_of P) (problem_of Q) run1 of_j
    (subst (λ (K : List Entry). IsProblemOf b plan K s (k + 1) (problem_of Q)) whole asked_k) (sym flag))

pub all_lead : (b : Tables) (plan : Plan) (H : List Entry) (s response : ℕ) (r : Option Problem) → IfSome r (IsNextProblem b plan H s response) → IfSome r (LeadsTo b plan H s response)
all_lead b plan H s response None is = tt
all_lead b plan H s response (Some P) is = leads_to b plan H s response P is
