-- What the seats of a book give for its sessions.
use Rattle.std.proofs.Common.{◌≡◌, ℕ, zero, suc, ◌≤◌, ◌<◌, Bool, true, false, cond, List, length, get_or, slice_get, Option, Some, None, refl, sym, ap, ◌∙◌, subst, arith, Bor}
use Rattle.std.specs.Prelude.{nat_le, IsSome, IfSome, IfNone, ◌↔◌}
use Rattle.std.specs.Option.{option_copied}
use Rattle.std.proofs.Math.Bool.{true≢false}
use Rattle.std.proofs.lemmas.Bool.{leb-true}
use Rattle.std.proofs.lemmas.Option.{slice_get_past, slice_get-get_or}
use Rattle.std.specs.Slice.{IsItemAt}
use Rattle.bank_tables.specs.Tables.{Tables, size}
use Rattle.serving_model.specs.declared.seat.Seat.{Seat}
use Rattle.form_model.specs.Plan.{Plan}
use Rattle.form_model.specs.Problem.{Problem}
use Rattle.form_model.specs.Forms.{Form}
use Rattle.serving_model.specs.Seats.{answers, band_at, eight, is_aside_in, IsPending, IsSeatProblem, IsSeat}
use Rattle.history_model.specs.declared.entry.Entry.{Entry}
use Rattle.history_model.specs.declared.place.Place.{Place}
use Rattle.history_model.specs.declared.place.Place.TheVariants.{Pending, Waiting, Complete, Closed}
use Rattle.constraint_model.specs.declared.problem.Problem.{Problem as Given}
use Rattle.constraint_model.specs.Views.{problem_of}
use Rattle.bank_tables.specs.Items.{Set}
use Rattle.history_model.specs.Entries.{sessions, is_started, seat_of}
use Rattle.history_model.specs.Places.{place}
use Rattle.history_model.specs.SessionProblems.{IsProblemOf, is_aside_now}
use Rattle.history_model.specs.Legality.{LegalRun}
use Rattle.history_model.specs.Laws.{no_seat, seat_place, step_place}
use Rattle.history_model.proofs.Standing.{past_end, before_end, there}
use Rattle.history_model.proofs.SeatSteps.{shown_at}
use Rattle.history_model.proofs.Running.{sessions_are_numbered, seat_before_start, place_is_of_seat, pending_is_of_seat, seat_is_seat}
use Rattle.shadow_select.specs.Next.{HasFreeItem}
use Rattle.shadow_select.proofs.ProblemLaws.{free_item_is_left}
use Rattle.exam_session.specs.Kept.{AreSeats}

-- what a list lends at a place is its element there
pub looked_up : {X : Type 0} (xs : List X) (i : ℕ) (r : Option (Bor X)) → IsItemAt xs i r → option_copied r ≡ slice_get xs i
looked_up xs i (Some x) h = let below : i < length xs = h.3.0 in sym (slice_get-get_or xs i x.now below ∙ ap (λ y. Some y) (sym h.1))
looked_up xs i None h = sym (slice_get_past xs i h.3)

-- the seat that the table has of a session, or none, is the one that the entries give
abbrev pub seat_if_started : List Entry → ℕ → Option Seat
seat_if_started H s = cond (is_started H s) (Some (seat_of H s)) None

pub found_seat : (b : Tables) (plan : Plan) (H : List Entry) (seats : List Seat) (s : ℕ) → LegalRun b plan H → AreSeats H seats → slice_get seats s ≡ seat_if_started H s
found_seat b plan H seats s run kept = by (slice_get seats s) refl (is_started H s) refl
  where
    numbered : (is_started H s ≡ true → s < sessions H) × (s < sessions H → is_started H s ≡ true)
    numbered = sessions_are_numbered b plan H s run

    by : (o : Option Seat) → slice_get seats s ≡ o → (t : Bool) → is_started H s ≡ t → o ≡ cond t (Some (seat_of H s)) None
    by (Some seat) e true f = ap (λ (x : Seat). Some x) (kept.each s seat e)
    by None e false f = refl
    by (Some seat) e false f =
        let within = before_end seats s seat e in
        let number = kept.number in
        let below : s < sessions H = omega arith in
        absurd (true≢false (sym (numbered.1 below) ∙ f))
    by None e true f =
        let past = past_end seats s e in
        let below = numbered.0 f in
        let number = kept.number in
        absurd (omega arith)

-- ---- the place of a session, by its seat
pub placed : (b : Tables) (plan : Plan) (H : List Entry) (s : ℕ) (seat : Seat) → LegalRun b plan H → Some seat ≡ seat_if_started H s → Some (seat_place plan seat) ≡ place plan H s
placed b plan H s seat run e = by (is_started H s) refl e
  where
    by : (t : Bool) → is_started H s ≡ t → Some seat ≡ cond t (Some (seat_of H s)) None → Some (seat_place plan seat) ≡ place plan H s
    by true is same = let seat_is : seat ≡ seat_of H s = cc in ap (λ (x : Seat). Some (seat_place plan x)) seat_is ∙ sym (place_is_of_seat b plan H s run is)
    by false is same = absurd (cc)

pub not_placed : (plan : Plan) (H : List Entry) (s : ℕ) → None ≡ seat_if_started H s → None ≡ place plan H s
not_placed plan H s e = by (is_started H s) refl e
  where
    by : (t : Bool) → is_started H s ≡ t → ◌≡◌ {A = Option Seat} None (cond t (Some (seat_of H s)) None) → None ≡ place plan H s
    by true is same = absurd (cc)
    by false is same = rw is refl

pub is_there : (H : List Entry) (s : ℕ) (seat : Seat) → Some seat ≡ seat_if_started H s → (is_started H s ≡ true) × (seat ≡ seat_of H s)
is_there H s seat e = by (is_started H s) e
  where
    by : (t : Bool) → Some seat ≡ cond t (Some (seat_of H s)) None → (t ≡ true) × (seat ≡ seat_of H s)
    by true same = (refl, cc)
    by false same = absurd (cc)

-- ---- waiting for an item
pub above_of : (n m : ℕ) → m < n → nat_le n m ≡ false
above_of n m below = by (nat_le n m) refl
  where
    by : (t : Bool) → nat_le n m ≡ t → t ≡ false
    by true e = let le = leb-true n m e in absurd (omega arith)
    by false e = refl

pending_seat : (plan : Plan) (seat : Seat) → IsPending plan seat → seat_place plan seat ≡ Pending (length seat.responses)
pending_seat plan seat pending =
    let not_complete = pending.not_complete in
    let answered = pending.answered in
    let past : length seat.shown ≤ length seat.responses = omega arith in
    rw pending.not_closed (rw (above_of plan.length (length seat.responses) not_complete) (ap (λ (o : Option ℕ). step_place (length seat.responses) o seat.proved) (slice_get_past seat.shown (length seat.responses) past)))

pub problem_is : (b : Tables) (plan : Plan) (H : List Entry) (s step : ℕ) (seat : Seat) (P : Problem) → LegalRun b plan H → Some seat ≡ seat_if_started H s → IsPending plan seat → IsSeatProblem b plan s seat P → step ≡ P.step → IsProblemOf b plan H s step P
problem_is b plan H s step seat P run found pending of_seat at =
    let seat_is : seat ≡ seat_of H s = (is_there H s seat found).1 in
    let number : length seat.responses ≡ step = sym (at ∙ ap (λ (Q : Problem). Q.step) of_seat.is) in
    record {
      pending = sym (placed b plan H s seat run found) ∙ ap (λ (x : Place). Some x) (pending_seat plan seat pending ∙ ap (λ (n : ℕ). Pending n) number);
      of_seat = subst (λ (x : Seat). IsSeatProblem b plan s x P) seat_is of_seat;
    }

pub seat_waits : (b : Tables) (plan : Plan) (H : List Entry) (s step : ℕ) (seat : Seat) → LegalRun b plan H → Some seat ≡ seat_if_started H s → place plan H s ≡ Some (Pending step) → IsPending plan seat
seat_waits b plan H s step seat run found e = subst (λ (x : Seat). IsPending plan x) (sym (is_there H s seat found).1) (pending_is_of_seat b plan H s step run e).0

pub seated : (b : Tables) (plan : Plan) (H : List Entry) (s : ℕ) (seat : Seat) → LegalRun b plan H → Some seat ≡ seat_if_started H s → IsSeat b plan seat
seated b plan H s seat run found = subst (λ (x : Seat). IsSeat b plan x) (sym (is_there H s seat found).1) (seat_is_seat b plan H s run)

pub free_item : (b : Tables) (plan : Plan) (H : List Entry) (s : ℕ) (seat : Seat) (P : Problem) → IsPending plan seat → IsSeatProblem b plan s seat P → (X : ℕ → Bool) → Form P X → HasFreeItem P X
free_item b plan H s seat P pending of_seat X form = free_item_is_left b plan s seat P X pending of_seat form

-- ---- waiting for an answer
waiting_seat : (plan : Plan) (seat : Seat) (k item : ℕ) (proved : Bool) → seat_place plan seat ≡ Waiting k item proved → slice_get seat.shown (length seat.responses) ≡ Some item
waiting_seat plan seat k item proved e = by seat.closed (nat_le plan.length (length seat.responses)) (slice_get seat.shown (length seat.responses)) e
  where
    by : (closed full : Bool) (o : Option ℕ) → cond closed Closed (cond full Complete (step_place (length seat.responses) o seat.proved)) ≡ Waiting k item proved → o ≡ Some item
    by true full o e = absurd (cc)
    by false true o e = absurd (cc)
    by false false None e = absurd (cc)
    by false false (Some x) e = cc

-- the item that waits is shown at the step of its response
pub waiting_shown : (b : Tables) (plan : Plan) (H : List Entry) (s k item : ℕ) (proved : Bool) → LegalRun b plan H → place plan H s ≡ Some (Waiting k item proved) → slice_get (seat_of H s).shown (length (seat_of H s).responses) ≡ Some item
waiting_shown b plan H s k item proved run e =
    let is = there plan H s (Waiting k item proved) e in
    let at : seat_place plan (seat_of H s) ≡ Waiting k item proved = let f : Some (seat_place plan (seat_of H s)) ≡ Some (Waiting k item proved) = sym (place_is_of_seat b plan H s run is) ∙ e in cc in
    waiting_seat plan (seat_of H s) k item proved at

pub waiting_item : (b : Tables) (plan : Plan) (H : List Entry) (s k item : ℕ) (proved : Bool) → LegalRun b plan H → place plan H s ≡ Some (Waiting k item proved) → item < size b
waiting_item b plan H s k item proved run e =
    let seat = seat_of H s in
    (seat_is_seat b plan H s run).items item (shown_at seat.shown (length seat.responses) item (waiting_shown b plan H s k item proved run e))

pub problem_given : (b : Tables) (plan : Plan) (H : List Entry) (s : ℕ) (seat : Seat) (r : Option Given) → LegalRun b plan H → Some seat ≡ seat_if_started H s → (IsSome r ↔ IsPending plan seat) → IfSome r (λ p. IsSeatProblem b plan s seat (problem_of p)) → IfSome r (λ p. IsProblemOf b plan H s p.step (problem_of p))
problem_given b plan H s seat None run found pending of_seat = tt
problem_given b plan H s seat (Some p) run found pending of_seat = problem_is b plan H s p.step seat (problem_of p) run found (pending.0 refl) of_seat refl

pub free_given : (b : Tables) (plan : Plan) (H : List Entry) (s : ℕ) (seat : Seat) (r : Option Given) → (IsSome r ↔ IsPending plan seat) → IfSome r (λ p. IsSeatProblem b plan s seat (problem_of p)) → IfSome r (λ p. (X : Set) → Form (problem_of p) X → HasFreeItem (problem_of p) X)
free_given b plan H s seat None pending of_seat = tt
free_given b plan H s seat (Some p) pending of_seat = free_item b plan H s seat (problem_of p) (pending.0 refl) of_seat

pub none_given : (b : Tables) (plan : Plan) (H : List Entry) (s : ℕ) (seat : Seat) (r : Option Given) → LegalRun b plan H → Some seat ≡ seat_if_started H s → (IsSome r ↔ IsPending plan seat) → IfNone r ((step : ℕ) → place plan H s ≡ Some (Pending step) → ⊥)
none_given b plan H s seat None run found pending = λ step e. true≢false (sym (pending.1 (seat_waits b plan H s step seat run found e)))
none_given b plan H s seat (Some p) run found pending = tt

-- ---- eligibility set aside in the band of the estimate
no_flag : (k : ℕ) → get_or (eight (λ _. false)) k false ≡ false
no_flag zero = refl
no_flag (suc zero) = refl
no_flag (suc (suc zero)) = refl
no_flag (suc (suc (suc zero))) = refl
no_flag (suc (suc (suc (suc zero)))) = refl
no_flag (suc (suc (suc (suc (suc zero))))) = refl
no_flag (suc (suc (suc (suc (suc (suc zero)))))) = refl
no_flag (suc (suc (suc (suc (suc (suc (suc zero))))))) = refl
no_flag (suc (suc (suc (suc (suc (suc (suc (suc k)))))))) = refl

-- not where there is no such session
pub not_aside : (b : Tables) (plan : Plan) (H : List Entry) (s : ℕ) → LegalRun b plan H → None ≡ seat_if_started H s → false ≡ is_aside_now b plan H s
not_aside b plan H s run e = by (is_started H s) refl e
  where
    by : (t : Bool) → is_started H s ≡ t → ◌≡◌ {A = Option Seat} None (cond t (Some (seat_of H s)) None) → false ≡ is_aside_now b plan H s
    by true is same = absurd (cc)
    by false is same = sym (ap (λ (x : Seat). is_aside_in x (band_at b plan x (length (answers x)))) (seat_before_start b plan H s run is) ∙ no_flag (band_at b plan no_seat (length (answers no_seat))))
