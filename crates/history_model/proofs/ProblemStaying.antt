-- The problem of a session stays its problem until something is done in the session.
use Rattle.std.proofs.Common.{◌≡◌, ◌⊎◌, inl, inr, ℕ, ◌+◌, ◌<◌, Bool, true, false, not, ◌||◌, ◌==◌, List, [], ◌∷◌, ◌++◌, length, refl, sym, ap, ◌∙◌, subst, arith, append_assoc, length-append, get_or}
use Rattle.std.proofs.Math.Bool.{true≢false}
use Rattle.std.proofs.lemmas.List.{append-nil}
use Rattle.std.proofs.lemmas.Bool.{cases_Bool, eqb-true}
use Rattle.bank_tables.specs.Tables.{Tables}
use Rattle.serving_model.specs.declared.seat.Seat.{Seat}
use Rattle.form_model.specs.Plan.{Plan, band_of}
use Rattle.form_model.specs.Problem.{Problem}
use Rattle.form_model.specs.Ability.{AnswerList, IsPosteriorMode}
use Rattle.serving_model.specs.Seats.{answers, eligible_in, is_aside_in, problem_barring, IsSeatProblem}
use Rattle.form_model.proofs.OneMode.{one_mode}
use Rattle.history_model.specs.declared.entry.Entry.{Entry}
use Rattle.history_model.specs.declared.entry.Entry.TheVariants.{Started, SetAside, Served, Answered, Closed}
use Rattle.history_model.specs.declared.place.Place.TheVariants.{Pending}
use Rattle.history_model.specs.Entries.{sessions, starts_session, is_started, seat_of}
use Rattle.history_model.specs.SessionProblems.{IsProblemOf}
use Rattle.history_model.specs.Legality.{Legal, LegalRun}
use Rattle.history_model.specs.Laws.{raised, seat_with, ProblemStays, SameProblem}
use Rattle.history_model.proofs.Pushed.{started-push, seat_goes_on}
use Rattle.history_model.proofs.Standing.{there}
use Rattle.history_model.proofs.Running.{sessions_are_numbered, pending_is_of_seat}
use Rattle.history_model.proofs.RunParts.{each_is_legal, beginning_is_legal}
use Rattle.history_model.proofs.JudgingLaws.{one_problem}
use Rattle.history_model.proofs.Staying.{still_closed}

-- how much was done in a session
abbrev done : Seat → ℕ
done seat = length seat.shown + length seat.responses

-- an entry changes at most the flags of a seat, adds to what was done, or closes it
abbrev Moves : Seat → Seat → Type 0
Moves one other = ((flags : List Bool) × (other ≡ record one { aside = flags })) ⊎ ((done one < done other) ⊎ (other.closed ≡ true))

-- nothing is changed
stays : (one : Seat) → Moves one one
stays one = inl (one.aside, refl)

moves : (b : Tables) (plan : Plan) (H : List Entry) (s : ℕ) (e : Entry) → LegalRun b plan H → Legal b plan H e → is_started H s ≡ true → Moves (seat_of H s) (seat_with s (seat_of H s) e)
moves b plan H s (Started session booking eligible without) run legal started = elim (cases_Bool (session == s)) [
  | inl same ↦
      let number : session ≡ s = eqb-true session s same in
      let below : s < sessions H = (sessions_are_numbered b plan H s run).0 started in
      let next = legal.number.next in
      absurd (omega arith)
  | inr other ↦ rw other (stays (seat_of H s))
]
moves b plan H s (SetAside session step band cause nodes) run legal started = elim (cases_Bool (session == s)) [
  | inl same ↦
      rw same (inl (raised (seat_of H s).aside band, refl))
  | inr other ↦ rw other (stays (seat_of H s))
]
moves b plan H s (Served session step item form proved nodes) run legal started = elim (cases_Bool (session == s)) [
  | inl same ↦ let more = length-append (seat_of H s).shown (item ∷ []) in rw same (inr (inl (omega arith)))
  | inr other ↦ rw other (stays (seat_of H s))
]
moves b plan H s (Answered session step response) run legal started = elim (cases_Bool (session == s)) [
  | inl same ↦ let more = length-append (seat_of H s).responses (response ∷ []) in rw same (inr (inl (omega arith)))
  | inr other ↦ rw other (stays (seat_of H s))
]
moves b plan H s (Closed session) run legal started = elim (cases_Bool (session == s)) [
  | inl same ↦ rw same (inr (inr refl))
  | inr other ↦ rw other (stays (seat_of H s))
]

moves_on : (b : Tables) (plan : Plan) (s : ℕ) (E G : List Entry) → LegalRun b plan (G ++ E) → is_started G s ≡ true → Moves (seat_of G s) (seat_of (G ++ E) s)
moves_on b plan s [] G run started = inl ((seat_of G s).aside, ap (λ (H : List Entry). seat_of H s) (append-nil G))
moves_on b plan s (e ∷ E) G run started =
    let both = each_is_legal b plan G e E run in
    let G1 = G ++ e ∷ [] in
    let same : (G ++ e ∷ []) ++ E ≡ G ++ e ∷ E = append_assoc G (e ∷ []) E in
    let no_start : starts_session s e ≡ true → is_started G s ≡ false = no_start_again b plan G s e both.0 both.1 started in
    let at : seat_of G1 s ≡ seat_with s (seat_of G s) e = seat_goes_on G e s (λ one. absurd (true≢false (sym started ∙ no_start one))) in
    let here : Moves (seat_of G s) (seat_of G1 s) = subst (Moves (seat_of G s)) (sym at) (moves b plan G s e both.0 both.1 started) in
    let there1 : is_started G1 s ≡ true = started-push G e s ∙ rw started refl in
    let rest : Moves (seat_of G1 s) (seat_of (G1 ++ E) s) = moves_on b plan s E G1 (subst (LegalRun b plan) (sym same) run) there1 in
    subst (λ (K : List Entry). Moves (seat_of G s) (seat_of K s)) same (joined (seat_of G s) (seat_of G1 s) (seat_of (G1 ++ E) s) (λ closed. still_closed G1 E s closed) here rest)
  where
    no_start_again : (b : Tables) (plan : Plan) (G : List Entry) (s : ℕ) (e : Entry) → LegalRun b plan G → Legal b plan G e → is_started G s ≡ true → starts_session s e ≡ true → is_started G s ≡ false
    no_start_again b plan G s (Started session booking eligible without) run legal started same =
        let number : session ≡ s = eqb-true session s same in
        let below : s < sessions G = (sessions_are_numbered b plan G s run).0 started in
        let next = legal.number.next in
        absurd (omega arith)
    no_start_again b plan G s (SetAside session step band cause nodes) run legal started same = absurd (true≢false (sym same))
    no_start_again b plan G s (Served session step item form proved nodes) run legal started same = absurd (true≢false (sym same))
    no_start_again b plan G s (Answered session step response) run legal started same = absurd (true≢false (sym same))
    no_start_again b plan G s (Closed session) run legal started same = absurd (true≢false (sym same))

    joined : (one two three : Seat) → (two.closed ≡ true → three.closed ≡ true) → Moves one two → Moves two three → Moves one three
    joined one two three keeps (inl a) (inl c) = inl (c.0, c.1 ∙ ap (λ (x : Seat). record x { aside = c.0 }) a.1)
    joined one two three keeps (inl a) (inr (inl c)) = inr (inl (subst (λ (x : Seat). done x < done three) a.1 c))
    joined one two three keeps first (inr (inr c)) = inr (inr c)
    joined one two three keeps (inr (inl a)) (inl c) = inr (inl (subst (λ (x : Seat). done one < done x) (sym c.1) a))
    joined one two three keeps (inr (inl a)) (inr (inl c)) = inr (inl (omega arith))
    joined one two three keeps (inr (inr a)) (inl c) = inr (inr (keeps a))
    joined one two three keeps (inr (inr a)) (inr (inl c)) = inr (inr (keeps a))

-- a seat that differs in its flags alone has the same problem, if its flag in the band of the
-- estimate is the same
flags_alone : (b : Tables) (plan : Plan) (s : ℕ) (seat : Seat) (flags : List Bool) (P : Problem) → IsSeatProblem b plan s seat P
    → (let other : Seat = record seat { aside = flags } in is_aside_in other (band_of plan P.theta) ≡ P.aside → IsSeatProblem b plan s other P)
flags_alone b plan s seat flags P of_seat same = record { theta = theta; mode = of_seat.mode; is = of_seat.is ∙ ap with_flag (sym flag) }
  where
    theta : ℕ
    theta = of_seat.theta

    band : ℕ
    band = band_of plan theta

    with_flag : Bool → Problem
    with_flag flag = problem_barring b plan s seat theta flag (λ i. not (eligible_in seat band i || flag))

    at : P.theta ≡ theta
    at = ap (λ (Q : Problem). Q.theta) of_seat.is

    was : P.aside ≡ is_aside_in seat band
    was = ap (λ (Q : Problem). Q.aside) of_seat.is

    flag : get_or flags band false ≡ is_aside_in seat band
    flag = ap (λ (g : ℕ). get_or flags (band_of plan g) false) (sym at) ∙ (same ∙ was)

pub problem_stays : ProblemStays
problem_stays b plan G E s step P run problem pending aside =
    let before : LegalRun b plan G = beginning_is_legal b plan G E run in
    let started : is_started G s ≡ true = there plan G s (Pending step) problem.pending in
    let one = pending_is_of_seat b plan G s step before problem.pending in
    let other = pending_is_of_seat b plan (G ++ E) s step run pending in
    let same : (flags : List Bool) × (seat_of (G ++ E) s ≡ record (seat_of G s) { aside = flags }) = elim (moves_on b plan s E G run started) [
      | inl same ↦ same
      | inr (inl further) ↦
          let shown = one.0.answered in
          let shown1 = other.0.answered in
          let k = one.1 in
          let k1 = other.1 in
          absurd (omega arith)
      | inr (inr closed) ↦ absurd (true≢false (sym closed ∙ other.0.not_closed))
    ] in
    let flag = ap (λ (seat : Seat). is_aside_in seat (band_of plan P.theta)) (sym same.1) ∙ aside in
    record { pending = pending; of_seat = subst (λ (seat : Seat). IsSeatProblem b plan s seat P) (sym same.1) (flags_alone b plan s (seat_of G s) same.0 P problem.of_seat flag) }

-- the estimate of a problem of the same step is the same
same_estimate : (b : Tables) (plan : Plan) (G E : List Entry) (s step : ℕ) (P Q : Problem) → LegalRun b plan (G ++ E) → IsProblemOf b plan G s step P → IsProblemOf b plan (G ++ E) s step Q → Q.theta ≡ P.theta
same_estimate b plan G E s step P Q run one other =
    let before : LegalRun b plan G = beginning_is_legal b plan G E run in
    let started : is_started G s ≡ true = there plan G s (Pending step) one.pending in
    let first = pending_is_of_seat b plan G s step before one.pending in
    let second = pending_is_of_seat b plan (G ++ E) s step run other.pending in
    elim (moves_on b plan s E G run started) [
      | inl same ↦
          let list : answers (seat_of (G ++ E) s) ≡ answers (seat_of G s) = ap answers same.1 in
          ap (λ (R : Problem). R.theta) other.of_seat.is
          ∙ (one_mode b plan.prior (answers (seat_of G s)) other.of_seat.theta one.of_seat.theta (subst (λ (xs : AnswerList). IsPosteriorMode b plan.prior xs other.of_seat.theta) list other.of_seat.mode) one.of_seat.mode
          ∙ sym (ap (λ (R : Problem). R.theta) one.of_seat.is))
      | inr (inl further) ↦
          let shown = first.0.answered in
          let shown1 = second.0.answered in
          let k = first.1 in
          let k1 = second.1 in
          absurd (omega arith)
      | inr (inr closed) ↦ absurd (true≢false (sym closed ∙ second.0.not_closed))
    ]

pub same_problem : SameProblem
same_problem b plan G E s step P Q run one other aside =
    let theta = same_estimate b plan G E s step P Q run one other in
    let own : Q.theta ≡ other.of_seat.theta = ap (λ (R : Problem). R.theta) other.of_seat.is in
    let flag : is_aside_in (seat_of (G ++ E) s) (band_of plan P.theta) ≡ P.aside =
    ap (λ (g : ℕ). is_aside_in (seat_of (G ++ E) s) (band_of plan g)) (sym theta ∙ own) ∙ (sym (ap (λ (R : Problem). R.aside) other.of_seat.is) ∙ sym aside) in
    one_problem b plan (G ++ E) s step P Q (problem_stays b plan G E s step P run one other.pending flag) other
