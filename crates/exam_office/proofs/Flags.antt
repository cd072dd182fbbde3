-- Whether eligibility is set aside in the band of a session's estimate.
use Rattle.std.proofs.Common.{◌≡◌, ℕ, zero, suc, ◌<◌, Bool, true, false, cond, ◌||◌, ◌==◌, List, [], ◌∷◌, ◌++◌, length, take, get_or, Some, refl, sym, ap, ◌∙◌, subst, arith}
use Rattle.std.specs.Prelude.{nat_le}
use Rattle.std.proofs.Math.Bool.{true≢false}
use Rattle.std.proofs.lemmas.Bool.{eq-eqb}
use Rattle.std.proofs.lemmas.List.{take_all}
use Rattle.std.proofs.lemmas.List.Folds.{list_any-append}
use Rattle.std.proofs.lemmas.List.Sums.{count_by-le-length}
use Rattle.bank_tables.specs.Tables.{Tables}
use Rattle.serving_model.specs.declared.seat.Seat.{Seat}
use Rattle.form_model.specs.Ability.{AnswerList, IsPosteriorMode, mode_of}
use Rattle.form_model.specs.Plan.{Plan, band_of}
use Rattle.form_model.specs.Problem.{Problem}
use Rattle.serving_model.specs.Seats.{answers, eight, is_aside_in, seat_problem}
use Rattle.form_model.specs.Validity.{IsPlanFor}
use Rattle.form_model.proofs.OneMode.{one_mode}
use Rattle.form_model.proofs.SomeMode.{mode_of_is_mode, mode_is_mode_of}
use Rattle.history_model.specs.declared.entry.Cause.{Cause}
use Rattle.history_model.specs.declared.entry.Entry.{Entry}
use Rattle.history_model.specs.declared.entry.Entry.TheVariants.{SetAside}
use Rattle.history_model.specs.declared.place.Place.TheVariants.{Pending}
use Rattle.history_model.specs.Entries.{is_set_aside, seat_of}
use Rattle.history_model.specs.Laws.{raised}
use Rattle.history_model.specs.Legality.{Legal, LegalRun}
use Rattle.history_model.specs.Places.{place}
use Rattle.history_model.specs.SessionProblems.{IsProblemOf, band_now, is_aside_now}
use Rattle.history_model.proofs.JudgingLaws.{one_problem}
use Rattle.history_model.proofs.ProblemStaying.{problem_stays, same_problem}
use Rattle.history_model.proofs.Pushed.{seat_goes_on}
use Rattle.history_model.proofs.SessionEntries.{sets_session_aside, aside_by}

-- a valid plan has at most eight bands
pub band_below : (b : Tables) (plan : Plan) → IsPlanFor b plan → (g : ℕ) → band_of plan g < 8
band_below b plan fits g = omega (arith, fits.bands.few, count_by-le-length (λ (point : ℕ). nat_le point g) plan.bands)

-- ---- the problem of a session, and the band of its estimate
module _ (b : Tables) (plan : Plan) (H : List Entry) (s step : ℕ) (P : Problem) (asked : IsProblemOf b plan H s step P) where
  pub points : 0 < b.grid
  points = omega (arith, asked.of_seat.mode.within)

  pub theta_is : P.theta ≡ asked.of_seat.theta
  theta_is = ap (λ (R : Problem). R.theta) asked.of_seat.is

  pub band_is : band_now b plan H s ≡ band_of plan P.theta
  band_is =
      let A : AnswerList = answers (seat_of H s) in
      let all : take (length A) A ≡ A = take_all (length A) A (omega arith) in
      let mode : asked.of_seat.theta ≡ mode_of b plan.prior A = (mode_is_mode_of b plan.prior A asked.of_seat.theta points).0 asked.of_seat.mode in
      ap (λ (xs : AnswerList). band_of plan (mode_of b plan.prior xs)) all ∙ ap (λ (g : ℕ). band_of plan g) (sym mode ∙ sym theta_is)

  -- its flag
  pub flag_of : P.aside ≡ is_aside_in (seat_of H s) (band_of plan P.theta)
  flag_of = ap (λ (R : Problem). R.aside) asked.of_seat.is ∙ ap (λ (g : ℕ). is_aside_in (seat_of H s) (band_of plan g)) (sym theta_is)

  pub flag_now : P.aside ≡ is_aside_now b plan H s
  flag_now = flag_of ∙ ap (λ (k : ℕ). is_aside_in (seat_of H s) k) (sym band_is)

-- a session that waits for an item has a problem
pub pending_problem : (b : Tables) (plan : Plan) (H : List Entry) (s step : ℕ) → 0 < b.grid → place plan H s ≡ Some (Pending step) → (Q : Problem) × IsProblemOf b plan H s step Q
pending_problem b plan H s step some pending =
    let theta = mode_of b plan.prior (answers (seat_of H s)) in
    let mode : IsPosteriorMode b plan.prior (answers (seat_of H s)) theta = mode_of_is_mode b plan.prior (answers (seat_of H s)) some in
    (seat_problem b plan s (seat_of H s) theta, record { pending = pending; of_seat = record { theta = theta; mode = mode; is = refl } })

module _ (b : Tables) (plan : Plan) (G E : List Entry) (s step : ℕ) (P : Problem) (run : LegalRun b plan (G ++ E)) (one : IsProblemOf b plan G s step P) where
  -- the problem is that of the session now, where its flag is the one of the estimate's band now
  pub problem_now : place plan (G ++ E) s ≡ Some (Pending step) → is_aside_now b plan (G ++ E) s ≡ P.aside → IsProblemOf b plan (G ++ E) s step P
  problem_now pending aside =
      let found = pending_problem b plan (G ++ E) s step (points b plan G s step P one) pending in
      let flag : P.aside ≡ found.0.aside = sym aside ∙ sym (flag_now b plan (G ++ E) s step found.0 found.1) in
      subst (λ (Q : Problem). IsProblemOf b plan (G ++ E) s step Q) (sym (same_problem b plan G E s step P found.0 run one found.1 flag)) found.1

-- ---- flags that are raised
at_eight : (f : ℕ → Bool) (k : ℕ) → k < 8 → get_or (eight f) k false ≡ f k
at_eight f zero lt = refl
at_eight f (suc zero) lt = refl
at_eight f (suc (suc zero)) lt = refl
at_eight f (suc (suc (suc zero))) lt = refl
at_eight f (suc (suc (suc (suc zero)))) lt = refl
at_eight f (suc (suc (suc (suc (suc zero))))) lt = refl
at_eight f (suc (suc (suc (suc (suc (suc zero)))))) lt = refl
at_eight f (suc (suc (suc (suc (suc (suc (suc zero))))))) lt = refl
at_eight f (suc (suc (suc (suc (suc (suc (suc (suc k)))))))) lt = absurd (omega arith)

-- what is raised stays raised where each flag does
more_raised : (f g : ℕ → Bool) → ((k : ℕ) → f k ≡ true → g k ≡ true) → (k : ℕ) → get_or (eight f) k false ≡ true → get_or (eight g) k false ≡ true
more_raised f g each zero e = each 0 e
more_raised f g each (suc zero) e = each 1 e
more_raised f g each (suc (suc zero)) e = each 2 e
more_raised f g each (suc (suc (suc zero))) e = each 3 e
more_raised f g each (suc (suc (suc (suc zero)))) e = each 4 e
more_raised f g each (suc (suc (suc (suc (suc zero))))) e = each 5 e
more_raised f g each (suc (suc (suc (suc (suc (suc zero)))))) e = each 6 e
more_raised f g each (suc (suc (suc (suc (suc (suc (suc zero))))))) e = each 7 e
more_raised f g each (suc (suc (suc (suc (suc (suc (suc (suc k)))))))) e = absurd (true≢false (sym e))

or_on : (t : Bool) → (t || true) ≡ true
or_on true = refl
or_on false = refl

-- the flag of the band in which eligibility is set aside is raised
pub raised_there : (flags : List Bool) (band : ℕ) → band < 8 → get_or (raised flags band) band false ≡ true
raised_there flags band low =
    at_eight (λ k. get_or flags k false || (band == k)) band low
    ∙ (ap (λ (t : Bool). get_or flags band false || t) (eq-eqb band band refl) ∙ or_on (get_or flags band false))

-- in a longer history
pub aside_stays : (H E : List Entry) (s band : ℕ) → is_aside_in (seat_of H s) band ≡ true → is_aside_in (seat_of (H ++ E) s) band ≡ true
aside_stays H E s band e = more_raised (λ k. is_set_aside H s k) (λ k. is_set_aside (H ++ E) s k) (λ k was. stays k was) band e
  where
    stays : (k : ℕ) → is_set_aside H s k ≡ true → is_set_aside (H ++ E) s k ≡ true
    stays k was =
        let before : Rattle.std.specs.List.list_any (sets_session_aside s k) H ≡ true = sym (aside_by H s k) ∙ was in
        aside_by (H ++ E) s k ∙ (list_any-append (sets_session_aside s k) H E ∙ rw before refl)

-- a problem with its flag raised stays, while the session waits for the item of its step
pub raised_stays : (b : Tables) (plan : Plan) (G E : List Entry) (s step : ℕ) (P Q : Problem) → LegalRun b plan (G ++ E) → IsProblemOf b plan G s step P → IsProblemOf b plan (G ++ E) s step Q → P.aside ≡ true → Q.aside ≡ true
raised_stays b plan G E s step P Q run one other flag =
    let was : is_aside_in (seat_of G s) (band_of plan P.theta) ≡ true = sym (flag_of b plan G s step P one) ∙ flag in
    let is = aside_stays G E s (band_of plan P.theta) was in
    let still = problem_stays b plan G E s step P run one other.pending (is ∙ sym flag) in
    ap (λ (R : Problem). R.aside) (one_problem b plan (G ++ E) s step Q P other still) ∙ flag

-- ---- after eligibility is set aside
-- the flag of the band of the estimate is raised
module _ (b : Tables) (plan : Plan) (fits : IsPlanFor b plan) (H : List Entry) (s step : ℕ) (P : Problem) (asked : IsProblemOf b plan H s step P) (cause : Cause) (nodes : ℕ) where
  abbrev setting : Entry
  setting = SetAside s step (band_of plan P.theta) cause nodes

  seat_then : seat_of (H ++ setting ∷ []) s ≡ record (seat_of H s) { aside = raised (seat_of H s).aside (band_of plan P.theta) }
  seat_then =
      seat_goes_on H setting s (λ no. absurd (true≢false (sym no)))
      ∙ ap (λ (t : Bool). cond t (record (seat_of H s) { aside = raised (seat_of H s).aside (band_of plan P.theta) }) (seat_of H s)) (eq-eqb s s refl)

  pub raised_then : is_aside_in (seat_of (H ++ setting ∷ []) s) (band_of plan P.theta) ≡ true
  raised_then =
      ap (λ (seat : Seat). is_aside_in seat (band_of plan P.theta)) seat_then ∙ raised_there (seat_of H s).aside (band_of plan P.theta) (band_below b plan fits P.theta)

  -- so is that of the problem then, whose estimate is the same
  pub problem_then : (k : ℕ) (Q : Problem) → IsProblemOf b plan (H ++ setting ∷ []) s k Q → Q.aside ≡ true
  problem_then k Q then =
      let A = answers (seat_of H s) in
      let list : answers (seat_of (H ++ setting ∷ []) s) ≡ A = ap (λ (seat : Seat). answers seat) seat_then in
      let mode : IsPosteriorMode b plan.prior A then.of_seat.theta = subst (λ (xs : AnswerList). IsPosteriorMode b plan.prior xs then.of_seat.theta) list then.of_seat.mode in
      let theta : Q.theta ≡ P.theta =
      theta_is b plan (H ++ setting ∷ []) s k Q then
      ∙ (one_mode b plan.prior A then.of_seat.theta asked.of_seat.theta mode asked.of_seat.mode ∙ sym (theta_is b plan H s step P asked)) in
      flag_of b plan (H ++ setting ∷ []) s k Q then ∙ (ap (λ (g : ℕ). is_aside_in (seat_of (H ++ setting ∷ []) s) (band_of plan g)) theta ∙ raised_then)

-- so wherever it was set aside by a legal entry
pub aside_then : (b : Tables) (plan : Plan) → IsPlanFor b plan → (H : List Entry) (s step band nodes : ℕ) (cause : Cause) → Legal b plan H (SetAside s step band cause nodes)
    → (k : ℕ) (Q : Problem) → IsProblemOf b plan (H ++ SetAside s step band cause nodes ∷ []) s k Q → Q.aside ≡ true
aside_then b plan fits H s step band nodes cause legal k Q then =
    let P = legal.problem in
    problem_then b plan fits H s step P legal.is_problem cause nodes k Q
    (subst (λ (n : ℕ). IsProblemOf b plan (H ++ SetAside s step n cause nodes ∷ []) s k Q) legal.band_is then)
