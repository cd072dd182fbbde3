-- What the commit of an assembly comes to.
use Rattle.std.proofs.Common.{◌≡◌, ℕ, ◌+◌, ◌==◌, Bool, true, false, cond, List, [], ◌∷◌, ◌++◌, length, refl, sym, ap, ◌∙◌, subst, inl, inr, ⊎_elim, arith, append_assoc, Option, Some, None, length-append, eq-eqb}
use Rattle.std.proofs.lemmas.Bool.{true≢false}
use Rattle.bank_tables.specs.Items.{has}
use Rattle.bank_tables.specs.Tables.{Tables}
use Rattle.form_model.specs.Plan.{Plan, band_of}
use Rattle.form_model.specs.Validity.{IsPlanFor}
use Rattle.form_model.specs.Problem.{Problem as Model}
use Rattle.serving_model.specs.declared.seat.Seat.{Seat}
use Rattle.exam_edge.specs.Lent.{IsLent}
use Rattle.answer_journal.specs.Journal.{tells_of, faults_of, identity_of}
use Rattle.constraint_model.specs.declared.problem.Problem.{Problem}
use Rattle.constraint_model.specs.Views.{problem_of}
use Rattle.history_model.specs.declared.entry.Cause.{Cause}
use Rattle.history_model.specs.declared.entry.Cause.TheVariants.{NoForm as CauseNoForm, Spent}
use Rattle.history_model.specs.declared.entry.Entry.{Entry}
use Rattle.history_model.specs.declared.entry.Entry.TheVariants.{SetAside, Served}
use Rattle.history_model.specs.declared.place.Place.{Place}
use Rattle.history_model.specs.declared.place.Place.TheVariants.{Pending}
use Rattle.history_model.specs.declared.refusal.Refusal.{Refusal}
use Rattle.history_model.specs.declared.refusal.Refusal.TheVariants.{NoSession, OtherBooking, WrongStep, Other, BadResponse, IsClosed, Stale, OtherList, NoItem, SessionsFull, NoForm, NoneFound, JournalFull, Disk, Memory}
use Rattle.history_model.specs.Entries.{Serving, servings, step_answers, seat_of}
use Rattle.history_model.specs.Laws.{raised, seat_place}
use Rattle.history_model.specs.Legality.{Legal, LegalRun}
use Rattle.history_model.specs.Places.{place}
use Rattle.history_model.specs.SessionProblems.{IsProblemOf, is_aside_now}
use Rattle.history_model.proofs.SessionEntries.{servings_by, answers_by}
use Rattle.history_model.proofs.Running.{place_is_of_seat, the_seat_goes_on}
use Rattle.history_model.proofs.RunParts.{beginning_is_legal}
use Rattle.history_model.proofs.Standing.{there}
use Rattle.history_model.proofs.Staying.{still_started}
use Rattle.branch_bound.specs.Assembled.{Assembly}
use Rattle.branch_bound.specs.Assemblies.{IsFirmOutcome, IsNoWorseThan}
use Rattle.branch_bound.specs.declared.outcome.Outcome.{Outcome}
use Rattle.branch_bound.specs.declared.outcome.Outcome.TheVariants.{Found, NoForm, NoneFound}
use Rattle.exam_office.specs.declared.mark.Mark.{Mark}
use Rattle.exam_office.specs.declared.mark.Mark.TheVariants.{Old, Opened, Own, Adopted, Fault}
use Rattle.exam_office.specs.Asking.{IsGood}
use Rattle.exam_office.specs.Calls.{Finding, Calls}
use Rattle.exam_office.specs.Commits.{IsStaleBy, IsEntryFor, IsOfStart, IsStillAsked, FindsCommit, MayBeCommitted}
use Rattle.exam_office.specs.Marks.{history}
use Rattle.exam_office.specs.Noting.{IsDoubtOf}
use Rattle.exam_office.specs.Running.{Running}
use Rattle.exam_office.specs.Writing.{IsSameOffice}
use Rattle.exam_office.proofs.Committed.{asked_now, still_may}
use Rattle.exam_office.proofs.Flags.{flag_now, aside_then}
use Rattle.exam_hall.specs.Parts.{owns, NoFault, AtMostOne, IsAside, IsServing, IsCommitted, Fails}
use Rattle.exam_hall.specs.Good.{IsFirm, IsGoodMark}
use Rattle.exam_hall.specs.Rounds.{IsGoodFor, IsEntryOf, AddsOnly, IsPlaced, EndsRound, EndsGood}
use Rattle.exam_hall.specs.Turns.{Adds, Ended, IsRoundAt}
use Rattle.exam_hall.specs.declared.committing.Round.{Round}
use Rattle.exam_hall.specs.declared.committing.Round.TheVariants.{Placed, Again, Failed}
use Rattle.exam_hall.proofs.Calls.{CameTo, to_refusal, to_nothing, to_entry, to_failure, addition, calls_on}
use Rattle.exam_hall.proofs.Moved.{history_append, more_servings, more_answers, even}
use Rattle.exam_hall.proofs.Owned.{EachMark, IsFoundMark, none_only, one_only, ends_good}

-- ---- the session after one more entry
-- after an item was served the session doesn't wait for one
served_waits : (b : Tables) (plan : Plan) (H : List Entry) (s step item : ℕ) (form : List ℕ) (proved : Bool) (nodes k j : ℕ) → LegalRun b plan (H ++ Served s step item form proved nodes ∷ [])
    → place plan H s ≡ Some (Pending k) → place plan (H ++ Served s step item form proved nodes ∷ []) s ≡ Some (Pending j) → ⊥
served_waits b plan H s step item form proved nodes k j run before now =
    let e : Entry = Served s step item form proved nodes in
    let one = even b plan H s k (beginning_is_legal b plan H (e ∷ []) run) before in
    let two = even b plan (H ++ e ∷ []) s j run now in
    let self : (s == s) ≡ true = eq-eqb s s refl in
    let A : length (step_answers (H ++ e ∷ []) s) ≡ length (step_answers H s) + 0 =
    ap length (more_answers H (e ∷ []) s) ∙ (length-append (step_answers H s) (step_answers (e ∷ []) s) ∙ ap (λ l. length (step_answers H s) + length l) (answers_by (e ∷ []) s)) in
    let serving : Serving = record { step = step; item = item; form = form; proved = proved } in
    let V : length (servings (H ++ e ∷ []) s) ≡ length (servings H s) + 1 =
    ap length (more_servings H (e ∷ []) s) ∙ (length-append (servings H s) (servings (e ∷ []) s)
    ∙ ap (λ n. length (servings H s) + n) (ap length (servings_by (e ∷ []) s) ∙ ap (λ t. length (Rattle.std.specs.List.cons_option (cond t (Some serving) None) [])) self)) in
    let a1 = one.answers in
    let a2 = two.answers in
    let v1 = one.servings in
    let v2 = two.servings in
    omega arith

-- after eligibility was set aside the session is where it was
aside_place : (b : Tables) (plan : Plan) (H : List Entry) (s step band : ℕ) (cause : Cause) (nodes : ℕ) (at : Place) → LegalRun b plan (H ++ SetAside s step band cause nodes ∷ []) → Legal b plan H (SetAside s step band cause nodes)
    → place plan H s ≡ Some at → place plan (H ++ SetAside s step band cause nodes ∷ []) s ≡ Some at
aside_place b plan H s step band cause nodes at run legal stands =
    let e : Entry = SetAside s step band cause nodes in
    let early = beginning_is_legal b plan H (e ∷ []) run in
    let started = there plan H s at stands in
    let flags = raised (seat_of H s).aside band in
    let seat : seat_of (H ++ e ∷ []) s ≡ record (seat_of H s) { aside = flags } =
    the_seat_goes_on b plan H e s early legal ∙ ap (λ t. cond t (record (seat_of H s) { aside = flags }) (seat_of H s)) (eq-eqb s s refl) in
    place_is_of_seat b plan (H ++ e ∷ []) s run (still_started H (e ∷ []) s started)
    ∙ (ap (λ (x : Seat). Some (seat_place plan x)) seat ∙ (sym (place_is_of_seat b plan H s early started) ∙ stands))

same_place : (p r : Place) → Some p ≡ Some r → p ≡ r
same_place p r e = cc

-- ---- where the session is after the commit
module _ (b : Tables) (plan : Plan) (P : Problem) (S T : List Mark) (at : Place) (stands : place plan (history S) P.session ≡ Some at) where
  -- an item was served
  after_serving : (round : Round) → ((j : ℕ) → place plan (history S) P.session ≡ Some (Pending j) → ⊥) → AtMostOne (IsServing P.session) (owns T) → NoFault T
      → IsRoundAt b plan (history S) P at round → EndsRound b plan P S T round
  after_serving (Placed same) never one whole is = subst (λ x. IsPlaced plan P S T x) (sym is.0)
      (record { stands = stands; one = one; no_fault = whole; other = λ k e. absurd (never k (stands ∙ ap (λ p. Some p) e)) })
  after_serving (Again next) never one whole is = absurd (never next.step (subst (λ n. place plan (history S) n ≡ Some (Pending next.step)) is.1 is.0.is_problem.pending))
  after_serving (Failed r) never one whole is = absurd is

  -- eligibility was set aside, and a problem of the session has its flag raised now
  after_aside : (round : Round) → place plan (history S) P.session ≡ Some (Pending P.step) → ((k : ℕ) (Q : Model) → IsProblemOf b plan (history S) P.session k Q → Q.aside ≡ true) → P.aside ≡ false → AtMostOne (IsAside P.session) (owns T) → NoFault T
      → IsRoundAt b plan (history S) P at round → EndsRound b plan P S T round
  after_aside (Placed same) waits aside flag one whole is = absurd (is.1 (same_place at (Pending P.step) (sym stands ∙ waits)))
  after_aside (Again next) waits aside flag one whole is = record {
    asked = is.0;
    session = is.1;
    step = is.2;
    aside = λ e. true≢false (sym (aside next.step (problem_of next) (subst (λ n. IsProblemOf b plan (history S) n next.step (problem_of next)) is.1 is.0.is_problem)) ∙ (e ∙ flag));
    one = one;
    no_fault = whole;
  }
  after_aside (Failed r) waits aside flag one whole is = absurd is

  -- it doesn't wait for the item any more
  after_stale : (round : Round) (aside : Bool) → IsStaleBy b plan (history S) P.session P.step P.aside at aside → owns T ≡ [] → NoFault T
      → IsRoundAt b plan (history S) P at round → EndsRound b plan P S T round
  after_stale (Placed same) aside stale none whole is = subst (λ x. IsPlaced plan P S T x) (sym is.0)
      (record { stands = stands; one = inl none; no_fault = whole; other = λ k e. ((λ n. is.1 (e ∙ ap (λ m. Pending m) n)), none) })
  after_stale (Again next) aside stale none whole is = record {
    asked = is.0;
    session = is.1;
    step = is.2;
    aside = λ e. stale.other (record {
      pending = subst (λ n. place plan (history S) n ≡ Some (Pending P.step)) is.1 (subst (λ k. place plan (history S) next.session ≡ Some (Pending k)) is.2 is.0.is_problem.pending);
      aside = sym (ap (λ n. is_aside_now b plan (history S) n) is.1) ∙ (sym (flag_now b plan (history S) next.session next.step (problem_of next) is.0.is_problem) ∙ e);
    });
    one = inl none;
    no_fault = whole;
  }
  after_stale (Failed r) aside stale none whole is = absurd is

-- what an outcome is made
committed : (P : Problem) (n : ℕ) (o : Outcome) (e : Entry) → IsEntryFor (problem_of P) n o e → IsCommitted P.session e
committed P n (Found form proved) e h = inr (subst (λ x. IsServing P.session x) (sym h.2) refl)
committed P n NoForm e h = inl (subst (λ x. IsAside P.session x) (sym h) refl)
committed P n NoneFound e h = inl (subst (λ x. IsAside P.session x) (sym h) refl)

-- what was found is firm and good
committed_good : (b : Tables) (plan : Plan) (base : List ℕ) (H : List Entry) (Q : Model) (n : ℕ) (o : Outcome) (e : Entry) → IsProblemOf b plan H Q.session Q.step Q → IsOfStart Q base o → IsFirmOutcome Q o
    → IsNoWorseThan Q Q.start o → IsNoWorseThan Q (Some (has base)) o → IsEntryFor Q n o e → Legal b plan H e → IsFirm b plan H e × IsGood b plan base H e
committed_good b plan base H Q n (Found form proved) e asked at firm start hint made legal =
    let x : Entry = Served Q.session Q.step made.0 form proved n in
    subst (λ y. IsFirm b plan H y × IsGood b plan base H y) (sym made.2) (
      record { step = Q.step; item = made.0; form = form; proved = proved; nodes = n; is = refl; legal = subst (λ y. Legal b plan H y) made.2 legal; problem = Q; is_problem = asked; firm = firm },
      record { problem = Q; is_problem = asked; base_is = hint; start = λ X is. subst (λ s. IsNoWorseThan Q s (Found form proved)) is start },
    )
committed_good b plan base H Q n NoForm e asked at firm start hint made legal = subst (λ y. IsFirm b plan H y × IsGood b plan base H y) (sym made) (tt, tt)
committed_good b plan base H Q n NoneFound e asked at firm start hint made legal =
    subst (λ y. IsFirm b plan H y × IsGood b plan base H y) (sym made)
    (tt, record { problem = Q; is_problem = asked; no_base = at.1; no_start = λ X is. subst (λ s. IsNoWorseThan Q s NoneFound) is start })

module _ (b : Tables) (plan : Plan) (base : List ℕ) (a : Assembly) (fits : IsGoodFor base a) where
  mark_good : (H : List Entry) (m : Mark) → MayBeCommitted b plan base H a → LegalRun b plan H → IsFoundMark (FindsCommit b plan a) H m → IsGoodMark b plan base H m
  mark_good H (Old e) may run says = tt
  mark_good H (Opened n) may run says = tt
  mark_good H (Own e n) may run says =
      let Q = problem_of a.problem in
      committed_good b plan base H Q (length a.tree.nodes) a.outcome e (asked_now b plan base H a run may says.0) may.of_start fits.firm fits.start fits.hint says.1 says.2
  mark_good H (Adopted e n) may run says = tt
  mark_good H (Fault e) may run says = tt

  marks_good : (T M : List Mark) → MayBeCommitted b plan base (history M) a → LegalRun b plan (history (M ++ T)) → EachMark (IsFoundMark (FindsCommit b plan a)) M T → EachMark (IsGoodMark b plan base) M T
  marks_good [] M may run found = tt
  marks_good (m ∷ T) M may run found =
      let early : LegalRun b plan (history M) = beginning_is_legal b plan (history M) (history (m ∷ T)) (subst (λ l. LegalRun b plan l) (history_append M (m ∷ T)) run) in
      let longer : MayBeCommitted b plan base (history (M ++ m ∷ [])) a =
      subst (λ l. MayBeCommitted b plan base l a) (sym (history_append M (m ∷ []))) (still_may b plan base (history M) (history (m ∷ [])) a may) in
      (mark_good (history M) m may early found.0, marks_good T (M ++ m ∷ []) longer (subst (λ l. LegalRun b plan (history l)) (sym (append_assoc M (m ∷ []) T)) run) found.1)

-- the same of the office before the call
pub round_there : {D : Type 0} (old new : Running D) → IsSameOffice old new → (P Q : Problem) → P ≡ Q → (at : Place) (round : Round) → IsRoundAt new.bank new.plan (history new.marks) P at round
    → IsRoundAt old.bank old.plan (history new.marks) Q at round
round_there old new same P Q is at round h =
    subst (λ (R : Problem). IsRoundAt old.bank old.plan (history new.marks) R at round) is
    (subst (λ (p : Plan). IsRoundAt old.bank p (history new.marks) P at round) same.plan (subst (λ (b : Tables). IsRoundAt b new.plan (history new.marks) P at round) same.bank h))

module _ {D : Type 0} (old new : Running D) (a : Assembly) (same : IsSameOffice old new) (frame : IsLent tells_of identity_of faults_of old.journal new.journal)
    (valid : IsPlanFor old.bank old.plan) (may : MayBeCommitted old.bank old.plan old.base (history old.marks) a) (fits : IsGoodFor old.base a) (run : LegalRun old.bank old.plan (history new.marks)) where
  abbrev b : Tables
  b = old.bank

  abbrev plan : Plan
  plan = old.plan

  abbrev P : Problem
  P = a.problem

  abbrev finds : List Entry → Finding → Type 0
  finds = FindsCommit old.bank old.plan a

  leads : (H : List Entry) (e : Entry) → FindsCommit old.bank old.plan a H (Rattle.exam_office.specs.Calls.add e) → IsCommitted P.session e × Legal old.bank old.plan H e
  leads H e says = (committed P (length a.tree.nodes) a.outcome e says.1, says.2)

  made_ends : (H : List Entry) (T : List Mark) (o : Outcome) (e : Entry) (at : Place) (round : Round) → IsOfStart (problem_of P) old.base o → IsStillAsked old.bank old.plan H (problem_of P)
      → IsEntryFor (problem_of P) (length a.tree.nodes) o e → Legal old.bank old.plan H e → history new.marks ≡ H ++ e ∷ [] → owns T ≡ e ∷ [] → NoFault T
      → place old.plan (history new.marks) P.session ≡ Some at → IsRoundAt old.bank old.plan (history new.marks) P at round → EndsRound old.bank old.plan P new.marks T round
  made_ends H T (Found form proved) e at round start still made legal grown own whole stands is =
      let x : Entry = Served P.session P.step made.0 form proved (length a.tree.nodes) in
      let hist : history new.marks ≡ H ++ x ∷ [] = grown ∙ ap (λ y. H ++ y ∷ []) made.2 in
      after_serving old.bank old.plan P new.marks T at stands round
      (λ j h. served_waits old.bank old.plan H P.session P.step made.0 form proved (length a.tree.nodes) P.step j (subst (λ l. LegalRun old.bank old.plan l) hist run) still.pending
      (subst (λ l. place old.plan l P.session ≡ Some (Pending j)) hist h))
      (inr (e, own, subst (λ y. IsServing P.session y) (sym made.2) refl)) whole is
  made_ends H T NoForm e at round start still made legal grown own whole stands is =
      let n = band_of (problem_of P).plan (problem_of P).theta in
      let x : Entry = SetAside P.session P.step n CauseNoForm (length a.tree.nodes) in
      let hist : history new.marks ≡ H ++ x ∷ [] = grown ∙ ap (λ y. H ++ y ∷ []) made in
      let lawful : Legal old.bank old.plan H x = subst (λ y. Legal old.bank old.plan H y) made legal in
      let now = aside_place old.bank old.plan H P.session P.step n CauseNoForm (length a.tree.nodes) (Pending P.step) (subst (λ l. LegalRun old.bank old.plan l) hist run) lawful still.pending in
      after_aside old.bank old.plan P new.marks T at stands round
      (subst (λ l. place old.plan l P.session ≡ Some (Pending P.step)) (sym hist) now)
      (λ k Q h. aside_then old.bank old.plan valid H P.session P.step n (length a.tree.nodes) CauseNoForm lawful k Q (subst (λ l. IsProblemOf old.bank old.plan l P.session k Q) hist h)) start
      (inr (e, own, subst (λ y. IsAside P.session y) (sym made) refl)) whole is
  made_ends H T NoneFound e at round start still made legal grown own whole stands is =
      let n = band_of (problem_of P).plan (problem_of P).theta in
      let x : Entry = SetAside P.session P.step n Spent (length a.tree.nodes) in
      let hist : history new.marks ≡ H ++ x ∷ [] = grown ∙ ap (λ y. H ++ y ∷ []) made in
      let lawful : Legal old.bank old.plan H x = subst (λ y. Legal old.bank old.plan H y) made legal in
      let now = aside_place old.bank old.plan H P.session P.step n Spent (length a.tree.nodes) (Pending P.step) (subst (λ l. LegalRun old.bank old.plan l) hist run) lawful still.pending in
      after_aside old.bank old.plan P new.marks T at stands round
      (subst (λ l. place old.plan l P.session ≡ Some (Pending P.step)) (sym hist) now)
      (λ k Q h. aside_then old.bank old.plan valid H P.session P.step n (length a.tree.nodes) Spent lawful k Q (subst (λ l. IsProblemOf old.bank old.plan l P.session k Q) hist h)) start.0
      (inr (e, own, subst (λ y. IsAside P.session y) (sym made) refl)) whole is

  done_ends : (at : Place) (round : Round) (T : List Mark) (o : Option Refusal) → None ≡ o → CameTo old.bank old.plan finds new.marks T o → place old.plan (history new.marks) P.session ≡ Some at
      → IsRoundAt old.bank old.plan (history new.marks) P at round → EndsRound old.bank old.plan P new.marks T round
  done_ends at round T o none (to_nothing says gap whole) stands is = absurd says
  done_ends at round T o none (to_entry H e says grown own whole) stands is = made_ends H T a.outcome e at round may.of_start says.0 says.1 says.2 grown own whole stands is
  done_ends at round T o none (to_refusal r says gap whole) stands is = absurd (cc)
  done_ends at round T o none (to_failure r fails gap why) stands is = absurd (cc)

  stale_ends : (at : Place) (aside : Bool) (round : Round) (T : List Mark) (o : Option Refusal) → Some (Stale at aside) ≡ o → CameTo old.bank old.plan finds new.marks T o
      → ((stands : place old.plan (history new.marks) P.session ≡ Some at) → IsRoundAt old.bank old.plan (history new.marks) P at round) → EndsRound old.bank old.plan P new.marks T round
  stale_ends at aside round T o some (to_nothing says gap whole) is = absurd (cc)
  stale_ends at aside round T o some (to_entry H e says grown own whole) is = absurd (cc)
  stale_ends at aside round T o some (to_refusal r says gap whole) is =
      let same_r : r ≡ Stale at aside = cc in
      let stale = subst (λ x. finds (history new.marks) (Rattle.exam_office.specs.Calls.refuse x)) same_r says in
      after_stale old.bank old.plan P new.marks T at stale.stands round aside stale gap whole (is stale.stands)
  stale_ends at aside round T o some (to_failure r fails gap why) is =
      let same_r : r ≡ Stale at aside = cc in
      absurd (subst (λ x. Fails old.bank old.plan (IsCommitted P.session) new.marks T x) same_r (fails (IsCommitted P.session) leads))

  fails_if : (r : Refusal) (T : List Mark) → ((at : Place) (aside : Bool) → r ≡ Stale at aside → ⊥) → finds (history new.marks) (Rattle.exam_office.specs.Calls.refuse r) → ⊥
  fails_if (Stale at aside) T never says = never at aside refl
  fails_if (NoSession count) T never says = says
  fails_if OtherBooking T never says = says
  fails_if (WrongStep k) T never says = says
  fails_if (Other k) T never says = says
  fails_if (BadResponse k) T never says = says
  fails_if (IsClosed at) T never says = says
  fails_if (OtherList session) T never says = says
  fails_if (NoItem count) T never says = says
  fails_if (SessionsFull count) T never says = says
  fails_if NoForm T never says = says
  fails_if NoneFound T never says = says
  fails_if (JournalFull size) T never says = says
  fails_if Disk T never says = says
  fails_if Memory T never says = says

  failed_ends : (q : Refusal) (T : List Mark) (o : Option Refusal) → Some q ≡ o → ((at : Place) (aside : Bool) → q ≡ Stale at aside → ⊥) → CameTo old.bank old.plan finds new.marks T o
      → EndsRound old.bank old.plan P new.marks T (Failed q)
  failed_ends q T o some never (to_nothing says gap whole) = absurd (cc)
  failed_ends q T o some never (to_entry H e says grown own whole) = absurd (cc)
  failed_ends q T o some never (to_refusal r says gap whole) =
      let same_r : r ≡ q = cc in
      absurd (fails_if q T never (subst (λ x. finds (history new.marks) (Rattle.exam_office.specs.Calls.refuse x)) same_r says))
  failed_ends q T o some never (to_failure r fails gap why) =
      let same_r : r ≡ q = cc in
      (subst (λ x. Fails old.bank old.plan (IsCommitted P.session) new.marks T x) same_r (fails (IsCommitted P.session) leads), gap, ⊎_elim (λ d. inl d) (λ t. inr t.1.0.pending) why)

  module _ (o : Option Refusal) (doubt : IsDoubtOf old.marks old.doubt) (calls : Calls finds old new o) where
    abbrev made_addition : Rattle.exam_hall.proofs.Calls.Addition old.bank old.plan finds old.marks new.marks o
    made_addition = addition old.bank old.plan finds old.marks new.marks o (calls_on old new finds o doubt calls)

    made_good : EndsGood old.bank old.plan old.base new.marks made_addition.added
    made_good =
        let T = made_addition.added in
        ends_good old.bank old.plan old.base new.marks old.marks T made_addition.is
        (marks_good old.bank old.plan old.base a fits T old.marks may (subst (λ l. LegalRun old.bank old.plan (history l)) made_addition.is run) made_addition.found)

    came_only : (T : List Mark) (x : Option Refusal) → CameTo old.bank old.plan finds new.marks T x → AddsOnly (IsEntryOf a) T
    came_only T x (to_nothing says gap whole) = none_only (IsEntryOf a) T gap
    came_only T x (to_entry H e says grown own whole) = one_only (IsEntryOf a) T e own says.1
    came_only T x (to_refusal r says gap whole) = none_only (IsEntryOf a) T gap
    came_only T x (to_failure r fails gap why) = none_only (IsEntryOf a) T gap

    made_only : AddsOnly (IsEntryOf a) made_addition.added
    made_only = came_only made_addition.added o made_addition.came

    abbrev made_adds : Adds old new
    made_adds = record { same = same; frame = frame; added = made_addition.added; is = made_addition.is; few = made_addition.few }

    pub done_ended : (at : Place) (round : Round) → None ≡ o → place old.plan (history new.marks) P.session ≡ Some at → IsRoundAt old.bank old.plan (history new.marks) P at round → Ended a old new round
    done_ended at round none stands is = record { adds = made_adds; ends = done_ends at round made_addition.added o none made_addition.came stands is; good = made_good; only = made_only }

    pub stale_ended : (at : Place) (aside : Bool) (round : Round) → Some (Stale at aside) ≡ o
        → ((stands : place old.plan (history new.marks) P.session ≡ Some at) → IsRoundAt old.bank old.plan (history new.marks) P at round) → Ended a old new round
    stale_ended at aside round some is = record { adds = made_adds; ends = stale_ends at aside round made_addition.added o some made_addition.came is; good = made_good; only = made_only }

    pub failed_ended : (q : Refusal) → Some q ≡ o → ((at : Place) (aside : Bool) → q ≡ Stale at aside → ⊥) → Ended a old new (Failed q)
    failed_ended q some never = record { adds = made_adds; ends = failed_ends q made_addition.added o some never made_addition.came; good = made_good; only = made_only }

    pub stale_there : (at : Place) (aside : Bool) → Some (Stale at aside) ≡ o → place old.plan (history new.marks) P.session ≡ Some at
    stale_there at aside some = by made_addition.added o some made_addition.came
      where
        by : (T : List Mark) (x : Option Refusal) → Some (Stale at aside) ≡ x → CameTo old.bank old.plan finds new.marks T x → place old.plan (history new.marks) P.session ≡ Some at
        by T x same_x (to_nothing says gap whole) = absurd (cc)
        by T x same_x (to_entry H e says grown own whole) = absurd (cc)
        by T x same_x (to_refusal r says gap whole) =
            let same_r : r ≡ Stale at aside = cc in
            (subst (λ y. finds (history new.marks) (Rattle.exam_office.specs.Calls.refuse y)) same_r says).stands
        by T x same_x (to_failure r fails gap why) =
            let same_r : r ≡ Stale at aside = cc in
            absurd (subst (λ y. Fails old.bank old.plan (IsCommitted P.session) new.marks T y) same_r (fails (IsCommitted P.session) leads))
