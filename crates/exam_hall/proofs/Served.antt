-- The turns of a request, one after another.
use Rattle.std.proofs.Common.{◌≡◌, ◌≢◌, ℕ, ◌+◌, ◌-◌, Bool, true, List, [], ◌∷◌, ◌++◌, length, refl, sym, ap, ◌∙◌, subst, inl, inr, ⊎_elim, arith, append_assoc, Some, Result, Ok, Err, IfOk, length-append}
use Rattle.std.proofs.lemmas.Bool.{cases_Bool, true≢false}
use Rattle.std.proofs.lemmas.List.{append-nil}
use Rattle.bank_tables.specs.Tables.{Tables}
use Rattle.form_model.specs.Plan.{Plan}
use Rattle.form_model.specs.Forms.{Meets}
use Rattle.form_model.specs.Problem.{Problem as Model}
use Rattle.bank_tables.specs.Items.{has}
use Rattle.constraint_model.specs.Views.{problem_of}
use Rattle.branch_bound.specs.Assembled.{Assembly}
use Rattle.branch_bound.specs.Assemblies.{IsAssembly}
use Rattle.branch_bound.specs.declared.outcome.Outcome.{Outcome}
use Rattle.branch_bound.specs.declared.outcome.Outcome.TheVariants as outcome
use Rattle.history_model.specs.SessionProblems.{IsProblemOf}
use Rattle.exam_office.specs.Commits.{IsEntryFor}
use Rattle.exam_office.specs.Serving.{IsAssembledFor}
use Rattle.exam_office.proofs.Assembling.{assembled_so}
use Rattle.constraint_model.specs.declared.problem.Problem.{Problem}
use Rattle.history_model.specs.declared.entry.Entry.{Entry}
use Rattle.history_model.specs.declared.place.Place.{Place}
use Rattle.history_model.specs.declared.place.Place.TheVariants.{Pending}
use Rattle.history_model.specs.declared.refusal.Refusal.{Refusal}
use Rattle.history_model.specs.declared.refusal.Refusal.TheVariants.{NoSession, OtherBooking, WrongStep, Other, BadResponse, IsClosed, Stale, OtherList, NoItem, SessionsFull, NoForm, NoneFound, JournalFull, Disk, Memory}
use Rattle.history_model.specs.Legality.{LegalRun}
use Rattle.history_model.specs.Places.{place}
use Rattle.turn_lock.specs.Histories.{StartsWith, places}
use Rattle.turn_lock.specs.Passes.{Known, TakesTurn}
use Rattle.exam_office.specs.declared.mark.Mark.{Mark}
use Rattle.exam_office.specs.declared.mark.Mark.TheVariants.{Fault}
use Rattle.exam_office.specs.Marks.{history}
use Rattle.exam_office.specs.Noting.{NotedMark, marks_of}
use Rattle.exam_hall.specs.Known.{HallKnown, marked, IsOf, IsOfficeOf, HasOpening}
use Rattle.exam_hall.specs.Went.{Went, taken}
use Rattle.exam_hall.specs.Parts.{owns, NoFault, AtMostOne, IsAside, IsServing, IsCommitted, Fails}
use Rattle.exam_hall.specs.Leading.{IsAsked, GoesOn}
use Rattle.exam_hall.specs.Good.{AreGoodAt}
use Rattle.exam_hall.specs.Rounds.{IsEntryOf, IsOfStep, AddsOnly, EndsRound, EndsGood, Commits, Rounds, Assembles}
use Rattle.exam_hall.specs.Used.{AddsOwn}
use Rattle.exam_hall.specs.declared.committing.Round.{Round}
use Rattle.exam_hall.specs.declared.committing.Round.TheVariants.{Placed, Again, Failed}
use Rattle.exam_office.proofs.Flags.{raised_stays}
use Rattle.exam_hall.proofs.Went.{went_once, went_nowhere, went_through, taken_once, taken_both, starts_through}
use Rattle.exam_hall.proofs.Passes.{turn_marked, opening_later, opening_office}
use Rattle.exam_hall.proofs.Calls.{cancel, none_faulty, both_faultless}
use Rattle.exam_hall.proofs.Moved.{history_append, owns_append, others_moved}
use Rattle.exam_hall.proofs.Owned.{none_only, both_good}

-- ---- one turn of a pass on the hall's office
module _ (h : HallKnown) (old new : Known NotedMark) (before : List NotedMark) (t : TakesTurn old new before) (is : IsOf old h)
    (makes : Tables → Plan → List ℕ → List Mark → List Mark → Type 0) (g : GoesOn before new.seen (λ office S T. makes office.bank office.plan office.base S T)) where
  abbrev turned : TakesTurn (marked old) (marked new) (marks_of before)
  turned = turn_marked old new before t

  abbrev pub here : List ℕ
  here = places (length (marks_of before)) (length turned.grows.0)

  pub went_here : Went (marked old) (marked new) (length (marks_of new.seen) ∷ []) here
  went_here = went_once (marked old) (marked new) (marks_of before) turned

  office_is : IsOfficeOf g.office h
  office_is =
      let o : HasOpening before h = opening_later before old.seen h t.begins is.opening in
      opening_office g.office (marks_of before) h (subst (λ l. HasOpening l h) g.from o)

  on_hall : (F : Tables → Plan → List ℕ → Type 0) → F g.office.bank g.office.plan g.office.base → F h.bank h.plan h.base
  on_hall F x = subst (λ s. F h.bank h.plan s) office_is.base (subst (λ p. F h.bank p g.office.base) office_is.plan (subst (λ b. F b g.office.plan g.office.base) office_is.bank x))

  pub legal_here : LegalRun h.bank h.plan (history (marks_of new.seen))
  legal_here = on_hall (λ b p s. LegalRun b p (history (marks_of new.seen))) g.run

  added_here : g.added ≡ taken (marks_of new.seen) here
  added_here = cancel (marks_of before) g.added turned.grows.0 (sym g.is ∙ turned.grows.1) ∙ sym (taken_once (marked old) (marked new) (marks_of before) turned)

  pub made_here : makes h.bank h.plan h.base (marks_of new.seen) (taken (marks_of new.seen) here)
  made_here = subst (λ T. makes h.bank h.plan h.base (marks_of new.seen) T) added_here (on_hall (λ b p s. makes b p s (marks_of new.seen) g.added) g.made)

  -- a turn that added nothing has no places
  pub no_places : taken (marks_of new.seen) here ≡ [] → here ≡ []
  no_places none =
      let n : length turned.grows.0 ≡ 0 = ap length (sym (taken_once (marked old) (marked new) (marks_of before) turned) ∙ none) in
      ap (λ k. places (length (marks_of before)) k) n

  -- the places of what the turn added are the last ones
  pub last_places : places (length (marks_of new.seen) - length (taken (marks_of new.seen) here)) (length (taken (marks_of new.seen) here)) ≡ here
  last_places =
      let S = marks_of new.seen in
      let M = marks_of before in
      let n : length (taken S here) ≡ length turned.grows.0 = ap length (taken_once (marked old) (marked new) M turned) in
      let whole : length S ≡ length M + length turned.grows.0 = ap length turned.grows.1 ∙ length-append M turned.grows.0 in
      let start : length S - length (taken S here) ≡ length M = omega arith in
      ap (λ k. places k (length (taken S here))) start ∙ ap (λ k. places (length M) k) n

-- ---- one assembly
-- what an outcome is made is of the step of its problem
step_of : (P : Model) (n : ℕ) (o : Outcome) (e : Entry) → IsEntryFor P n o e → IsOfStep P.step e
step_of P n (outcome.Found form proved) e h = subst (IsOfStep P.step) (sym h.2) refl
step_of P n outcome.NoForm e h = subst (IsOfStep P.step) (sym h) refl
step_of P n outcome.NoneFound e h = subst (IsOfStep P.step) (sym h) refl

module _ (h : HallKnown) (old new : Known NotedMark) (before : List NotedMark) (t : TakesTurn old new before) (is : IsOf old h) (a : Assembly) (round : Round) (g : Commits a before new.seen round) where
  abbrev makes_round : Tables → Plan → List ℕ → List Mark → List Mark → Type 0
  makes_round b p s S T = EndsRound b p a.problem S T round × EndsGood b p s S T × AddsOnly (IsEntryOf a) T

  abbrev at_here : List ℕ
  at_here = here h old new before t is makes_round g

  abbrev round_made : makes_round h.bank h.plan h.base (marks_of new.seen) (taken (marks_of new.seen) at_here)
  round_made = made_here h old new before t is makes_round g

  pub rounds_turn : Rounds h a.problem (marked old) (marked new) round
  rounds_turn = record {
    places = at_here;
    fronts = length (marks_of new.seen) ∷ [];
    went = went_here h old new before t is makes_round g;
    few = omega arith;
    legal = legal_here h old new before t is makes_round g;
    ends = round_made.0;
    of_step = λ e c. step_of (problem_of a.problem) (length a.tree.nodes) a.outcome e (round_made.2 e c);
    good = subst (λ ps. AreGoodAt h.bank h.plan h.base (marks_of new.seen) ps) (last_places h old new before t is makes_round g) round_made.1;
  }

  -- it adds nothing but the entry of what was assembled
  pub only_turn : AddsOwn (IsEntryOf a) (marked old) (marked new)
  only_turn = λ own own_is.
      let w = went_here h old new before t is makes_round g in
      subst (λ ps. AddsOnly (IsEntryOf a) (taken (marks_of new.seen) ps)) (sym (cancel old.mine own at_here (sym own_is ∙ w.own))) round_made.2

-- an assembly for which there was no memory
pub rounds_nowhere : (h : HallKnown) (P : Problem) (p : Known Mark) → IsAsked h.bank h.plan (history p.seen) P → LegalRun h.bank h.plan (history p.seen) → Rounds h P p p (Failed Memory)
rounds_nowhere h P p asked run = record {
  places = [];
  fronts = [];
  went = went_nowhere p;
  few = omega arith;
  legal = run;
  ends = (none_faulty, refl, inr asked.is_problem.pending);
  of_step = none_only (IsOfStep P.step) [] refl;
  good = λ k d lt. absurd (omega arith);
}

-- ---- up to two assemblies
pub fails_more : (b : Tables) (plan : Plan) (K L : Entry → Type 0) → ((e : Entry) → K e → L e) → (S A T : List Mark) (r : Refusal) → NoFault A → Fails b plan K S T r → Fails b plan L S (A ++ T) r
fails_more b plan K L w S A T (NoSession count) n h = absurd h
fails_more b plan K L w S A T OtherBooking n h = absurd h
fails_more b plan K L w S A T (WrongStep k) n h = absurd h
fails_more b plan K L w S A T (Other k) n h = absurd h
fails_more b plan K L w S A T (BadResponse k) n h = absurd h
fails_more b plan K L w S A T (IsClosed at) n h = absurd h
fails_more b plan K L w S A T (Stale at flag) n h = absurd h
fails_more b plan K L w S A T (OtherList session) n h = absurd h
fails_more b plan K L w S A T (NoItem count) n h = absurd h
fails_more b plan K L w S A T (SessionsFull count) n h = absurd h
fails_more b plan K L w S A T NoForm n h = absurd h
fails_more b plan K L w S A T NoneFound n h = absurd h
fails_more b plan K L w S A T (JournalFull l) n h = ((h.0.0, w h.0.0 h.0.1, h.0.2), both_faultless A T n h.1)
fails_more b plan K L w S A T Disk n h = record {
  front = h.front;
  before = A ++ h.before;
  entry = h.entry;
  last = h.last;
  added = ap (λ l. A ++ l) h.added ∙ sym (append_assoc A h.before (Fault h.entry ∷ []));
  cause = ⊎_elim (λ d. inl d) (λ p. inr (w h.entry p.0, p.1)) h.cause;
}
fails_more b plan K L w S A T Memory n h = both_faultless A T n h

-- the flag of a problem of the same step stays raised
flag_through : (b : Tables) (plan : Plan) (F S : List Mark) (s step : ℕ) (P Q : Model) → StartsWith S F → LegalRun b plan (history S) → IsProblemOf b plan (history F) s step P → IsProblemOf b plan (history S) s step Q → P.aside ≡ true → Q.aside ≡ true
flag_through b plan F S s step P Q h run one other flag =
    let is : history S ≡ history F ++ history h.0 = ap history h.1 ∙ history_append F h.0 in
    raised_stays b plan (history F) (history h.0) s step P Q (subst (λ l. LegalRun b plan l) is run) one (subst (λ l. IsProblemOf b plan l s step Q) is other) flag

-- so it changes once
no_third : (p a b : Bool) → (p ≡ true → a ≡ true) → (a ≡ true → b ≡ true) → a ≢ p → b ≢ a → ⊥
no_third p a b one two n m = ⊎_elim
    (λ t. m (two t ∙ sym t))
    (λ f. ⊎_elim
    (λ t. true≢false (sym (one t) ∙ f))
    (λ g. n (f ∙ sym g))
    (cases_Bool p))
    (cases_Bool a)

module _ (h : HallKnown) (P : Problem) (old : Known Mark) (asked : IsAsked h.bank h.plan (history old.seen) P) (run : LegalRun h.bank h.plan (history old.seen)) where
  pub once_done : (new : Known Mark) (at : Place) → Rounds h P old new (Placed at) → Assembles h P.session old new (Ok at)
  once_done new at r = record {
    places = r.places;
    fronts = r.fronts;
    went = r.went;
    few = (let f = r.few in omega arith);
    legal = r.legal;
    serves = record {
      stands = r.ends.stands;
      aside = [];
      serving = owns (taken new.seen r.places);
      is = refl;
      one_aside = inl refl;
      one_serving = r.ends.one;
      moved = λ step e.
          (let o = r.ends.other step e in
          others_moved h.bank h.plan P.session old.seen new.seen r.places P.step step r.went.seen run r.legal (inl o.1) asked.is_problem.pending (r.ends.stands ∙ ap (λ p. Some p) e) o.0);
      no_fault = r.ends.no_fault;
    };
    good = r.good;
  }

  pub once_failed : (new : Known Mark) (refusal : Refusal) → Rounds h P old new (Failed refusal) → Assembles h P.session old new (Err refusal)
  once_failed new refusal r = record {
    places = r.places;
    fronts = r.fronts;
    went = r.went;
    few = (let f = r.few in omega arith);
    legal = r.legal;
    serves = (r.ends.0, inl r.ends.1, record { step = P.step; waited = asked.is_problem.pending; waits = r.ends.2 });
    good = r.good;
  }

  module _ (Q : Problem) (mid new : Known Mark) (r : Rounds h P old mid (Again Q)) where
    pub twice_done : (at : Place) → Rounds h Q mid new (Placed at) → Assembles h P.session old new (Ok at)
    twice_done at q =
        let same = r.ends.session in
        let both = taken_both old mid new r.fronts q.fronts r.places q.places r.went q.went in
        let T = taken mid.seen r.places in
        let U = taken new.seen q.places in
        let own : owns (taken new.seen (r.places ++ q.places)) ≡ owns T ++ owns U = ap owns both ∙ owns_append T U in
        let stands : place h.plan (history new.seen) P.session ≡ Some at = subst (λ s. place h.plan (history new.seen) s ≡ Some at) same q.ends.stands in
        record {
          places = r.places ++ q.places;
          fronts = r.fronts ++ q.fronts;
          went = went_through old mid new r.fronts q.fronts r.places q.places r.went q.went;
          few = (let f = r.few in let g = q.few in let l = length-append r.fronts q.fronts in omega arith);
          legal = q.legal;
          serves = record {
            stands = stands;
            aside = owns T;
            serving = owns U;
            is = own;
            one_aside = r.ends.one;
            one_serving = subst (λ s. AtMostOne (IsServing s) (owns U)) same q.ends.one;
            moved = λ step e.
                (let o = q.ends.other step e in
                let asides : AtMostOne (IsAside P.session) (owns (taken new.seen (r.places ++ q.places))) =
                subst (λ l. AtMostOne (IsAside P.session) l) (sym (own ∙ (ap (λ l. owns T ++ l) o.1 ∙ append-nil (owns T)))) r.ends.one in
                others_moved h.bank h.plan P.session old.seen new.seen (r.places ++ q.places) P.step step (starts_through old.seen mid.seen new.seen r.went.seen q.went.seen) run q.legal asides asked.is_problem.pending
                (stands ∙ ap (λ p. Some p) e) (λ s. o.0 (s ∙ sym r.ends.step)));
            no_fault = subst NoFault (sym both) (both_faultless T U r.ends.no_fault q.ends.no_fault);
          };
          good = both_good h.bank h.plan h.base old mid new r.fronts q.fronts r.places q.places r.went q.went r.good q.good;
        }

    pub twice_failed : (refusal : Refusal) → Rounds h Q mid new (Failed refusal) → Assembles h P.session old new (Err refusal)
    twice_failed refusal q =
        let both = taken_both old mid new r.fronts q.fronts r.places q.places r.went q.went in
        let T = taken mid.seen r.places in
        let U = taken new.seen q.places in
        let own : owns (taken new.seen (r.places ++ q.places)) ≡ owns T = ap owns both ∙ (owns_append T U ∙ (ap (λ l. owns T ++ l) q.ends.1 ∙ append-nil (owns T))) in
        record {
          places = r.places ++ q.places;
          fronts = r.fronts ++ q.fronts;
          went = went_through old mid new r.fronts q.fronts r.places q.places r.went q.went;
          few = (let f = r.few in let g = q.few in let l = length-append r.fronts q.fronts in omega arith);
          legal = q.legal;
          serves = (
            subst (λ l. Fails h.bank h.plan (IsCommitted P.session) new.seen l refusal) (sym both)
                (fails_more h.bank h.plan (IsCommitted P.session) (IsCommitted P.session) (λ e k. k) new.seen T U refusal r.ends.no_fault
                (subst (λ s. Fails h.bank h.plan (IsCommitted s) new.seen U refusal) r.ends.session q.ends.0)),
            subst (λ l. AtMostOne (IsAside P.session) l) (sym own) r.ends.one,
            record {
              step = P.step;
              waited = asked.is_problem.pending;
              waits = ⊎_elim
                  (λ d. inl d)
                  (λ e. inr (subst (λ s. place h.plan (history new.seen) s ≡ Some (Pending P.step)) r.ends.session (subst (λ k. place h.plan (history new.seen) Q.session ≡ Some (Pending k)) r.ends.step e)))
                  q.ends.2;
            },
          );
          good = both_good h.bank h.plan h.base old mid new r.fronts q.fronts r.places q.places r.went q.went r.good q.good;
        }

    pub never_thrice : (R : Problem) → Rounds h Q mid new (Again R) → ⊥
    never_thrice R q =
        let same = r.ends.session in
        let also = q.ends.session ∙ same in
        let one = asked.is_problem in
        let two : IsProblemOf h.bank h.plan (history mid.seen) P.session P.step (problem_of Q) =
        subst (λ s. IsProblemOf h.bank h.plan (history mid.seen) s P.step (problem_of Q)) same
        (subst (λ k. IsProblemOf h.bank h.plan (history mid.seen) Q.session k (problem_of Q)) r.ends.step r.ends.asked.is_problem) in
        let three : IsProblemOf h.bank h.plan (history new.seen) P.session P.step (problem_of R) =
        subst (λ s. IsProblemOf h.bank h.plan (history new.seen) s P.step (problem_of R)) also
        (subst (λ k. IsProblemOf h.bank h.plan (history new.seen) R.session k (problem_of R)) (q.ends.step ∙ r.ends.step) q.ends.asked.is_problem) in
        no_third P.aside Q.aside R.aside
        (flag_through h.bank h.plan old.seen mid.seen P.session P.step (problem_of P) (problem_of Q) r.went.seen r.legal one two)
        (flag_through h.bank h.plan mid.seen new.seen P.session P.step (problem_of Q) (problem_of R) q.went.seen q.legal two three)
        r.ends.aside q.ends.aside

-- ---- an assembly
-- what was assembled for a problem with its plan's budget and the base as the hint
pub assembled_here : (h : HallKnown) → Meets h.bank h.plan (has h.base) → (P : Problem) (a : Assembly) (n : ℕ) → a.problem ≡ P → a.budget ≡ n → n ≡ P.spec.now.budget → IsAssembly (problem_of P) (Some (has h.base)) n a.tree a.outcome
    → (H : List Entry) → LegalRun h.bank h.plan H → IsProblemOf h.bank h.plan H P.session P.step (problem_of P) → IsAssembledFor h.bank h.plan h.base H P.session a
assembled_here h meets P a n same budget number is H run asked =
    let plan_is : P.spec.now ≡ h.plan = ap (λ (R : Model). R.plan) asked.of_seat.is in
    assembled_so h.bank h.plan h.base H P.session run meets a
    (subst (λ (R : Problem). IsProblemOf h.bank h.plan H P.session R.step (problem_of R)) (sym same) asked)
    (budget ∙ (number ∙ ap (λ (p : Plan). p.budget) plan_is))
    n
    (subst (λ (R : Problem). IsAssembly (problem_of R) (Some (has h.base)) n a.tree a.outcome) (sym same) is)

pub assembled_result : {E : Type 0} (h : HallKnown) → Meets h.bank h.plan (has h.base) → (P Q : Problem) → Q ≡ P → (n : ℕ) → n ≡ P.spec.now.budget → (r : Result Assembly E)
    → IfOk r (λ a. a.problem ≡ Q) → IfOk r (λ a. a.budget ≡ n) → IfOk r (λ a. IsAssembly (problem_of Q) (Some (has h.base)) n a.tree a.outcome)
    → IfOk r (λ a. (H : List Entry) → LegalRun h.bank h.plan H → IsProblemOf h.bank h.plan H P.session P.step (problem_of P) → IsAssembledFor h.bank h.plan h.base H P.session a)
assembled_result h meets P Q same n number (Ok a) problem budget is =
    λ H run asked. assembled_here h meets P a n (problem ∙ same) budget number (subst (λ (R : Problem). IsAssembly (problem_of R) (Some (has h.base)) n a.tree a.outcome) same is) H run asked
assembled_result h meets P Q same n number (Err e) problem budget is = tt
