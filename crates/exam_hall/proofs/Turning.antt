-- From what a call does to an office to what a turn does to its history.
use Rattle.std.proofs.Common.{◌≡◌, ℕ, Bool, List, ◌++◌, refl, sym, ap, ◌∙◌, subst, arith, Option, Some, IfSome, Result}
use Rattle.certificate_model.specs.Relaxed.{Multipliers}
use Rattle.exam_office.specs.Warm.{FitsPlan}
use Rattle.std.proofs.lemmas.List.{map-append}
use Rattle.bank_tables.specs.Tables.{Tables}
use Rattle.form_model.specs.Plan.{Plan}
use Rattle.form_model.specs.Problem.{Problem as Model}
use Rattle.form_model.specs.Validity.{IsWellMade}
use Rattle.constraint_model.specs.declared.problem.Problem.{Problem}
use Rattle.constraint_model.specs.Views.{problem_of}
use Rattle.history_model.specs.declared.entry.Entry.{Entry}
use Rattle.history_model.specs.declared.place.Place.{Place}
use Rattle.history_model.specs.declared.place.Place.TheVariants.{Pending}
use Rattle.history_model.specs.declared.refusal.Refusal.{Refusal}
use Rattle.history_model.specs.declared.request.Request.{Request}
use Rattle.history_model.specs.declared.request.Reply.{Reply}
use Rattle.history_model.specs.declared.request.Reply.TheVariants as reply
use Rattle.history_model.specs.Legality.{LegalRun}
use Rattle.history_model.specs.Places.{place}
use Rattle.history_model.specs.SessionProblems.{IsProblemOf}
use Rattle.branch_bound.specs.Assembled.{Assembly}
use Rattle.turn_lock.specs.Histories.{Grows}
use Rattle.exam_office.specs.Commits.{MayBeCommitted}
use Rattle.exam_office.specs.declared.mark.Mark.{Mark}
use Rattle.exam_office.specs.Marks.{history}
use Rattle.exam_office.specs.Noting.{OpenedWith, noted, marks_of, opened_with}
use Rattle.exam_office.specs.Running.{HandedDisk, Running}
use Rattle.exam_hall.specs.declared.asking.FirstAnswer.{FirstAnswer}
use Rattle.exam_hall.specs.declared.asking.FirstAnswer.TheVariants.{Done, Waits}
use Rattle.exam_hall.specs.declared.committing.Round.{Round}
use Rattle.exam_office.specs.Leading.{IsWitnessFor}
use Rattle.exam_hall.specs.Leading.{IsSought, Leads, IsLed, IsNoWait, IsBegun, GoesOn, BeginsRequest}
use Rattle.exam_hall.specs.Rounds.{IsGoodFor, IsCommittable, IsEntryOf, AddsOnly, EndsRound, EndsGood, Commits}
use Rattle.exam_hall.specs.Turns.{Adds, Led, Ended, IsBegunAt, IsPlacedReply}
use Rattle.exam_hall.proofs.Leading.{legal_before}
use Rattle.exam_hall.proofs.Passes.{marks_noted, noted_number, noted_with}

abbrev setting : Tables → Plan → List ℕ → Bool → ℕ → HandedDisk → OpenedWith
setting b plan base tells identity disk = record { bank = b; plan = plan; base = base; tells = tells; identity = identity; disk = disk }

module _ {D : Type 0} (old new : Running D) (a : Adds old new) where
  abbrev was : OpenedWith
  was = opened_with old

  abbrev now : OpenedWith
  now = opened_with new

  -- no call changes what the office was opened with
  same_opening : now ≡ was
  same_opening =
      ap (λ x. setting x new.plan new.base now.tells now.identity now.disk) a.same.bank
      ∙ (ap (λ x. setting old.bank x new.base now.tells now.identity now.disk) a.same.plan
      ∙ (ap (λ x. setting old.bank old.plan x now.tells now.identity now.disk) a.same.base
      ∙ (ap (λ x. setting old.bank old.plan old.base x now.identity now.disk) a.frame.tells
      ∙ (ap (λ x. setting old.bank old.plan old.base was.tells x now.disk) a.frame.identity
      ∙ ap (λ x. setting old.bank old.plan old.base was.tells was.identity x) a.same.opened))))

  pub grows_by : Grows (noted was old.marks) (noted now new.marks)
  grows_by = (
    noted was a.added,
    ap (λ o. noted o new.marks) same_opening ∙ (ap (λ M. noted was M) a.is ∙ map-append (λ (m : Mark). record { mark = m; office = was }) old.marks a.added),
    (let n = noted_number was a.added in let f = a.few in omega arith),
  )

  pub goes_on : (makes : OpenedWith → List Mark → List Mark → Type 0) → LegalRun new.bank new.plan (history new.marks) → makes was new.marks a.added → GoesOn (noted was old.marks) (noted now new.marks) makes
  goes_on makes run made =
      let here : marks_of (noted now new.marks) ≡ new.marks = marks_noted now new.marks in
      record {
        office = was;
        from = ap (λ M. noted was M) (sym (marks_noted was old.marks));
        to = ap (λ o. noted o new.marks) same_opening ∙ ap (λ M. noted was M) (sym here);
        added = a.added;
        is = here ∙ (a.is ∙ ap (λ M. M ++ a.added) (sym (marks_noted was old.marks)));
        run = subst (λ M. LegalRun old.bank old.plan (history M)) (sym here) (legal_before old new a.same run);
        made = subst (λ M. makes was M a.added) (sym here) made;
      }

-- ---- the first turn
same_at : (p r : Place) → Some p ≡ Some r → p ≡ r
same_at p r e = cc

begun_so : (b : Tables) (plan : Plan) (q : Request) (S T : List Mark) (begun : FirstAnswer) (answer : Reply) → Leads b plan q S T answer → IsBegunAt b plan (history S) answer begun → IsBegun b plan q S T begun
begun_so b plan q S T (Done same) answer leads h = (subst (λ r. Leads b plan q S T r) (sym h.0) leads, subst IsNoWait (sym h.0) h.1)
begun_so b plan q S T (Waits started P warm) (reply.At session at fresh) leads h =
    let stands : place plan (history S) P.session ≡ Some at = subst (λ s. place plan (history S) s ≡ Some at) (sym h.0) leads.is_at.stands in
    let waits : at ≡ Pending P.step = same_at at (Pending P.step) (sym stands ∙ h.2.is_problem.pending) in (
      subst (λ x. IsLed plan q S T P.session x started) waits (subst (λ f. IsLed plan q S T P.session at f) (sym h.1) (subst (λ s. IsLed plan q S T s at fresh) (sym h.0) leads)),
      h.2,
      h.3,
    )
begun_so b plan q S T (Waits started P warm) (reply.Exposure exposure) leads h = absurd h
begun_so b plan q S T (Waits started P warm) (reply.Refused r) leads h = absurd h

pub first_made : {D : Type 0} (old new : Running D) (q : Request) (answer : Reply) (begun : FirstAnswer) → Led q old new answer → LegalRun new.bank new.plan (history new.marks)
    → IsBegunAt new.bank new.plan (history new.marks) answer begun → BeginsRequest q (noted (opened_with old) old.marks) (noted (opened_with new) new.marks) begun
first_made old new q answer begun led run h =
    let there : IsBegunAt old.bank old.plan (history new.marks) answer begun =
    subst (λ (p : Plan). IsBegunAt old.bank p (history new.marks) answer begun) led.adds.same.plan (subst (λ (b : Tables). IsBegunAt b new.plan (history new.marks) answer begun) led.adds.same.bank h) in
    goes_on old new led.adds (λ office S T. IsBegun office.bank office.plan q S T begun) run (begun_so old.bank old.plan q new.marks led.adds.added begun answer led.leads there)

-- what was sought is a witness for the office of the turn
pub sought_now : {D : Type 0} (office : Running D) (q : Request) (found : Result (List ℕ) Refusal) → IsSought (noted (opened_with office) office.marks) q found → IsWitnessFor office.bank office.plan q found
sought_now office q found h = subst (λ (x : OpenedWith). IsWitnessFor x.bank x.plan q found) (noted_with (opened_with office) office.marks h.one h.there) h.is_witness

-- ---- the turn of a commit
pub committable_now : {D : Type 0} (office : Running D) (made : Assembly) → IsCommittable (noted (opened_with office) office.marks) made → MayBeCommitted office.bank office.plan office.base (history office.marks) made
committable_now office made h =
    let o = opened_with office in
    let same : h.one.office ≡ o = noted_with o office.marks h.one h.there in
    subst (λ M. MayBeCommitted office.bank office.plan office.base (history M) made) (marks_noted o office.marks)
    (subst (λ (x : OpenedWith). MayBeCommitted x.bank x.plan x.base (history (marks_of (noted o office.marks))) made) same h.may)

pub good_now : {D : Type 0} (office : Running D) (made : Assembly) → IsCommittable (noted (opened_with office) office.marks) made → IsGoodFor office.base made
good_now office made h =
    let o = opened_with office in
    subst (λ (x : OpenedWith). IsGoodFor x.base made) (noted_with o office.marks h.one h.there) h.good

pub commit_made : {D : Type 0} (old new : Running D) (made : Assembly) (round : Round) → Ended made old new round → LegalRun new.bank new.plan (history new.marks)
    → Commits made (noted (opened_with old) old.marks) (noted (opened_with new) new.marks) round
commit_made old new made round e run = goes_on old new e.adds (λ office S T. EndsRound office.bank office.plan made.problem S T round × EndsGood office.bank office.plan office.base S T × AddsOnly (IsEntryOf made) T) run (e.ends, e.good, e.only)

-- ---- where the session is
pub placed_reply : {D : Type 0} (old new : Running D) (q : Request) (answer : Reply) → Led q old new answer → IsPlacedReply new.plan (history new.marks) answer
placed_reply old new q (reply.At session at fresh) led = subst (λ (p : Plan). place p (history new.marks) session ≡ Some at) (sym led.adds.same.plan) led.leads.is_at.stands
placed_reply old new q (reply.Exposure exposure) led = tt
placed_reply old new q (reply.Refused r) led = tt

pub waits_at : (b : Tables) (plan : Plan) (H : List Entry) (answer : Reply) (session : ℕ) (at : Place) (fresh : Bool) (P : Problem) → answer ≡ reply.At session at fresh
    → IsProblemOf b plan H session P.step (problem_of P) → IsWellMade (problem_of P)
    → (warm : Option Multipliers) → IfSome warm (FitsPlan b plan) → IsBegunAt b plan H answer (Waits fresh P warm)
waits_at b plan H answer session at fresh P is asked made warm fit =
    let same : P.session ≡ session = ap (λ (R : Model). R.session) asked.of_seat.is in
    subst (λ r. IsBegunAt b plan H r (Waits fresh P warm)) (sym is)
    (same, refl, record { is_problem = subst (λ s. IsProblemOf b plan H s P.step (problem_of P)) (sym same) asked; well_made = made }, fit)

pub done_at : (b : Tables) (plan : Plan) (H : List Entry) (answer : Reply) (session : ℕ) (at : Place) (fresh : Bool) → answer ≡ reply.At session at fresh → IsPlacedReply plan H answer
    → ((step : ℕ) → place plan H session ≡ Some (Pending step) → ⊥) → IsBegunAt b plan H answer (Done (reply.At session at fresh))
done_at b plan H answer session at fresh is placed never =
    let stands : place plan H session ≡ Some at = subst (λ r. IsPlacedReply plan H r) is placed in
    subst (λ r. IsBegunAt b plan H r (Done (reply.At session at fresh))) (sym is) (refl, λ step e. never step (stands ∙ ap (λ p. Some p) e))
