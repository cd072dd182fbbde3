-- What was assembled ahead is committed in place of an assembly.
use Rattle.std.proofs.Common.{◌≡◌, ◌⊎◌, ℕ, Bool, List, [], Option, Some, None, IfSome, Result, Ok, Err, IfOk, sym, ap, ◌∙◌, subst, inl, inr, ⊎_elim}
use Rattle.std.specs.Option.{option_map}
use Rattle.std.proofs.lemmas.List.{append-nil}
use Rattle.bank_tables.specs.Items.{has}
use Rattle.bank_tables.specs.Tables.{Tables}
use Rattle.form_model.specs.Plan.{Plan}
use Rattle.form_model.specs.Problem.{Problem as Model}
use Rattle.form_model.specs.Forms.{Meets}
use Rattle.certificate_model.specs.Relaxed.{Multipliers}
use Rattle.certificate_model.specs.Verdicts.{NamesOnlySides}
use Rattle.constraint_model.specs.declared.problem.Problem.{Problem}
use Rattle.constraint_model.specs.Views.{problem_of}
use Rattle.history_model.specs.declared.entry.Entry.{Entry}
use Rattle.history_model.specs.declared.place.Place.TheVariants.{Pending}
use Rattle.history_model.specs.Legality.{LegalRun}
use Rattle.history_model.specs.Places.{place}
use Rattle.history_model.specs.SessionProblems.{IsProblemOf}
use Rattle.turn_lock.specs.Passes.{Known}
use Rattle.branch_bound.specs.Assembled.{Assembly, KeepsPromise}
use Rattle.branch_bound.specs.Assemblies.{IsNoWorseThan}
use Rattle.exam_office.specs.declared.mark.Mark.{Mark}
use Rattle.exam_office.specs.Marks.{history}
use Rattle.exam_office.specs.Serving.{IsAssembledFor}
use Rattle.exam_office.specs.Warm.{FitsPlan}
use Rattle.exam_office.proofs.Assembling.{assembled_so}
use Rattle.exam_hall.specs.Known.{HallKnown}
use Rattle.exam_hall.specs.Went.{taken}
use Rattle.exam_hall.specs.Parts.{owns, AtMostOne, IsAside, IsServing, IsCommitted, Fails}
use Rattle.exam_hall.specs.Leading.{IsAsked}
use Rattle.exam_hall.specs.Prepared.{IsPrepared, IsSameProblem, FitsFor}
use Rattle.exam_hall.specs.Rounds.{IsOfStep, AddsOnly, EndsRound, Rounds}
use Rattle.exam_hall.specs.declared.committing.Round.{Round}
use Rattle.exam_hall.specs.declared.committing.Round.TheVariants.{Placed, Again, Failed}

-- ---- two problems of one bank and plan that have the rest in common are one
abbrev made_of : Tables → Plan → ℕ → ℕ → Bool → List ℕ → List ℕ → ℕ → Option ℕ → Option (List ℕ) → Model
made_of b plan session step aside given barred theta last start =
    record { bank = b; plan = plan; session = session; step = step; aside = aside; given = has given; barred = has barred; theta = theta; last = last; start = option_map has start }

pub one_problem_of : (P Q : Problem) → P.bank.now ≡ Q.bank.now → P.spec.now ≡ Q.spec.now → IsSameProblem P Q → problem_of P ≡ problem_of Q
one_problem_of P Q bank plan same =
    ap (λ x. made_of x P.spec.now P.session P.step P.aside P.given P.barred P.theta P.last P.start) bank
    ∙ (ap (λ x. made_of Q.bank.now x P.session P.step P.aside P.given P.barred P.theta P.last P.start) plan
    ∙ (ap (λ x. made_of Q.bank.now Q.spec.now x P.step P.aside P.given P.barred P.theta P.last P.start) same.session
    ∙ (ap (λ x. made_of Q.bank.now Q.spec.now Q.session x P.aside P.given P.barred P.theta P.last P.start) same.step
    ∙ (ap (λ x. made_of Q.bank.now Q.spec.now Q.session Q.step x P.given P.barred P.theta P.last P.start) same.aside
    ∙ (ap (λ x. made_of Q.bank.now Q.spec.now Q.session Q.step Q.aside x P.barred P.theta P.last P.start) same.given
    ∙ (ap (λ x. made_of Q.bank.now Q.spec.now Q.session Q.step Q.aside Q.given x P.theta P.last P.start) same.barred
    ∙ (ap (λ x. made_of Q.bank.now Q.spec.now Q.session Q.step Q.aside Q.given Q.barred x P.last P.start) same.theta
    ∙ (ap (λ x. made_of Q.bank.now Q.spec.now Q.session Q.step Q.aside Q.given Q.barred Q.theta x P.start) same.last
    ∙ ap (λ x. made_of Q.bank.now Q.spec.now Q.session Q.step Q.aside Q.given Q.barred Q.theta Q.last x) same.start))))))))

-- ---- what is prepared fits the problem that the first turn found
module _ (h : HallKnown) (meets : Meets h.bank h.plan (has h.base)) (H : List Entry) (run : LegalRun h.bank h.plan H) (P : Problem) (asked : IsAsked h.bank h.plan H P) where
  pub prepared_fits : (a : Assembly) → IsPrepared h.bank h.plan h.base a → IsSameProblem a.problem P → KeepsPromise a → FitsFor h.bank h.plan h.base H P a
  prepared_fits a prepared same keeps =
      let bank : P.bank.now ≡ h.bank = ap (λ (R : Model). R.bank) asked.is_problem.of_seat.is in
      let plan : P.spec.now ≡ h.plan = ap (λ (R : Model). R.plan) asked.is_problem.of_seat.is in
      let one : problem_of a.problem ≡ problem_of P = one_problem_of a.problem P (prepared.of_bank ∙ sym bank) (prepared.of_plan ∙ sym plan) same in
      let M : Model = problem_of a.problem in
      let here : IsProblemOf h.bank h.plan H P.session M.step M = subst (λ (R : Model). IsProblemOf h.bank h.plan H P.session R.step R) (sym one) asked.is_problem in
      let hint : IsNoWorseThan M (Some (has h.base)) a.outcome = subst (λ o. IsNoWorseThan M (option_map has o) a.outcome) prepared.hint keeps.hint in
      let so : IsAssembledFor h.bank h.plan h.base H P.session a =
      assembled_so h.bank h.plan h.base H P.session run meets a here prepared.budget a.budget
      (record { shown = keeps.shown; firm = keeps.firm; start = keeps.start; hint = hint; pruned = keeps.pruned }) in
      record {
        same = same;
        may = record {
          before = H;
          since = [];
          is = sym (append-nil H);
          asked = subst (λ s. IsProblemOf h.bank h.plan H s M.step M) (sym same.session) here;
          budget = prepared.budget;
          of_start = so.of_start;
        };
        good = record { firm = keeps.firm; start = keeps.start; hint = hint };
      }

pub fitting_so : (h : HallKnown) → Meets h.bank h.plan (has h.base) → (P : Problem) (prepared found : Option Assembly) → IfSome prepared (IsPrepared h.bank h.plan h.base)
    → IfSome found (λ a. prepared ≡ Some a) → IfSome found (λ a. IsSameProblem a.problem P) → IfSome found KeepsPromise
    → IfSome found (λ a. (H : List Entry) → LegalRun h.bank h.plan H → IsAsked h.bank h.plan H P → FitsFor h.bank h.plan h.base H P a)
fitting_so h meets P prepared None is_prepared made same keeps = tt
fitting_so h meets P prepared (Some a) is_prepared made same keeps = λ H run asked.
    prepared_fits h meets H run P asked a (subst (λ o. IfSome o (IsPrepared h.bank h.plan h.base)) made is_prepared) same keeps

pub fits_now : (h : HallKnown) (P : Problem) (H : List Entry) (found : Option Assembly) → LegalRun h.bank h.plan H → IsAsked h.bank h.plan H P
    → IfSome found (λ a. (G : List Entry) → LegalRun h.bank h.plan G → IsAsked h.bank h.plan G P → FitsFor h.bank h.plan h.base G P a)
    → IfSome found (FitsFor h.bank h.plan h.base H P)
fits_now h P H None run asked fits = tt
fits_now h P H (Some a) run asked fits = fits H run asked

-- ---- a round for a problem is one for the same problem
ends_same : (b : Tables) (plan : Plan) (P Q : Problem) → IsSameProblem P Q → (S T : List Mark) (round : Round) → EndsRound b plan P S T round → EndsRound b plan Q S T round
ends_same b plan P Q same S T (Placed at) e = record {
  stands = subst (λ s. place plan (history S) s ≡ Some at) same.session e.stands;
  one = subst (λ s. AtMostOne (IsServing s) (owns T)) same.session e.one;
  no_fault = e.no_fault;
  other = λ step h. (let o = e.other step h in ((λ x. o.0 (x ∙ sym same.step)), o.1));
}
ends_same b plan P Q same S T (Again next) e = record {
  asked = e.asked;
  session = e.session ∙ same.session;
  step = e.step ∙ same.step;
  aside = λ x. e.aside (x ∙ sym same.aside);
  one = subst (λ s. AtMostOne (IsAside s) (owns T)) same.session e.one;
  no_fault = e.no_fault;
}
ends_same b plan P Q same S T (Failed r) e = (
  subst (λ s. Fails b plan (IsCommitted s) S T r) same.session e.0,
  e.1,
  ⊎_elim
      (λ d. inl d)
      (λ p. inr (subst (λ s. place plan (history S) s ≡ Some (Pending Q.step)) same.session (subst (λ k. place plan (history S) P.session ≡ Some (Pending k)) same.step p)))
      e.2,
)

pub rounds_same : (h : HallKnown) (P Q : Problem) → IsSameProblem P Q → (old new : Known Mark) (round : Round) → Rounds h P old new round → Rounds h Q old new round
rounds_same h P Q same old new round r = record {
  places = r.places;
  fronts = r.fronts;
  went = r.went;
  few = r.few;
  legal = r.legal;
  ends = ends_same h.bank h.plan P Q same new.seen (taken new.seen r.places) round r.ends;
  of_step = subst (λ k. AddsOnly (IsOfStep k) (taken new.seen r.places)) same.step r.of_step;
  good = r.good;
}

-- ---- what is assembled for a problem of the hall's bank and plan is prepared
pub made_prepared : {E : Type 0} (h : HallKnown) (P Q : Problem) → Q ≡ P → (n : ℕ) → n ≡ P.spec.now.budget → (r : Result Assembly E)
    → IfOk r (λ a. a.problem ≡ Q) → IfOk r (λ a. a.budget ≡ n) → IfOk r (λ a. a.hint ≡ Some h.base)
    → IfOk r (λ a. P.bank.now ≡ h.bank → P.spec.now ≡ h.plan → IsPrepared h.bank h.plan h.base a)
made_prepared h P Q same n number (Ok a) problem budget hint = λ bank plan.
    record {
      of_bank = ap (λ (R : Problem). R.bank.now) (problem ∙ same) ∙ bank;
      of_plan = ap (λ (R : Problem). R.spec.now) (problem ∙ same) ∙ plan;
      budget = budget ∙ (number ∙ ap (λ (p : Plan). p.budget) plan);
      hint = hint;
    }
made_prepared h P Q same n number (Err e) problem budget hint = tt

pub prepared_so : {E : Type 0} (h : HallKnown) (P : Problem) → P.bank.now ≡ h.bank → P.spec.now ≡ h.plan → (r : Result Assembly E)
    → IfOk r (λ a. P.bank.now ≡ h.bank → P.spec.now ≡ h.plan → IsPrepared h.bank h.plan h.base a) → IfOk r (IsPrepared h.bank h.plan h.base)
prepared_so h P bank plan (Ok a) prepared = prepared bank plan
prepared_so h P bank plan (Err e) prepared = tt

pub fits_given : (h : HallKnown) (P : Model) → P.bank ≡ h.bank → P.plan ≡ h.plan → (warm : Option Multipliers) → IfSome warm (FitsPlan h.bank h.plan) → IfSome warm (NamesOnlySides P)
fits_given h P bank plan None fits = tt
fits_given h P bank plan (Some v) fits = fits P bank plan
