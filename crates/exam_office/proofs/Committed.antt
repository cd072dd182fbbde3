-- What was assembled may follow while the session still waits for it.
use Rattle.std.proofs.Common.{◌≡◌, ℕ, Bool, true, false, List, [], ◌∷◌, ◌++◌, length, Option, Some, None, refl, sym, ap, ◌∙◌, subst, append_assoc}
use Rattle.std.proofs.lemmas.List.{append-nil}
use Rattle.bank_tables.specs.Items.{has}
use Rattle.bank_tables.specs.Tables.{Tables}
use Rattle.form_model.specs.Plan.{Plan, band_of}
use Rattle.form_model.specs.Problem.{Problem}
use Rattle.form_model.specs.Validity.{IsPlanFor}
use Rattle.certificate_model.specs.ProofTrees.{ProofTree}
use Rattle.certificate_model.specs.declared.verdict.Verdict.TheVariants.{Optimal, Partial}
use Rattle.certificate_model.specs.declared.verdict.Verdict.TheVariants as verdict
use Rattle.constraint_model.specs.Views.{problem_of}
use Rattle.history_model.specs.declared.entry.Entry.{Entry}
use Rattle.exam_session.specs.Ledgers.{Ledger, IsExamination}
use Rattle.std.proofs.lemmas.List.Folds.{list_any-append}
use Rattle.history_model.specs.declared.place.Place.{Place}
use Rattle.history_model.specs.declared.place.Place.TheVariants.{Pending}
use Rattle.history_model.specs.Entries.{starts_session, is_started}
use Rattle.history_model.proofs.Standing.{there}
use Rattle.history_model.proofs.JudgingLaws.{one_problem}
use Rattle.answer_journal.specs.Journal.{JournalState}
use Rattle.exam_office.specs.declared.mark.Mark.{Mark}
use Rattle.exam_office.specs.Marks.{history}
use Rattle.exam_office.specs.Keeping.{IsKept}
use Rattle.exam_office.specs.Running.{HandedDisk}
use Rattle.exam_office.specs.Writing.{IsMended, sure, dropped, kept}
use Rattle.exam_office.proofs.Marking.{history-adopted}
use Rattle.history_model.specs.Places.{place}
use Rattle.history_model.specs.Legality.{LegalRun}
use Rattle.history_model.specs.declared.claim.Claim.TheVariants.{BudgetIsSpent}
use Rattle.history_model.specs.Judging.{MayFollow, Shows, claim_of_mark}
use Rattle.history_model.specs.SessionProblems.{IsProblemOf}
use Rattle.branch_bound.specs.Assembled.{Assembly}
use Rattle.branch_bound.specs.Assemblies.{IsShown, IsFirmOutcome}
use Rattle.branch_bound.specs.declared.outcome.Outcome.{Outcome}
use Rattle.branch_bound.specs.declared.outcome.Outcome.TheVariants.{Found, NoForm, NoneFound}
use Rattle.exam_office.specs.Laws.{MayBeCommittedNow}
use Rattle.exam_office.specs.Commits.{IsStillAsked, IsEntryFor, IsOfStart, MayBeCommitted}
use Rattle.exam_office.proofs.Flags.{problem_now}

-- what may be committed after a history may be after any that begins with it
pub still_may : (b : Tables) (plan : Plan) (base : List ℕ) (H E : List Entry) (a : Assembly) → MayBeCommitted b plan base H a → MayBeCommitted b plan base (H ++ E) a
still_may b plan base H E a m = record { before = m.before; since = m.since ++ E; is = ap (λ (K : List Entry). K ++ E) m.is ∙ append_assoc m.before m.since E; asked = m.asked; budget = m.budget; of_start = m.of_start }

-- a session that waits has this problem, under its own number
pub may_be_committed : MayBeCommittedNow
may_be_committed b plan base H session a asked budget of_start =
    let P = problem_of a.problem in
    let number : session ≡ P.session = sym (ap (λ (Q : Problem). Q.session) asked.of_seat.is) in
    record { before = H; since = []; is = sym (append-nil H); asked = subst (λ (n : ℕ). IsProblemOf b plan H n P.step P) number asked; budget = budget; of_start = of_start }

-- the problem is that of the session now
pub asked_now : (b : Tables) (plan : Plan) (base : List ℕ) (H : List Entry) (a : Assembly) → LegalRun b plan H → MayBeCommitted b plan base H a → IsStillAsked b plan H (problem_of a.problem) → IsProblemOf b plan H (problem_of a.problem).session (problem_of a.problem).step (problem_of a.problem)
asked_now b plan base H a run m asked =
    let P = problem_of a.problem in
    let G = m.before in
    let E = m.since in
    let run1 : LegalRun b plan (G ++ E) = subst (LegalRun b plan) m.is run in
    let still : IsStillAsked b plan (G ++ E) P = subst (λ (K : List Entry). IsStillAsked b plan K P) m.is asked in
    subst (λ (K : List Entry). IsProblemOf b plan K P.session P.step P) (sym m.is)
    (problem_now b plan G E P.session P.step P run1 m.asked still.pending still.aside)

-- the tree shows what the entry claims
shows_form : (P : Problem) (T : ProofTree) (budget : ℕ) (form : List ℕ) (proved : Bool) → IsShown P T budget (Found form proved) → Shows P (Some (has form)) budget (length T.nodes) (claim_of_mark proved) (Some T)
shows_form P T budget form true shown = record { has_tree = record { number = refl; spent = tt }; verdict = Optimal; has_verdict = shown; asked = refl }
shows_form P T budget form false shown = record { has_tree = record { number = refl; spent = shown.spent }; verdict = Partial shown.open_leaves; has_verdict = shown.verdict; asked = tt }

pub may_commit : (b : Tables) (plan : Plan) (base : List ℕ) (H : List Entry) (P : Problem) (T : ProofTree) (budget : ℕ) (outcome : Outcome) (entry : Entry)
    → IsProblemOf b plan H P.session P.step P → budget ≡ plan.budget → IsShown P T budget outcome → IsFirmOutcome P outcome → IsOfStart P base outcome → IsEntryFor P (length T.nodes) outcome entry → MayFollow b plan H entry (Some T)
may_commit b plan base H P T budget (Found form proved) entry asked is shown firm start e =
    subst (λ (x : Entry). MayFollow b plan H x (Some T)) (sym e.2)
    (record { problem = P; is_problem = asked; is_form = firm.form; next = e.1; shows = subst (λ (n : ℕ). Shows P (Some (has form)) n (length T.nodes) (claim_of_mark proved) (Some T)) is (shows_form P T budget form proved shown) })
may_commit b plan base H P T budget NoForm entry asked is shown firm start e =
    let plan_is : P.plan ≡ plan = ap (λ (Q : Problem). Q.plan) asked.of_seat.is in
    subst (λ (x : Entry). MayFollow b plan H x (Some T)) (sym e)
    (record {
      problem = P;
      is_problem = asked;
      band_is = ap (λ (p : Plan). band_of p P.theta) plan_is;
      not_aside = start;
      shows = record { has_tree = record { number = refl; spent = tt }; verdict = verdict.NoForm; has_verdict = shown; asked = refl };
    })
may_commit b plan base H P T budget NoneFound entry asked is shown firm start e =
    let shows : Shows P None budget (length T.nodes) BudgetIsSpent (Some T) = record { has_tree = record { number = refl; spent = shown.spent }; verdict = Partial shown.open_leaves; has_verdict = shown.verdict; asked = tt } in
    let plan_is : P.plan ≡ plan = ap (λ (Q : Problem). Q.plan) asked.of_seat.is in
    subst (λ (x : Entry). MayFollow b plan H x (Some T)) (sym e)
    (record {
      problem = P;
      is_problem = asked;
      band_is = ap (λ (p : Plan). band_of p P.theta) plan_is;
      not_aside = start.0;
      shows = subst (λ (n : ℕ). Shows P None n (length T.nodes) BudgetIsSpent (Some T)) is shows;
    })

-- ---- what a commit asks of its book
pub was_started : (b : Tables) (plan : Plan) (base : List ℕ) (H : List Entry) (a : Assembly) → MayBeCommitted b plan base H a → is_started H (problem_of a.problem).session ≡ true
was_started b plan base H a m =
    let s = (problem_of a.problem).session in
    let before : is_started m.before s ≡ true = there plan m.before s (Pending (problem_of a.problem).step) m.asked.pending in
    ap (λ (K : List Entry). is_started K s) m.is ∙ (list_any-append (starts_session s) m.before m.since ∙ rw before refl)

pub same_problem : (b : Tables) (plan : Plan) (base : List ℕ) (H : List Entry) (a : Assembly) (Q : Problem) (step : ℕ) → LegalRun b plan H → MayBeCommitted b plan base H a → IsStillAsked b plan H (problem_of a.problem) → IsProblemOf b plan H (problem_of a.problem).session step Q → Q ≡ problem_of a.problem
same_problem b plan base H a Q step run m still found =
    let P = problem_of a.problem in
    let e : ◌≡◌ {A = Option Place} (Some (Pending step)) (Some (Pending P.step)) = sym found.pending ∙ still.pending in
    let number : step ≡ P.step = cc in
    one_problem b plan H P.session P.step Q P (subst (λ (k : ℕ). IsProblemOf b plan H P.session k Q) number found) (asked_now b plan base H a run m still)

pub mended_may : (b : Tables) (plan : Plan) (base : List ℕ) (M N : List Mark) (doubt : Option Entry) (a : Assembly) → IsMended M doubt N → MayBeCommitted b plan base (history M) a → MayBeCommitted b plan base (history N) a
mended_may b plan base M N doubt a sure m = m
mended_may b plan base M N doubt a (dropped entry) m = m
mended_may b plan base M N doubt a (kept entry size) m = subst (λ (H : List Entry). MayBeCommitted b plan base H a) (sym (history-adopted M entry size)) (still_may b plan base (history M) (entry ∷ []) a m)

-- the book that is asked is of the office's bank, plan and history
module _ {D : Type 0} (b : Tables) (plan : Plan) (base : List ℕ) (book : Ledger) (j : JournalState D) (M : List Mark) (doubt : Option Entry) (was : HandedDisk) (all : IsKept b plan base book j M doubt was) where
  pub run_of : IsExamination book → LegalRun b plan (history M)
  run_of exam = subst (λ (H : List Entry). LegalRun b plan H) all.entries (subst (λ (p : Plan). LegalRun b p book.entries) all.plan_is (subst (λ (t : Tables). LegalRun t book.plan book.entries) all.bank exam.legal))

  -- what is said of the book's bank, plan and entries
  pub moved_in : (F : Tables → Plan → List Entry → Type 0) → F book.bank book.plan book.entries → F b plan (history M)
  moved_in F said = subst (λ (H : List Entry). F b plan H) all.entries (subst (λ (p : Plan). F b p book.entries) all.plan_is (subst (λ (t : Tables). F t book.plan book.entries) all.bank said))

  pub plan_in : IsExamination book → IsPlanFor b plan
  plan_in exam = subst (λ (p : Plan). IsPlanFor b p) all.plan_is (subst (λ (t : Tables). IsPlanFor t book.plan) all.bank exam.plan)

  pub problem_in : (session step : ℕ) (Q : Problem) → IsProblemOf book.bank book.plan book.entries session step Q → IsProblemOf b plan (history M) session step Q
  problem_in session step Q found = subst (λ (H : List Entry). IsProblemOf b plan H session step Q) all.entries (subst (λ (p : Plan). IsProblemOf b p book.entries session step Q) all.plan_is (subst (λ (t : Tables). IsProblemOf t book.plan book.entries session step Q) all.bank found))

  pub still_in : (session step : ℕ) → place plan (history M) session ≡ Some (Pending step) → place book.plan book.entries session ≡ Some (Pending step)
  still_in session step pending = subst (λ (H : List Entry). place book.plan H session ≡ Some (Pending step)) (sym all.entries) (subst (λ (p : Plan). place p (history M) session ≡ Some (Pending step)) (sym all.plan_is) pending)
