-- What the commit of an assembly does, where nothing is in doubt.
use Rattle.std.proofs.Common.{◌≡◌, inl, inr, ℕ, List, length, Option, Some, Result, Ok, Err, OnOk, IsTrue, sym, ap, subst, arith}
use Rattle.bank_tables.specs.Items.{Set, has}
use Rattle.bank_tables.specs.Tables.{Tables}
use Rattle.exam_edge.specs.Images.{AllImages, AtEachMoment, latest}
use Rattle.exam_edge.specs.Lent.{IsLent}
use Rattle.form_model.specs.Plan.{Plan, band_of}
use Rattle.form_model.specs.Problem.{Problem}
use Rattle.constraint_model.specs.Views.{problem_of}
use Rattle.branch_bound.specs.Assembled.{Assembly}
use Rattle.branch_bound.specs.Assemblies.{IsFirmOutcome, IsNoWorseThan}
use Rattle.branch_bound.specs.declared.outcome.Outcome.{Outcome}
use Rattle.branch_bound.specs.declared.outcome.Outcome.TheVariants.{Found, NoForm, NoneFound}
use Rattle.history_model.specs.declared.entry.Cause.TheVariants.{NoForm as CauseNoForm, Spent}
use Rattle.history_model.specs.declared.entry.Entry.{Entry}
use Rattle.history_model.specs.declared.place.Place.{Place}
use Rattle.history_model.specs.declared.refusal.Refusal.{Refusal}
use Rattle.history_model.specs.declared.refusal.Refusal.TheVariants.{NoSession, OtherBooking, WrongStep, Other, BadResponse, IsClosed, Stale, OtherList, NoItem, SessionsFull, NoForm as RefusedNoForm, NoneFound as RefusedNoneFound, JournalFull, Disk, Memory}
use Rattle.history_model.specs.Legality.{Legal}
use Rattle.history_model.specs.SessionProblems.{IsProblemOf}
use Rattle.answer_journal.specs.Journal.{tells_of, accounts_of, faults_of, identity_of}
use Rattle.exam_office.specs.Asking.{IsGood, IsDurable, Steps}
use Rattle.exam_office.specs.Calls.{Finding, refuse, add, refused_with, Calls, IsLeft}
use Rattle.exam_office.specs.Commits.{IsOfStart, IsEntryFor, MayBeCommitted, FindsCommit}
use Rattle.exam_office.specs.Files.{StandsSecond}
use Rattle.exam_office.specs.Marks.{history}
use Rattle.exam_office.specs.Running.{Running}
use Rattle.exam_office.specs.Serving.{IsAssembledFor, IsTry, IsTriedAlong, untried, with_try, IsTried, tried, stopped}
use Rattle.exam_office.specs.Writing.{IsSameOffice}
use Rattle.exam_office.proofs.Flags.{flag_now}
use Rattle.exam_office.proofs.Committed.{may_be_committed}
use Rattle.exam_office.proofs.Surely.{CallsSurely, is_refused, is_found, is_written, is_stopped, surely, call_steps, stopped_weaker}

pub may_be : (b : Tables) (plan : Plan) (base : List ℕ) (H : List Entry) (session : ℕ) (a : Assembly) → IsAssembledFor b plan base H session a → MayBeCommitted b plan base H a
may_be b plan base H session a for = may_be_committed b plan base H session a for.asked for.budget for.of_start

-- the entry of an outcome is a try, and good
abbrev IsGoodTry : Tables → Plan → List ℕ → List Entry → ℕ → Entry → Type 0
IsGoodTry b plan base H session entry = IsTry b plan H session entry × IsGood b plan base H entry

tried_by : (b : Tables) (plan : Plan) (base : List ℕ) (H : List Entry) (P : Problem) (n : ℕ) (o : Outcome) (entry : Entry) → IsProblemOf b plan H P.session P.step P → IsOfStart P base o → IsFirmOutcome P o → IsNoWorseThan P P.start o → IsNoWorseThan P (Some (has base)) o → IsEntryFor P n o entry → Legal b plan H entry → IsGoodTry b plan base H P.session entry
tried_by b plan base H P n (Found form proved) entry asked at firm start hint e legal = (
  inl (record { step = P.step; item = e.0; form = form; proved = proved; nodes = n; is = e.2; legal = legal; problem = P; is_problem = asked; firm = firm }),
  subst (λ (x : Entry). IsGood b plan base H x) (sym e.2)
      (record { problem = P; is_problem = asked; base_is = hint; start = λ X is. subst (λ (s : Option Set). IsNoWorseThan P s (Found form proved)) is start }),
)
tried_by b plan base H P n NoForm entry asked at firm start hint e legal = (
  inr (record { step = P.step; band = band_of P.plan P.theta; cause = CauseNoForm; nodes = n; is = e; legal = legal }),
  subst (λ (x : Entry). IsGood b plan base H x) (sym e) tt,
)
tried_by b plan base H P n NoneFound entry asked at firm start hint e legal = (
  inr (record { step = P.step; band = band_of P.plan P.theta; cause = Spent; nodes = n; is = e; legal = legal }),
  subst (λ (x : Entry). IsGood b plan base H x) (sym e) (record { problem = P; is_problem = asked; no_base = at.1; no_start = λ X is. subst (λ (s : Option Set). IsNoWorseThan P s NoneFound) is start }),
)

module _ {D : Type 0} (session : ℕ) (old new : Running D) (a : Assembly) (for : IsAssembledFor old.bank old.plan old.base (history old.marks) session a) where
  pub session_is : (problem_of a.problem).session ≡ session
  session_is = ap (λ (R : Problem). R.session) for.asked.of_seat.is

  abbrev finds : List Entry → Finding → Type 0
  finds = FindsCommit old.bank old.plan a

  good_try : (e : Entry) → FindsCommit old.bank old.plan a (history old.marks) (add e) → IsGoodTry old.bank old.plan old.base (history old.marks) session e
  good_try e says =
      let P = problem_of a.problem in
      let H = history old.marks in
      let asked : IsProblemOf old.bank old.plan H P.session P.step P = subst (λ (n : ℕ). IsProblemOf old.bank old.plan H n P.step P) (sym session_is) for.asked in
      subst (λ (n : ℕ). IsGoodTry old.bank old.plan old.base H n e) session_is
      (tried_by old.bank old.plan old.base H P (length a.tree.nodes) a.outcome e asked for.of_start for.firm for.start for.hint says.1 says.2)

  not_stale : (r : Refusal) → FindsCommit old.bank old.plan a (history old.marks) (refuse r) → ⊥
  not_stale (Stale at aside) says =
      let P = problem_of a.problem in
      let H = history old.marks in
      let asked : IsProblemOf old.bank old.plan H P.session P.step P = subst (λ (n : ℕ). IsProblemOf old.bank old.plan H n P.step P) (sym session_is) for.asked in
      says.other (record { pending = asked.pending; aside = sym (flag_now old.bank old.plan H P.session P.step P asked) })
  not_stale Memory says = says
  not_stale Disk says = says
  not_stale (JournalFull size) says = says
  not_stale (NoSession count) says = says
  not_stale OtherBooking says = says
  not_stale (WrongStep k) says = says
  not_stale (Other k) says = says
  not_stale (BadResponse k) says = says
  not_stale (IsClosed at) says = says
  not_stale (SessionsFull count) says = says
  not_stale (OtherList session) says = says
  not_stale (NoItem number) says = says
  not_stale RefusedNoForm says = says
  not_stale RefusedNoneFound says = says

  tried_so : (result : Result Place Refusal) → CallsSurely (FindsCommit old.bank old.plan a) old new (refused_with result)
      → OnOk result (IsTrue (tells_of old.journal) → AllImages (StandsSecond old.bank old.plan (history new.marks)) (latest (accounts_of new.journal)))
      → IsLent tells_of identity_of faults_of old.journal new.journal → IsTried old.bank old.plan old.base session old new (refused_with result)
  tried_so (Ok at) (is_found says grown sure) images frame = absurd says
  tried_so (Ok at) (is_written e says grown sure) images frame =
      let t = good_try e says in
      tried e grown t.0 t.1 (record { sure = sure; images = λ told. images (subst IsTrue frame.tells told) })
  tried_so (Err q) (is_refused r says grown sure) images frame = absurd (not_stale r says)
  tried_so (Err q) (is_stopped r e says grown why) images frame =
      stopped r grown
      (stopped_weaker old.bank old.plan (history old.marks) (λ e. FindsCommit old.bank old.plan a (history old.marks) (add e)) (IsTry old.bank old.plan (history old.marks) session) (λ e says. (good_try e says).0) old old new (omega arith) (λ e. e) r why)

  pub tried_once : (result : Result Place Refusal) → IsDurable old.bank old.plan old → Calls (FindsCommit old.bank old.plan a) old new (refused_with result)
      → OnOk result (IsTrue (tells_of old.journal) → AllImages (StandsSecond old.bank old.plan (history new.marks)) (latest (accounts_of new.journal)))
      → IsLent tells_of identity_of faults_of old.journal new.journal → IsTried old.bank old.plan old.base session old new (refused_with result)
  tried_once result durable calls images frame = tried_so result (surely (FindsCommit old.bank old.plan a) old new durable.sure (refused_with result) calls) images frame

  pub try_steps : IsDurable old.bank old.plan old → IsSameOffice old new → IsLent tells_of identity_of faults_of old.journal new.journal
      → (IsTrue (tells_of old.journal) → AtEachMoment (accounts_of old.journal) (accounts_of new.journal) (IsLeft old.bank old.plan (FindsCommit old.bank old.plan a) (history old.marks) old.doubt))
      → Steps (IsTriedAlong old.bank old.plan old.base (history old.marks) session) old new
  try_steps durable same frame moments =
      call_steps (FindsCommit old.bank old.plan a) old new durable.sure (IsTriedAlong old.bank old.plan old.base (history old.marks) session) untried (λ e says. let t = good_try e says in with_try e t.0 t.1) same frame moments
