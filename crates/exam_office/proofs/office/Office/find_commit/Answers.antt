use Rattle.std.proofs.Common.{◌≡◌, ◌∙◌, List, length, true, Some, sym, ap, subst}
use Rattle.form_model.specs.Problem.{Problem}
use Rattle.certificate_model.specs.declared.node.Node.{Node}
use Rattle.certificate_model.specs.ProofTrees.{ProofTree}
use Rattle.constraint_model.specs.declared.problem.Problem.{Problem as Given}
use Rattle.constraint_model.specs.Views.{problem_of}
use Rattle.history_model.specs.Entries.{is_started}
use Rattle.history_model.specs.Judging.{MayFollow}
use Rattle.history_model.specs.Legality.{Legal, LegalRun}
use Rattle.history_model.specs.SessionProblems.{IsProblemOf}
use Rattle.branch_bound.specs.Assemblies.{IsFirmOutcome}
use Rattle.branch_bound.specs.declared.outcome.Outcome.{Outcome}
use Rattle.exam_office.specs.Marks.{history}
use Rattle.exam_office.specs.Running.{Running, handed}
use Rattle.exam_office.specs.Commits.{IsWaitingFor, IsStillAsked, IsEntryFor, MayBeCommitted}
use Rattle.exam_office.proofs.Committed.{was_started, same_problem, asked_now, may_commit, run_of, problem_in}
use Rattle.exam_office.proofs.office.Office.find_commit.Goals as goal

pub find_stale-requires : goal.find_stale-requires
find_stale-requires g c =
    let now = c.args.self.now in
    subst (λ (p : Given). is_started (history now.marks) p.session ≡ true) (sym c.problem-problem.ensures) (was_started now.bank now.plan now.base (history now.marks) c.args.assembled.now c.requires)

pub entry_for-requires-clause-form : goal.entry_for-requires-clause-form
entry_for-requires-clause-form g c =
    let o = c.self.inside in
    let now = c.args.self.now in
    let a = c.args.assembled.now in
    let P = problem_of a.problem in
    let b = o.bank.now in
    let plan = o.spec.now in
    let H = history o.marks in
    let m : MayBeCommitted b plan o.base H a = subst (λ (r : Running g.row.D.Denot). MayBeCommitted r.bank r.plan r.base (history r.marks) a) (sym c.self.view_is) c.requires in
    let is_here = c.problem-problem.ensures in
    let waits : IsWaitingFor now.bank now.plan (history now.marks) c.problem-problem.result.now.session c.problem-problem.result.now.step c.problem-problem.result.now.aside = rw c.in_default.is at c.find_stale.ensures.none in
    let still_now : IsStillAsked now.bank now.plan (history now.marks) P = subst (λ (p : Given). IsWaitingFor now.bank now.plan (history now.marks) p.session p.step p.aside) is_here waits in
    let still : IsStillAsked b plan H P = subst (λ (r : Running g.row.D.Denot). IsStillAsked r.bank r.plan (history r.marks) P) (sym c.self.view_is) still_now in
    let run : LegalRun b plan H = run_of b plan o.base o.book o.journal o.marks o.doubt (handed g.D.Disk.content g.D.Disk.accounts g.D.Disk.faults o.opened.value) c.self.invariant.0 c.entries.ensures.examination in
    let asked = c.in-Some-problem.asked in
    let found : IsProblemOf b plan H P.session asked.step (problem_of asked) =
    problem_in b plan o.base o.book o.journal o.marks o.doubt (handed g.D.Disk.content g.D.Disk.accounts g.D.Disk.faults o.opened.value) c.self.invariant.0 P.session asked.step (problem_of asked)
    (subst (λ (p : Given). IsProblemOf o.book.bank o.book.plan o.book.entries p.session asked.step (problem_of asked)) is_here c.in-Some-problem.ensures.problem) in
    let same : problem_of asked ≡ P = same_problem b plan o.base H a (problem_of asked) asked.step run m still found in
    let promise = c.outcome-outcome.ensures.promise in
    subst (λ (Q : Problem). IsFirmOutcome Q c.outcome-outcome.result) (sym same) (subst (λ (x : Outcome). IsFirmOutcome P x) (sym c.outcome-outcome.ensures.outcome) promise.firm)

pub returns-clause-found : goal.returns-clause-found
returns-clause-found g c =
    let o = c.self.inside in
    let now = c.args.self.now in
    let a = c.args.assembled.now in
    let P = problem_of a.problem in
    let b = o.bank.now in
    let plan = o.spec.now in
    let H = history o.marks in
    let m : MayBeCommitted b plan o.base H a = subst (λ (r : Running g.row.D.Denot). MayBeCommitted r.bank r.plan r.base (history r.marks) a) (sym c.self.view_is) c.requires in
    let is_here = c.problem-problem.ensures in
    let waits : IsWaitingFor now.bank now.plan (history now.marks) c.problem-problem.result.now.session c.problem-problem.result.now.step c.problem-problem.result.now.aside = rw c.in_default.is at c.find_stale.ensures.none in
    let still_now : IsStillAsked now.bank now.plan (history now.marks) P = subst (λ (p : Given). IsWaitingFor now.bank now.plan (history now.marks) p.session p.step p.aside) is_here waits in
    let still : IsStillAsked b plan H P = subst (λ (r : Running g.row.D.Denot). IsStillAsked r.bank r.plan (history r.marks) P) (sym c.self.view_is) still_now in
    let run : LegalRun b plan H = run_of b plan o.base o.book o.journal o.marks o.doubt (handed g.D.Disk.content g.D.Disk.accounts g.D.Disk.faults o.opened.value) c.self.invariant.0 c.entries.ensures.examination in
    let asked = c.in-Some-problem.asked in
    let found : IsProblemOf b plan H P.session asked.step (problem_of asked) =
    problem_in b plan o.base o.book o.journal o.marks o.doubt (handed g.D.Disk.content g.D.Disk.accounts g.D.Disk.faults o.opened.value) c.self.invariant.0 P.session asked.step (problem_of asked)
    (subst (λ (p : Given). IsProblemOf o.book.bank o.book.plan o.book.entries p.session asked.step (problem_of asked)) is_here c.in-Some-problem.ensures.problem) in
    let same : problem_of asked ≡ P = same_problem b plan o.base H a (problem_of asked) asked.step run m still found in
    let promise = c.outcome-outcome.ensures.promise in
    let e0 : IsEntryFor (problem_of asked) (length c.nodes.result.now) c.outcome-outcome.result c.entry_for.result = c.entry_for.ensures in
    let e1 : IsEntryFor P (length c.nodes.result.now) c.outcome-outcome.result c.entry_for.result = subst (λ (Q : Problem). IsEntryFor Q (length c.nodes.result.now) c.outcome-outcome.result c.entry_for.result) same e0 in
    let e2 : IsEntryFor P (length c.nodes.result.now) a.outcome c.entry_for.result = subst (λ (x : Outcome). IsEntryFor P (length c.nodes.result.now) x c.entry_for.result) c.outcome-outcome.ensures.outcome e1 in
    let nodes_are : c.nodes.result.now ≡ a.tree.nodes = c.nodes.ensures.nodes ∙ ap (λ (t : ProofTree). t.nodes) c.tree.ensures in
    let e3 : IsEntryFor P (length a.tree.nodes) a.outcome c.entry_for.result = subst (λ (ns : List Node). IsEntryFor P (length ns) a.outcome c.entry_for.result) nodes_are e2 in
    let may : MayFollow b plan H c.entry_for.result (Some a.tree) =
    may_commit b plan o.base H P a.tree a.budget a.outcome c.entry_for.result (asked_now b plan o.base H a run m still) m.budget promise.shown promise.firm m.of_start e3 in
    let legal : Legal b plan H c.entry_for.result = c.may_is_legal.ensures b plan H c.entry_for.result (Some a.tree) may in
    (still_now, e3, subst (λ (r : Running g.row.D.Denot). Legal r.bank r.plan (history r.marks) c.entry_for.result) c.self.view_is legal)

pub returns-clause-may : goal.returns-clause-may
returns-clause-may g c =
    let o = c.self.inside in
    let now = c.args.self.now in
    let a = c.args.assembled.now in
    let P = problem_of a.problem in
    let b = o.bank.now in
    let plan = o.spec.now in
    let H = history o.marks in
    let m : MayBeCommitted b plan o.base H a = subst (λ (r : Running g.row.D.Denot). MayBeCommitted r.bank r.plan r.base (history r.marks) a) (sym c.self.view_is) c.requires in
    let is_here = c.problem-problem.ensures in
    let waits : IsWaitingFor now.bank now.plan (history now.marks) c.problem-problem.result.now.session c.problem-problem.result.now.step c.problem-problem.result.now.aside = rw c.in_default.is at c.find_stale.ensures.none in
    let still_now : IsStillAsked now.bank now.plan (history now.marks) P = subst (λ (p : Given). IsWaitingFor now.bank now.plan (history now.marks) p.session p.step p.aside) is_here waits in
    let still : IsStillAsked b plan H P = subst (λ (r : Running g.row.D.Denot). IsStillAsked r.bank r.plan (history r.marks) P) (sym c.self.view_is) still_now in
    let run : LegalRun b plan H = run_of b plan o.base o.book o.journal o.marks o.doubt (handed g.D.Disk.content g.D.Disk.accounts g.D.Disk.faults o.opened.value) c.self.invariant.0 c.entries.ensures.examination in
    let asked = c.in-Some-problem.asked in
    let found : IsProblemOf b plan H P.session asked.step (problem_of asked) =
    problem_in b plan o.base o.book o.journal o.marks o.doubt (handed g.D.Disk.content g.D.Disk.accounts g.D.Disk.faults o.opened.value) c.self.invariant.0 P.session asked.step (problem_of asked)
    (subst (λ (p : Given). IsProblemOf o.book.bank o.book.plan o.book.entries p.session asked.step (problem_of asked)) is_here c.in-Some-problem.ensures.problem) in
    let same : problem_of asked ≡ P = same_problem b plan o.base H a (problem_of asked) asked.step run m still found in
    let promise = c.outcome-outcome.ensures.promise in
    let e0 : IsEntryFor (problem_of asked) (length c.nodes.result.now) c.outcome-outcome.result c.entry_for.result = c.entry_for.ensures in
    let e1 : IsEntryFor P (length c.nodes.result.now) c.outcome-outcome.result c.entry_for.result = subst (λ (Q : Problem). IsEntryFor Q (length c.nodes.result.now) c.outcome-outcome.result c.entry_for.result) same e0 in
    let e2 : IsEntryFor P (length c.nodes.result.now) a.outcome c.entry_for.result = subst (λ (x : Outcome). IsEntryFor P (length c.nodes.result.now) x c.entry_for.result) c.outcome-outcome.ensures.outcome e1 in
    let nodes_are : c.nodes.result.now ≡ a.tree.nodes = c.nodes.ensures.nodes ∙ ap (λ (t : ProofTree). t.nodes) c.tree.ensures in
    let e3 : IsEntryFor P (length a.tree.nodes) a.outcome c.entry_for.result = subst (λ (ns : List Node). IsEntryFor P (length ns) a.outcome c.entry_for.result) nodes_are e2 in
    let may : MayFollow b plan H c.entry_for.result (Some a.tree) =
    may_commit b plan o.base H P a.tree a.budget a.outcome c.entry_for.result (asked_now b plan o.base H a run m still) m.budget promise.shown promise.firm m.of_start e3 in
    subst (λ (r : Running g.row.D.Denot). MayFollow r.bank r.plan (history r.marks) c.entry_for.result (Some a.tree)) c.self.view_is may
