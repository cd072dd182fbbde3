use Rattle.std.proofs.Common.{◌≡◌, ◌∙◌, Option, Some, IfSome, sym, subst}
use Rattle.history_model.specs.Entries.{seat_of}
use Rattle.certificate_model.specs.Relaxed.{Multipliers}
use Rattle.certificate_model.specs.Verdicts.{NamesOnlySides}
use Rattle.exam_office.specs.Warm.{FitsPlan}
use Rattle.exam_office.proofs.Warmed.{fits_seat}
use Rattle.bank_tables.specs.Items.{has}
use Rattle.constraint_model.specs.declared.problem.Problem.{Problem as Given}
use Rattle.constraint_model.specs.Views.{problem_of}
use Rattle.branch_bound.specs.Assemblies.{IsAssembly}
use Rattle.history_model.specs.Legality.{LegalRun}
use Rattle.history_model.specs.SessionProblems.{IsProblemOf}
use Rattle.exam_office.specs.Marks.{history}
use Rattle.exam_office.specs.Running.{Running, handed}
use Rattle.exam_office.specs.Serving.{IsAssembledFor}
use Rattle.exam_office.proofs.Committed.{run_of, problem_in}
use Rattle.exam_office.proofs.Assembling.{assembled_so}
use Rattle.exam_office.proofs.office.Office.assembled.Goals as goal

pub returns-in-Ok-clause-assembled : goal.returns-in-Ok-clause-assembled
returns-in-Ok-clause-assembled g c =
    let o = c.self.inside in
    let b = o.bank.now in
    let plan = o.spec.now in
    let H = history o.marks in
    let s = c.args.session in
    let was = handed g.D.Disk.content g.D.Disk.accounts g.D.Disk.faults o.opened.value in
    let run : LegalRun b plan H = run_of b plan o.base o.book o.journal o.marks o.doubt was c.self.invariant.0 c.entries.ensures.examination in
    let p = c.in-Some.problem in
    let a = c.in-Ok.assembled in
    let found : IsProblemOf b plan H s p.step (problem_of p) = problem_in b plan o.base o.book o.journal o.marks o.doubt was c.self.invariant.0 s p.step (problem_of p) c.in-Some.ensures.problem in
    let asked : IsProblemOf b plan H s a.problem.step (problem_of a.problem) = subst (λ (q : Given). IsProblemOf b plan H s q.step (problem_of q)) (sym c.in-Ok.ensures.problem) found in
    let shown : IsAssembly (problem_of a.problem) (Some (has o.base)) c.budget-budget.result a.tree a.outcome =
    subst (λ (q : Given). IsAssembly (problem_of q) (Some (has o.base)) c.budget-budget.result a.tree a.outcome) (sym c.in-Ok.ensures.problem) c.in-Ok.ensures.assembly in
    let budget : a.budget ≡ plan.budget = c.in-Ok.ensures.budget ∙ c.budget-budget.ensures in
    subst (λ (r : Running g.row.D.Denot). IsAssembledFor r.bank r.plan r.base (history r.marks) s a) c.self.view_is
    (assembled_so b plan o.base H s run c.self.invariant.0.base_is a asked budget c.budget-budget.result shown)

pub assemble_from-requires-clause-sides : goal.assemble_from-requires-clause-sides
assemble_from-requires-clause-sides g c =
    let o = c.self.inside in
    let b = o.bank.now in
    let plan = o.spec.now in
    let H = history o.marks in
    let s = c.args.session in
    let was = handed g.D.Disk.content g.D.Disk.accounts g.D.Disk.faults o.opened.value in
    let p = c.in-Some.problem in
    let found : IsProblemOf b plan H s p.step (problem_of p) = problem_in b plan o.base o.book o.journal o.marks o.doubt was c.self.invariant.0 s p.step (problem_of p) c.in-Some.ensures.problem in
    let v = c.warm_or_none-warm.result in
    let fit : IfSome v (FitsPlan b plan) = subst (λ (r : Running g.row.D.Denot). IfSome v (FitsPlan r.bank r.plan)) (sym c.self.view_is) c.warm_or_none-warm.ensures in
    subst (λ (o : Option Multipliers). IfSome o (NamesOnlySides (problem_of p))) (sym c.as_ref.ensures.value)
    (fits_seat b plan s (seat_of H s) (problem_of p) found.of_seat v fit)
