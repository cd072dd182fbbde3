use Rattle.std.proofs.Common.{◌≡◌, Some, sym, ap, ◌∙◌, subst}
use Rattle.form_model.specs.Plan.{Plan}
use Rattle.constraint_model.specs.declared.problem.Problem.{Problem}
use Rattle.history_model.specs.declared.refusal.Refusal.{Refusal}
use Rattle.history_model.specs.declared.refusal.Refusal.TheVariants.{Stale}
use Rattle.history_model.specs.Places.{place}
use Rattle.exam_office.specs.Calls.{refused_with}
use Rattle.exam_office.specs.Marks.{history}
use Rattle.exam_hall.proofs.Leading.{legal_before}
use Rattle.exam_hall.proofs.Commits.{done_ended, stale_ended, failed_ended, stale_there, round_there}
use Rattle.exam_hall.proofs.committing.commit_to.Goals as goal

pub returns-in-Ok : goal.returns-in-Ok
returns-in-Ok g c =
    let old = c.args.office.now in
    let new = c.commit-found.new.self in
    let a = c.args.assembled.now in
    let e = c.commit-found.ensures in
    let run = legal_before old new e.same c.keeps-2.ensures.run in
    let stands : place old.plan (history new.marks) a.problem.session ≡ Some c.in-Ok.at = subst (λ (p : Plan). place p (history new.marks) a.problem.session ≡ Some c.in-Ok.at) e.same.plan c.in-Ok.ensures.at in
    let there = round_there old new e.same c.problem.result.now a.problem c.problem.ensures c.in-Ok.at c.round_at.result c.round_at.ensures in
    done_ended old new a e.same e.frame c.keeps.ensures.plan c.requires.may c.requires.good run (refused_with c.commit-found.result) c.keeps.ensures.doubt e.call c.in-Ok.at c.round_at.result (sym (ap refused_with c.in-Ok.is)) stands there

pub round_at-requires : goal.round_at-requires
round_at-requires g c =
    let new = c.commit-found.new.self in
    subst (λ (P : Problem). place new.plan (history new.marks) P.session ≡ Some c.in-Ok.at) (sym c.problem.ensures) c.in-Ok.ensures.at

pub round_at-requires-in-Stale : goal.round_at-requires-in-Stale
round_at-requires-in-Stale g c =
    let old = c.args.office.now in
    let new = c.commit-found.new.self in
    let a = c.args.assembled.now in
    let e = c.commit-found.ensures in
    let run = legal_before old new e.same c.keeps-2.ensures.run in
    let o = refused_with c.commit-found.result in
    let is : Some (Stale c.in-Stale.at c.in-Stale.field-1) ≡ o = sym (ap refused_with c.in-Err.is ∙ ap (λ (r : Refusal). Some r) c.in-Stale.is) in
    let there = stale_there old new a e.same e.frame c.keeps.ensures.plan c.requires.may c.requires.good run o c.keeps.ensures.doubt e.call c.in-Stale.at c.in-Stale.field-1 is in
    subst (λ (P : Problem). place new.plan (history new.marks) P.session ≡ Some c.in-Stale.at) (sym c.problem-in-Stale.ensures)
    (subst (λ (p : Plan). place p (history new.marks) a.problem.session ≡ Some c.in-Stale.at) (sym e.same.plan) there)

pub returns-in-Stale : goal.returns-in-Stale
returns-in-Stale g c =
    let old = c.args.office.now in
    let new = c.commit-found.new.self in
    let a = c.args.assembled.now in
    let e = c.commit-found.ensures in
    let run = legal_before old new e.same c.keeps-2.ensures.run in
    let o = refused_with c.commit-found.result in
    let is : Some (Stale c.in-Stale.at c.in-Stale.field-1) ≡ o = sym (ap refused_with c.in-Err.is ∙ ap (λ (r : Refusal). Some r) c.in-Stale.is) in
    let there = round_there old new e.same c.problem-in-Stale.result.now a.problem c.problem-in-Stale.ensures c.in-Stale.at c.round_at-in-Stale.result c.round_at-in-Stale.ensures in
    stale_ended old new a e.same e.frame c.keeps.ensures.plan c.requires.may c.requires.good run o c.keeps.ensures.doubt e.call c.in-Stale.at c.in-Stale.field-1 c.round_at-in-Stale.result is (λ stands. there)

pub returns-in_default : goal.returns-in_default
returns-in_default g c =
    let old = c.args.office.now in
    let new = c.commit-found.new.self in
    let a = c.args.assembled.now in
    let e = c.commit-found.ensures in
    let run = legal_before old new e.same c.keeps-2.ensures.run in
    failed_ended old new a e.same e.frame c.keeps.ensures.plan c.requires.may c.requires.good run (refused_with c.commit-found.result) c.keeps.ensures.doubt e.call c.in-Err.refusal (sym (ap refused_with c.in-Err.is)) c.in_default.not-Stale
