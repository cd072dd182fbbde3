use Rattle.std.proofs.Common.{◌≡◌, ℕ, Some, IfOk, refl, sym, subst}
use Rattle.history_model.specs.declared.refusal.Refusal.{Refusal}
use Rattle.history_model.specs.Places.{place}
use Rattle.exam_office.specs.Marks.{history}
use Rattle.exam_office.specs.Serving.{IsTriedAlong, untried, IsTried, stopped}
use Rattle.exam_office.proofs.Surely.{stayed_steps}
use Rattle.exam_office.proofs.Trying.{may_be, session_is, tried_once, try_steps}
use Rattle.exam_office.proofs.office.Office.try_to_serve.Goals as goal

pub commit-requires : goal.commit-requires
commit-requires g c =
    let old = c.args.self.now in
    let s = c.args.session in
    may_be old.bank old.plan old.base (history old.marks) s c.in-Ok.assembled c.in-Ok.ensures.assembled

pub returns-in-Ok-clause-tried : goal.returns-in-Ok-clause-tried
returns-in-Ok-clause-tried g c =
    let old = c.args.self.now in
    let s = c.args.session in
    tried_once s old c.commit.new.self c.in-Ok.assembled c.in-Ok.ensures.assembled c.commit.result c.requires.durable c.commit.ensures.call c.commit.ensures.images c.commit.ensures.frame

pub returns-in-Ok-clause-steps : goal.returns-in-Ok-clause-steps
returns-in-Ok-clause-steps g c =
    let old = c.args.self.now in
    let s = c.args.session in
    try_steps s old c.commit.new.self c.in-Ok.assembled c.in-Ok.ensures.assembled c.requires.durable c.commit.ensures.same c.commit.ensures.frame c.commit.ensures.moments

pub returns-in-Ok-clause-at : goal.returns-in-Ok-clause-at
returns-in-Ok-clause-at g c =
    let old = c.args.self.now in
    let s = c.args.session in
    let new = c.commit.new.self in
    let a = c.in-Ok.assembled in
    subst (λ (n : ℕ). IfOk c.commit.result (λ at. place new.plan (history new.marks) n ≡ Some at)) (session_is s old new a c.in-Ok.ensures.assembled) c.commit.ensures.at

pub returns-in-Err-clause-tried : goal.returns-in-Err-clause-tried
returns-in-Err-clause-tried g c =
    let old = c.args.self.now in
    let s = c.args.session in
    subst (λ (r : Refusal). IsTried old.bank old.plan old.base s old old (Some r)) (sym c.in-Err.ensures.memory) (stopped Rattle.history_model.specs.declared.refusal.Refusal.TheVariants.Memory refl (λ e. e))

pub returns-in-Err-clause-steps : goal.returns-in-Err-clause-steps
returns-in-Err-clause-steps g c =
    let old = c.args.self.now in
    let s = c.args.session in
    stayed_steps old (IsTriedAlong old.bank old.plan old.base (history old.marks) s) untried c.requires.durable
