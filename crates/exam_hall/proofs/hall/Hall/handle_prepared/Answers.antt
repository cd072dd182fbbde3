use Rattle.std.proofs.Common.{Option, IfSome, sym, subst}
use Rattle.certificate_model.specs.Relaxed.{Multipliers}
use Rattle.exam_office.specs.Marks.{history}
use Rattle.exam_office.specs.Warm.{FitsPlan}
use Rattle.exam_hall.specs.Known.{marked}
use Rattle.exam_hall.proofs.Passes.{grown_through}
use Rattle.exam_hall.proofs.Fitting.{fits_now}
use Rattle.exam_hall.proofs.Seen.{sees_done, sees_served, sees_failed, reply_is}
use Rattle.exam_hall.proofs.Used.{uses_done, uses_served}
use Rattle.exam_hall.proofs.hall.Hall.handle_prepared.Goals as goal

pub returns-in-Done-clause-sees : goal.returns-in-Done-clause-sees
returns-in-Done-clause-sees g c = sees_done c.args.self.now (marked c.args.pass.now) (marked c.begin.new.pass) c.args.request.now c.in-Done.reply c.in-Done.ensures.begun

pub returns-in-Ok-clause-sees : goal.returns-in-Ok-clause-sees
returns-in-Ok-clause-sees g c =
    sees_served c.args.self.now (marked c.args.pass.now) (marked c.begin.new.pass) (marked c.assemble_twice.new.pass) c.args.request.now c.in-Waits.fresh c.in-Waits.problem c.in-Waits.warm c.in-Waits.ensures.begun c.in-Ok.place c.in-Ok.ensures.assembles

pub returns-clause-sees : goal.returns-clause-sees
returns-clause-sees g c =
    sees_failed c.args.self.now (marked c.args.pass.now) (marked c.begin.new.pass) (marked c.assemble_twice.new.pass) c.args.request.now c.in-Waits.fresh c.in-Waits.problem c.in-Waits.warm c.in-Waits.ensures.begun c.in-Err.refusal c.in-Err.ensures.assembles

-- the vector of the first turn fits the problem of it
pub assemble_twice-requires-clause-fits : goal.assemble_twice-requires-clause-fits
assemble_twice-requires-clause-fits g c =
    subst (λ (warm : Option Multipliers). IfSome warm (FitsPlan c.args.self.now.bank c.args.self.now.plan)) (sym c.as_ref.ensures.value) c.in-Waits.ensures.begun.begins.2

pub returns-in-Done-clause-reply : goal.returns-in-Done-clause-reply
returns-in-Done-clause-reply g c =
    reply_is c.args.self.now (marked c.args.pass.now) (marked c.begin.new.pass) c.args.request.now c.in-Done.reply
    (sees_done c.args.self.now (marked c.args.pass.now) (marked c.begin.new.pass) c.args.request.now c.in-Done.reply c.in-Done.ensures.begun)

pub returns-in-Ok-clause-grown : goal.returns-in-Ok-clause-grown
returns-in-Ok-clause-grown g c =
    grown_through c.args.pass.now c.begin.new.pass c.assemble_twice.new.pass c.in-Waits.ensures.grown c.in-Ok.ensures.grown

pub returns-clause-grown : goal.returns-clause-grown
returns-clause-grown g c =
    grown_through c.args.pass.now c.begin.new.pass c.assemble_twice.new.pass c.in-Waits.ensures.grown c.in-Err.ensures.grown

-- what was assembled ahead for the problem of the first turn fits it
pub assemble_twice-requires-clause-prepared : goal.assemble_twice-requires-clause-prepared
assemble_twice-requires-clause-prepared g c =
    let begun = c.in-Waits.ensures.begun in
    fits_now c.args.self.now c.in-Waits.problem (history (marked c.begin.new.pass).seen) c.fitting-fitting.result begun.legal begun.begins.1 c.fitting-fitting.ensures.fits

pub returns-in-Done-clause-used : goal.returns-in-Done-clause-used
returns-in-Done-clause-used g c = uses_done c.args.self.now (marked c.args.pass.now) (marked c.begin.new.pass) c.in-Done.reply c.args.prepared c.args.request.now c.in-Done.ensures.begun

pub returns-in-Ok-clause-used : goal.returns-in-Ok-clause-used
returns-in-Ok-clause-used g c =
    let e = c.in-Ok.ensures in
    let a = e.assembles in
    uses_served c.args.self.now (marked c.args.pass.now) (marked c.begin.new.pass) (marked c.assemble_twice.new.pass) c.in-Waits.fresh c.in-Waits.problem c.in-Waits.warm a.fronts a.places a.went e.of_step
    c.fitting-fitting.result e.used c.args.prepared c.args.request.now c.in-Waits.ensures.begun c.fitting-fitting.ensures.keeps

pub returns-clause-used : goal.returns-clause-used
returns-clause-used g c =
    let e = c.in-Err.ensures in
    let a = e.assembles in
    uses_served c.args.self.now (marked c.args.pass.now) (marked c.begin.new.pass) (marked c.assemble_twice.new.pass) c.in-Waits.fresh c.in-Waits.problem c.in-Waits.warm a.fronts a.places a.went e.of_step
    c.fitting-fitting.result e.used c.args.prepared c.args.request.now c.in-Waits.ensures.begun c.fitting-fitting.ensures.keeps
