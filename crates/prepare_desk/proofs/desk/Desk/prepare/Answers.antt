use Rattle.std.proofs.Common.{◌∙◌}
use Rattle.exam_hall.specs.Known.{marked}
use Rattle.exam_hall.proofs.Passes.{grown_through}
use Rattle.prepare_desk.proofs.Idling.{idle_through}
use Rattle.prepare_desk.proofs.Preparing.{one_adds, adds_through}
use Rattle.prepare_desk.proofs.desk.Desk.prepare.Goals as goal

pub returns-in-Ok-None-clause-idles : goal.returns-in-Ok-None-clause-idles
returns-in-Ok-None-clause-idles g c =
    idle_through (marked c.args.pass.now) (marked c.responses.pass) (marked c.prepare_one.new.pass) c.responses.invariant.idles c.prepare_one.ensures.idles

pub returns-in-Err-clause-idles : goal.returns-in-Err-clause-idles
returns-in-Err-clause-idles g c =
    idle_through (marked c.args.pass.now) (marked c.responses.pass) (marked c.prepare_one.new.pass) c.responses.invariant.idles c.prepare_one.ensures.idles

pub responses-preserved : goal.responses-preserved
responses-preserved g c = record {
  of = c.prepare_one.ensures.of;
  purpose = (one_adds c.args.session _ _ c.responses.self c.prepare_one.new.self c.prepare_one.result c.prepare_one.ensures.after).0 ∙ c.responses.invariant.purpose;
  idles = idle_through (marked c.args.pass.now) (marked c.responses.pass) (marked c.prepare_one.new.pass) c.responses.invariant.idles c.prepare_one.ensures.idles;
  grown = grown_through c.args.pass.now c.responses.pass c.prepare_one.new.pass c.responses.invariant.grown c.prepare_one.ensures.grown;
  adds = adds_through c.args.session c.args.self.now.results c.responses.self.results c.prepare_one.new.self.results c.responses.invariant.adds (one_adds c.args.session _ _ c.responses.self c.prepare_one.new.self c.prepare_one.result c.prepare_one.ensures.after).1;
}

pub returns-in-Ok-None-clause-adds : goal.returns-in-Ok-None-clause-adds
returns-in-Ok-None-clause-adds g c =
    adds_through c.args.session c.args.self.now.results c.responses.self.results c.prepare_one.new.self.results c.responses.invariant.adds
    (one_adds c.args.session _ _ c.responses.self c.prepare_one.new.self c.prepare_one.result c.prepare_one.ensures.after).1

pub returns-in-Err-clause-adds : goal.returns-in-Err-clause-adds
returns-in-Err-clause-adds g c =
    adds_through c.args.session c.args.self.now.results c.responses.self.results c.prepare_one.new.self.results c.responses.invariant.adds
    (one_adds c.args.session _ _ c.responses.self c.prepare_one.new.self c.prepare_one.result c.prepare_one.ensures.after).1
