use Rattle.std.proofs.Common.{Option, IfSome, sym, subst}
use Rattle.branch_bound.specs.Assembled.{Assembly}
use Rattle.exam_office.specs.Marks.{history}
use Rattle.exam_hall.specs.Known.{marked}
use Rattle.exam_hall.specs.Prepared.{FitsFor}
use Rattle.exam_hall.specs.Rounds.{IsEntryOf}
use Rattle.exam_hall.specs.Used.{AddsOwn}
use Rattle.exam_hall.proofs.Fitting.{rounds_same}
use Rattle.exam_hall.proofs.hall.Hall.serve_first.Goals as goal

-- what is prepared was made for the same problem
pub returns-in-Some-clause-rounds : goal.returns-in-Some-clause-rounds
returns-in-Some-clause-rounds g c =
    let h = c.args.self.now in
    let fits = subst (λ (o : Option Assembly). IfSome o (FitsFor h.bank h.plan h.base (history (marked c.args.pass.now).seen) c.args.problem.now)) c.in-Some.is c.requires.prepared in
    rounds_same h c.in-Some.assembled.problem c.args.problem.now fits.same (marked c.args.pass.now) (marked c.commit.new.pass) c.commit.result c.commit.ensures.rounds

-- its entry is the only one that is added
pub returns-in-Some-clause-used : goal.returns-in-Some-clause-used
returns-in-Some-clause-used g c =
    subst (λ (o : Option Assembly). IfSome o (λ (a : Assembly). AddsOwn (IsEntryOf a) (marked c.args.pass.now) (marked c.commit.new.pass))) (sym c.in-Some.is) c.commit.ensures.only

pub returns-in-None-clause-used : goal.returns-in-None-clause-used
returns-in-None-clause-used g c =
    subst (λ (o : Option Assembly). IfSome o (λ (a : Assembly). AddsOwn (IsEntryOf a) (marked c.args.pass.now) (marked c.serve_once.new.pass))) (sym c.in-None.is) tt
