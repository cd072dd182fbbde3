use Rattle.std.proofs.Common.{◌≡◌}
use Rattle.exam_hall.specs.Known.{HasGrown, IsOf, marked}
use Rattle.prepare_desk.specs.Desks.{purpose_of}
use Rattle.prepare_desk.specs.Posts.{IsIdle}
use Rattle.prepare_desk.specs.Preparing.{AddsFor}
use Rattle.prepare_desk.proofs.desk.Desk.prepare.Given as goal

abbrev pub invariant-responses : goal.invariant-responses
invariant-responses g l = record {
  of : IsOf l.pass l.hall;
  purpose : l.self.purpose ≡ purpose_of l.hall;
  idles : IsIdle (marked l.fn.pass) (marked l.pass);
  grown : HasGrown l.fn.pass l.pass;
  adds : AddsFor l.session l.fn.self.results l.self.results;
}
