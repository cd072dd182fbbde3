use Rattle.exam_hall.specs.Known.{HasGrown, IsOf, marked}
use Rattle.prepare_desk.specs.Posts.{IsIdle, IsPostOf}
use Rattle.prepare_desk.proofs.post.Post.prepare.Given as goal

abbrev pub invariant-responses : goal.invariant-responses
invariant-responses g l = record {
  of : IsOf l.pass l.hall;
  post : IsPostOf l.hall l.self;
  idles : IsIdle (marked l.fn.pass) (marked l.pass);
  grown : HasGrown l.fn.pass l.pass;
}
