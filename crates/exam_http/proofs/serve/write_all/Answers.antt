use Rattle.std.proofs.Common.{◌≡◌, ◌≤◌, ◌+◌, ◌-◌, ℕ, List, IsTrue, length, drop, ap, subst, sym, ◌∙◌, arith, length-drop}
use Rattle.exam_http.proofs.AfterMessages.{written_more}
use Rattle.exam_http.proofs.serve.write_all.Goals as goal

pub pieces-preserved : goal.pieces-preserved
pieces-preserved g c =
    let text = c.args.text.now in
    let piece = c.split_at.result.1.now in
    let back : piece ≡ drop c.pieces.done text = c.split_at.ensures.back in
    let size : length piece ≡ length text - c.pieces.done = ap (λ (x : List ℕ). length x) back ∙ length-drop c.pieces.done text in
    let count : c.in-Ok.count ≤ length piece = c.in-Ok.ensures.count in
    let within = c.pieces.invariant.within in
    let frame = c.pieces.invariant.frame in
    let before = g.K.Link.written c.args.link.now in
    record {
      within = omega (arith, count, size, within);
      written = λ tells.
          let told : IsTrue (g.K.Link.tells c.pieces.link) = rw frame.tells tells in
          c.in-Ok.ensures.written told
          ∙ written_more before (g.K.Link.written c.pieces.link) text piece c.pieces.done c.in-Ok.count (c.pieces.invariant.written tells) back within;
      left = λ tells.
          let told : IsTrue (g.K.Link.tells c.pieces.link) = rw frame.tells tells in
          c.in-Ok.ensures.left told ∙ c.pieces.invariant.left tells;
      allows = λ said was. c.in-Ok.ensures.allows said (c.pieces.invariant.allows said was);
      frame = record {
        grows = omega (arith, frame.grows, c.in-Ok.ensures.frame.grows);
        tells = c.in-Ok.ensures.frame.tells ∙ frame.tells;
        identity = c.in-Ok.ensures.frame.identity ∙ frame.identity;
      };
    }

pub write-requires : goal.write-requires
write-requires g c = record {
  allowed = λ told k.
      let text = c.args.text.now in
      let piece = c.split_at.result.1.now in
      let back : piece ≡ drop c.pieces.done text = c.split_at.ensures.back in
      let tells : IsTrue (g.K.Link.tells c.args.link.now) = sym c.pieces.invariant.frame.tells ∙ told in
      let is = written_more (g.K.Link.written c.args.link.now) (g.K.Link.written c.pieces.link) text piece c.pieces.done k
      (c.pieces.invariant.written tells) back c.pieces.invariant.within in
      subst (λ (x : List ℕ). g.K.Link.allows c.pieces.link x) (sym is)
      (c.pieces.invariant.allows _ (c.requires tells (c.pieces.done + k)));
}
