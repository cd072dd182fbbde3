use Rattle.std.proofs.Common.{◌≡◌, ◌≤◌, ◌-◌, ◌++◌, ℕ, List, IsTrue, length, take, drop, ap, ◌∙◌, arith, append_assoc, length-drop}
use Rattle.record_links.proofs.Pieces.{piece_more}
use Rattle.record_links.proofs.writing.write_all.Goals as goal

pub pieces-preserved : goal.pieces-preserved
pieces-preserved g c =
    let text = c.args.text.now in
    let piece = c.split_at.result.1.now in
    let back : piece ≡ drop c.pieces.done text = c.split_at.ensures.back in
    let size : length piece ≡ length text - c.pieces.done = ap (λ (x : List ℕ). length x) back ∙ length-drop c.pieces.done text in
    let count : c.in-Ok.count ≤ length piece = c.in-Ok.ensures.count in
    let within = c.pieces.invariant.within in
    let frame = c.pieces.invariant.frame in
    let before = g.K.Link.written c.args.link.now in
    record {
      within = omega (arith, count, size, within);
      written = λ tells.
          let told : IsTrue (g.K.Link.tells c.pieces.link) = rw frame.tells tells in
          c.in-Ok.ensures.written told ∙ ap (λ (x : List ℕ). x ++ take c.in-Ok.count piece) (c.pieces.invariant.written tells)
          ∙ append_assoc before (take c.pieces.done text) (take c.in-Ok.count piece)
          ∙ ap (λ (x : List ℕ). before ++ (take c.pieces.done text ++ take c.in-Ok.count x)) back
          ∙ ap (λ (x : List ℕ). before ++ x) (piece_more text c.pieces.done c.in-Ok.count within);
      left = λ tells.
          let told : IsTrue (g.K.Link.tells c.pieces.link) = rw frame.tells tells in
          c.in-Ok.ensures.left told ∙ c.pieces.invariant.left tells;
      frame = record {
        grows = omega (arith, frame.grows, c.in-Ok.ensures.frame.grows);
        tells = c.in-Ok.ensures.frame.tells ∙ frame.tells;
        identity = c.in-Ok.ensures.frame.identity ∙ frame.identity;
      };
    }
