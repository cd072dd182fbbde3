use Rattle.std.proofs.Common.{◌++◌, List, ℕ, IsTrue, sym, ap, ◌∙◌}
use Rattle.record_links.specs.Messages.{bytes_of}
use Rattle.record_links.proofs.Growing.{answered_turn}
use Rattle.record_links.proofs.streaming.stream_message.Goals as goal

pub returns-in-Ok-clause-turns : goal.returns-in-Ok-clause-turns
returns-in-Ok-clause-turns g c grows told =
    let told1 : IsTrue (g.K.Link.tells c.next_have.new.link) = rw c.in-Ok.ensures.frame.tells told in
    let s = c.send_next.ensures.answers grows told1 in (
      s.0,
      s.1 ∙ ap (λ (l : List ℕ). l ++ s.0) (c.in-Ok.ensures.written told),
      answered_turn _ _ s.0 _ c.in-Ok.number _ c.send_next.result (c.in-Ok.ensures.have told) s.2
          (ap (λ (l : List ℕ). bytes_of c.next_have.new.kept ++ l) (sym (c.send_next.ensures.left told1))),
    )
