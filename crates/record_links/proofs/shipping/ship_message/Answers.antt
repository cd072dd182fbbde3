use Rattle.std.proofs.Common.{◌++◌, List, ℕ, IsTrue, inl, sym, ap, ◌∙◌}
use Rattle.record_links.specs.Messages.{bytes_of}
use Rattle.record_links.proofs.Sending.{none_of_one, sent_turn}
use Rattle.record_links.proofs.shipping.ship_message.Goals as goal

pub returns-then-count-all-clause-turns : goal.returns-then-count-all-clause-turns
returns-then-count-all-clause-turns g c reports told =
    let told1 : IsTrue (g.K.Link.tells c.next_have.new.link) = rw c.in-Ok.ensures.frame.tells told in
    let s = c.send_offer.ensures.sends reports told1 in (
      s.0,
      s.1 ∙ ap (λ (l : List ℕ). l ++ s.0) (c.in-Ok.ensures.written told),
      sent_turn _ _ s.0 _ c.in-Ok.count _ c.send_offer.result (c.in-Ok.ensures.have told) s.2
          (ap (λ (l : List ℕ). bytes_of c.next_have.new.kept ++ l) (sym (c.send_offer.ensures.left told1))),
    )

pub returns-then-count-all-clause-done : goal.returns-then-count-all-clause-done
returns-then-count-all-clause-done g c count is = absurd (c.send_offer.ensures.goes_on count is)

pub returns-in-Err-clause-turns : goal.returns-in-Err-clause-turns
returns-in-Err-clause-turns g c reports told =
    let told1 : IsTrue (g.K.Link.tells c.next_have.new.link) = rw c.in-Ok.ensures.frame.tells told in
    let cut = c.in-Err.ensures.part told1 in (
      cut.0,
      cut.2 ∙ ap (λ (l : List ℕ). l ++ cut.0) (c.in-Ok.ensures.written told),
      inl (none_of_one cut.0 3 cut.1),
    )
