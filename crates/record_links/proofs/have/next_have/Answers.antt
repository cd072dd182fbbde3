use Rattle.std.proofs.Common.{◌≡◌, ◌++◌, IsTrue, ap, sym, ◌∙◌, arith}
use Rattle.record_links.specs.Messages.{bytes_of, kind_in, number_in}
use Rattle.record_links.proofs.MessageLaws.{have_here}
use Rattle.record_links.proofs.have.next_have.Goals as goal

pub returns-clause-have : goal.returns-clause-have
returns-clause-have g c told =
    let told1 : IsTrue (g.K.Link.tells c.fill.new.link) = rw c.in_ok-fill.ensures.frame.tells told in
    let e1 = c.in_ok-fill.ensures.left told in
    let e2 = c.in_ok-fill-2.ensures.left told1 ∙ e1 in
    let k = c.if-kind-ne2.false in
    let two : c.kind_of-kind.result ≡ 2 = omega (arith, k) in
    have_here (bytes_of c.args.kept.now ++ g.K.Link.left c.args.link.now)
    (bytes_of c.fill.new.self) (g.K.Link.left c.fill.new.link) (bytes_of c.fill-2.new.self) (g.K.Link.left c.fill-2.new.link)
    (bytes_of c.take.new.self) c.number_of-count.result
    e1 e2
    (c.in_ok-fill.ensures.enough c.if-not-branch.false)
    (sym (c.kind_of-kind.ensures ∙ ap kind_in c.as_slice.ensures) ∙ two)
    (c.in_ok-fill-2.ensures.enough c.if-not-branch-2.false)
    (c.number_of-count.ensures ∙ ap number_in c.as_slice-2.ensures)
    c.in_ok-take.ensures.left
