use Rattle.std.proofs.Common.{◌≡◌, ◌++◌, IsTrue, ap, sym, ◌∙◌, arith}
use Rattle.record_links.specs.Messages.{bytes_of, kind_in, number_in, size_in}
use Rattle.record_links.proofs.MessageLaws.{offer_here}
use Rattle.record_links.proofs.offer.next_offer.Goals as goal

pub returns-clause-next : goal.returns-clause-next
returns-clause-next g c told =
    let told1 : IsTrue (g.K.Link.tells c.fill.new.link) = rw c.in_ok-fill.ensures.frame.tells told in
    let told2 : IsTrue (g.K.Link.tells c.fill-2.new.link) = rw c.in_ok-fill-2.ensures.frame.tells told1 in
    let e1 = c.in_ok-fill.ensures.left told in
    let e2 = c.in_ok-fill-2.ensures.left told1 ∙ e1 in
    let e3 = c.in_ok-fill-3.ensures.left told2 ∙ e2 in
    let k = c.if-kind-ne1.false in
    let one : c.kind_of-kind.result ≡ 1 = omega (arith, k) in
    let z = c.if-size-eq0.false in
    let m = c.if-size-gt131072.false in
    offer_here (bytes_of c.args.kept.now ++ g.K.Link.left c.args.link.now)
    (bytes_of c.fill.new.self) (g.K.Link.left c.fill.new.link) (bytes_of c.fill-2.new.self) (g.K.Link.left c.fill-2.new.link)
    (bytes_of c.fill-3.new.self) (g.K.Link.left c.fill-3.new.link)
    c.size_of-size.result c.number_of-number.result c.in_ok-payload.payload.items (bytes_of c.take.new.self)
    e1 e2 e3
    (c.in_ok-fill.ensures.enough c.if-not-branch.false)
    (sym (c.kind_of-kind.ensures ∙ ap kind_in c.as_slice.ensures) ∙ one)
    (c.in_ok-fill-2.ensures.enough c.if-not-branch-2.false)
    (c.size_of-size.ensures ∙ ap size_in c.as_slice-3.ensures)
    (c.number_of-number.ensures ∙ ap number_in c.as_slice-2.ensures)
    (omega (arith, z))
    (omega (arith, m))
    (c.in_ok-fill-3.ensures.enough c.if-not-branch-3.false)
    c.in_ok-payload.ensures.taken
    c.in_ok-payload.ensures.left
