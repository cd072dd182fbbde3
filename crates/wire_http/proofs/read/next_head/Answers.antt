use Rattle.std.proofs.Common.{rules, arith, inr, inl}
use Rattle.std.proofs.lemmas.Grind.{common_steps}
use Rattle.wire_http.specs.Messages.{bytes_of}
use Rattle.wire_http.proofs.HeadLaws.{head_seen, bad_seen, long_seen}
use Rattle.wire_http.proofs.read.next_head.Goals as goal

pub returns-in-Ok-Whole-clause-head : goal.returns-in-Ok-Whole-clause-head
returns-in-Ok-Whole-clause-head g c =
    let found = rw (c.in-Ok-Whole.field-0-is, c.as_slice-in-pieces.ensures) at c.in-Ok-Whole.ensures in
    head_seen (bytes_of c.pieces.kept) c.min-seen.result c.in-Ok-Whole.head (omega arith) (search rules) found

pub returns-in-Ok-NoHead-clause-fault : goal.returns-in-Ok-NoHead-clause-fault
returns-in-Ok-NoHead-clause-fault g c tells =
    let found = rw (c.in-Ok-NoHead.field-0-is, c.as_slice-in-pieces.ensures) at c.in-Ok-NoHead.ensures in
    let whole = c.pieces.invariant.bytes tells in
    let left = g.K.Link.left c.pieces.link in
    inr (inl (bad_seen (bytes_of c.pieces.kept) left _ c.min-seen.result whole (omega arith) (search rules) found))

pub returns-then-seen-eq8192-clause-fault : goal.returns-then-seen-eq8192-clause-fault
returns-then-seen-eq8192-clause-fault g c tells =
    let found = rw (c.in-Ok-Part.field-0-is, c.as_slice-in-pieces.ensures) at c.in-Ok-Part.ensures in
    let whole = c.pieces.invariant.bytes tells in
    let left = g.K.Link.left c.pieces.link in
    inr (long_seen (bytes_of c.pieces.kept) left _ c.min-seen.result whole c.if-seen-eq8192.true (search rules) found)

pub returns-then-seen-eq0-clause-none : goal.returns-then-seen-eq0-clause-none
returns-then-seen-eq0-clause-none g c = grind (arith, common_steps)

pub returns-then-not-branch-clause-fault : goal.returns-then-not-branch-clause-fault
returns-then-not-branch-clause-fault g c = grind (arith, common_steps)

pub pieces-smaller : goal.pieces-smaller
pieces-smaller g c = search rules
