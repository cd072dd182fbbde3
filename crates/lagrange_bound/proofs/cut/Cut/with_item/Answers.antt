use Rattle.lagrange_bound.proofs.cut.Cut.with_item.Goals as goal

pub returns-then-taken : goal.returns-then-taken
returns-then-taken c p is = rw c.if-taken.true (c.with_taken.ensures p is)

pub returns-else-taken : goal.returns-else-taken
returns-else-taken c p is = rw c.if-taken.false (c.with_out.ensures p is)
