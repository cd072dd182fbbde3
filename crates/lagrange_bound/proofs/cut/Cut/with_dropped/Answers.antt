use Rattle.bank_tables.specs.Items.{Set, has}
use Rattle.constraint_model.specs.Views.{problem_of}
use Rattle.lagrange_bound.proofs.Branches.{free_dropped, out_dropped, open_dropped}
use Rattle.lagrange_bound.proofs.cut.Cut.with_dropped.Goals as goal

pub returns : goal.returns
returns c p is =
    let P = problem_of c.args.problem.now in
    let F : Set = has c.args.self.now.free in
    let L : Set = has c.those_of-dropped.result in
    record {
      taken = is.taken;
      out = out_dropped P p c.args.stimulus F L (has c.args.self.now.out) (has c.union.result) is.free is.out c.those_of-dropped.ensures c.union.ensures;
      free = free_dropped P p c.args.stimulus F L (has c.minus.result) is.free c.those_of-dropped.ensures c.minus.ensures;
      chosen = is.chosen;
      opened = open_dropped P p c.args.stimulus (has c.args.self.now.opened) (has c.without.result) is.opened c.without.ensures;
    }
