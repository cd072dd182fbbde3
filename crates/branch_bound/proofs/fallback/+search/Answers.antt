use Rattle.std.proofs.Common.{◌-◌, true, false, [], ◌∷◌, arith}
use Rattle.std.specs.Option.{option_map}
use Rattle.bank_tables.specs.Items.{has}
use Rattle.certificate_model.specs.declared.node.Node.TheVariants.{Open}
use Rattle.constraint_model.specs.Views.{problem_of}
use Rattle.branch_bound.specs.Searches.{side_of}
use Rattle.branch_bound.proofs.Comparisons.{as_good-trans}
use Rattle.branch_bound.proofs.SearchLaws.{leaf_search}
use Rattle.branch_bound.proofs.SearchSteps.{form_stays, start_stays, open_search, branch_adds, side_taken}
use Rattle.branch_bound.proofs.fallback.+search.Goals as goal

pub returns-in-Some : goal.returns-in-Some
returns-in-Some t c = λ p is.
    let P = problem_of c.args.problem.now in
    record {
      nodes = c.in-Some.end ∷ [];
      added = c.in_ok-push.ensures.items;
      search = leaf_search P p (option_map has c.args.state.now.best) (option_map has c.leaf.new.best) c.args.state.now.branches c.in-Some.end (c.in-Some.ensures p is);
    }

pub returns-then-state-eq0 : goal.returns-then-state-eq0
returns-then-state-eq0 t c = λ p is.
    let P = problem_of c.args.problem.now in
    record {
      nodes = Open ∷ [];
      added = c.in_ok-push-2.ensures.items;
      search = open_search P p (option_map has c.args.state.now.best) (option_map has c.leaf.new.best) (c.in_default.ensures p is) c.args.state.now.branches c.if-state-eq0.true c.requires.form;
    }

pub search-requires : goal.search-requires
search-requires t c =
    let P = problem_of c.args.problem.now in
    let cut = c.requires.cut in
    let B = option_map has c.args.state.now.best in
    let C = option_map has c.leaf.new.best in
    let on = c.in_default.ensures cut.path cut.is in
    let branch = c.branching-branch.ensures cut.path cut.is in
    let left = c.side-left.ensures.paths cut.path cut.is in (
      omega arith,
      (
        c.requires.well_made,
        (
          c.side-left.ensures.cut,
          (
            side_taken P cut.path c.branching-branch.result true (has c.args.cut.now.taken) (has c.side-left.result.taken) branch cut.is.taken c.requires.taken left.taken,
            (c.requires.plain, (form_stays P cut.path B C on c.requires.form, start_stays P cut.path B C on P.start c.requires.start)),
          ),
        ),
      ),
    )

pub search-requires-2 : goal.search-requires-2
search-requires-2 t c =
    let P = problem_of c.args.problem.now in
    let cut = c.requires.cut in
    let B = option_map has c.args.state.now.best in
    let C = option_map has c.leaf.new.best in
    let D = option_map has c.search.new.state.best in
    let on = c.in_default.ensures cut.path cut.is in
    let node = c.branching-branch.result in
    let branch = c.branching-branch.ensures cut.path cut.is in
    let left = c.side-left.ensures.paths cut.path cut.is in
    let right = c.side-right.ensures.paths cut.path cut.is in
    let first = c.in_ok-search.ensures (side_of P cut.path node true) left in
    let number = first.search.number in
    let form = form_stays P cut.path B C on c.requires.form in
    let start = start_stays P cut.path B C on P.start c.requires.start in (
      omega arith,
      (
        c.requires.well_made,
        (
          c.side-right.ensures.cut,
          (
            side_taken P cut.path node false (has c.args.cut.now.taken) (has c.side-right.result.taken) branch cut.is.taken c.requires.taken right.taken,
            (c.requires.plain, (first.search.form, as_good-trans P P.start C D form start first.search.no_worse)),
          ),
        ),
      ),
    )

pub returns : goal.returns
returns t c = λ p is.
    let P = problem_of c.args.problem.now in
    let B = option_map has c.args.state.now.best in
    let C = option_map has c.leaf.new.best in
    let D = option_map has c.search.new.state.best in
    let E = option_map has c.search-2.new.state.best in
    let node = c.branching-branch.result in
    let first = c.in_ok-search.ensures (side_of P p node true) (c.side-left.ensures.paths p is) in
    let second = c.in_ok-search-2.ensures (side_of P p node false) (c.side-right.ensures.paths p is) in
    branch_adds
    P
    p
    B
    C
    (c.in_default.ensures p is)
    node
    D
    E
    (c.args.state.now.branches - 1)
    c.args.state.now.branches
    c.search.new.state.branches
    c.search-2.new.state.branches
    c.args.state.now.nodes.items
    c.push-2.new.self.items
    c.search.new.state.nodes.items
    c.search-2.new.state.nodes.items
    c.requires.well_made.bank
    (c.branching-branch.ensures p is)
    (omega arith)
    c.in_ok-push-3.ensures.items
    first
    second
