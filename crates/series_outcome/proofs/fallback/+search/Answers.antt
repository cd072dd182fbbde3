use Rattle.std.proofs.Common.{◌-◌, [], ◌∷◌, subst, arith}
use Rattle.series_model.specs.declared.node.SeriesNode.TheVariants.{Open}
use Rattle.series_model.specs.SeriesPaths.{SeriesPath}
use Rattle.series_check.specs.Cuts.{problem_of, path_of}
use Rattle.series_outcome.specs.Searches.{value_known, Adds}
use Rattle.series_outcome.proofs.LeafLaws.{branch_suits}
use Rattle.series_outcome.proofs.SearchLaws.{leaf_search, open_search, branch_adds}
use Rattle.series_outcome.proofs.fallback.+search.Goals as goal

pub returns-in-Some-clause-adds : goal.returns-in-Some-clause-adds
returns-in-Some-clause-adds t c =
    record {
      nodes = c.in-Some.end ∷ [];
      added = c.in_ok-push.ensures.items;
      search = leaf_search (problem_of c.args.setting.now) (path_of c.args.cut.now) (value_known c.args.state.now.best) (value_known c.leaf.new.best) c.args.state.now.branches c.in-Some.end c.in-Some.ensures.leaf;
    }

pub returns-then-state-eq0-clause-adds : goal.returns-then-state-eq0-clause-adds
returns-then-state-eq0-clause-adds t c =
    record {
      nodes = Open ∷ [];
      added = c.in_ok-push-2.ensures.items;
      search = open_search (problem_of c.args.setting.now) (path_of c.args.cut.now) (value_known c.args.state.now.best) (value_known c.leaf.new.best) c.args.state.now.branches c.in_default.ensures.leaf c.if-state-eq0.true;
    }

pub returns-clause-adds : goal.returns-clause-adds
returns-clause-adds t c =
    let Q = problem_of c.args.setting.now in
    let p : SeriesPath = path_of c.args.cut.now in
    let f = c.free_item-form.result.form in
    let i = c.free_item-form.result.item in
    let C = value_known c.leaf.new.best in
    let D = value_known c.search.new.state.best in
    let E = value_known c.search-2.new.state.best in
    let k = c.args.state.now.branches in
    let m = c.search.new.state.branches in
    let n = c.search-2.new.state.branches in
    let here = c.push-2.new.self.items in
    let between = c.search.new.state.nodes.items in
    let after = c.search-2.new.state.nodes.items in
    let first = subst (λ (q : SeriesPath). Adds Q q C (k - 1) here D m between) c.below_form-left.ensures c.in_ok-search.ensures.adds in
    let second = subst (λ (q : SeriesPath). Adds Q q D m between E n after) c.below_form-right.ensures c.in_ok-search-2.ensures.adds in
    branch_adds Q p f i (value_known c.args.state.now.best) C D E (k - 1) k m n c.args.state.now.nodes.items here between after c.in_default.ensures.leaf (branch_suits Q p f i c.requires.problem c.in_default.ensures.leaf.possible c.free_item-form.ensures.branch) c.free_item-form.ensures.branch (omega arith) c.in_ok-push-3.ensures.items first second

pub search-requires : goal.search-requires
search-requires t c = (omega arith, (c.requires.problem, c.leaf.ensures.known))

pub search-requires-2 : goal.search-requires-2
search-requires-2 t c = let number = c.in_ok-search.ensures.adds.search.number in (omega arith, (c.requires.problem, c.in_ok-search.ensures.known))
