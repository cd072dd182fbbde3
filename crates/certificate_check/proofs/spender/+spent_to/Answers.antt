use Rattle.std.proofs.Common.{◌≡◌, ◌+◌, ◌<◌, ◌∷◌, None, length, drop, get_or, inl, inr, refl, ap, sym, subst, arith}
use Rattle.std.proofs.lemmas.Grind.{common_steps}
use Rattle.certificate_model.specs.declared.node.Node.TheVariants.{BranchItem, Bound, Ray, Count, Whole, Open, Fix}
use Rattle.certificate_model.specs.Paths.{Path}
use Rattle.certificate_model.specs.declared.node.Node.{Node}
use Rattle.certificate_model.specs.Spending.{IsSpentNode}
use Rattle.constraint_model.specs.Views.{problem_of}
use Rattle.certificate_check.specs.declared.cut.Cut.{Cut}
use Rattle.certificate_check.specs.Cuts.{path_of}
use Rattle.certificate_check.specs.Fixes.{onward}
use Rattle.certificate_check.specs.Spends.{IsSpending}
use Rattle.certificate_check.proofs.WalkSteps.{read_here, begins_within}
use Rattle.certificate_check.proofs.SpendSteps.{leaf_spends, fix_spends, not_spent}
use Rattle.certificate_check.proofs.spender.+spent_to.Goals as goal

pub returns-in-Bound : goal.returns-in-Bound
returns-in-Bound t c =
    let P = problem_of c.args.problem.now in
    let T = c.args.tree.now in
    let p : Path = path_of c.args.cut.now in
    let q : Path = path_of c.standing_on-standing.result.cut in
    let same : q ≡ p = ap (λ (cut : Cut). path_of cut) c.standing_on-standing.ensures.cut in
    let within : c.args.at < length T.nodes = begins_within T.nodes c.args.at c.requires.tree.0 c.requires.tree.1 in
    let at = read_here c.nodes.result.now T.nodes c.args.at (BranchItem 0) in
    let spent = c.in_ok-onward.ensures.0 in
    elim c.in-Bound.is [
      | inl bound ↦ leaf_spends P T c.args.at p (Bound bound.0) (at (Bound bound.0) c.nodes.ensures.nodes bound.1 within) within refl (λ nodes wait h. h) tt
      | inr rest ↦
          elim rest [
            | inl ray ↦ leaf_spends P T c.args.at p (Ray ray.0) (at (Ray ray.0) c.nodes.ensures.nodes ray.1 within) within refl (λ nodes wait h. h) tt
            | inr rest ↦
                elim rest [
                  | inl count ↦ leaf_spends P T c.args.at p (Count count.0) (at (Count count.0) c.nodes.ensures.nodes count.1 within) within refl (λ nodes wait h. h) tt
                  | inr rest ↦
                      elim rest [
                        | inl whole ↦ leaf_spends P T c.args.at p Whole (at Whole c.nodes.ensures.nodes whole within) within refl (λ nodes wait h. h) tt
                        | inr opened ↦ leaf_spends P T c.args.at p Open (at Open c.nodes.ensures.nodes opened within) within refl (λ nodes wait h. h) (subst (λ (q : Path). IsSpentNode P T q Open) same (subst (IsSpentNode P T q) opened spent))
                      ]
                ]
          ]
    ]

pub bounds-nodes-at : goal.bounds-nodes-at
bounds-nodes-at t c = grind (arith, common_steps)

pub returns-in_err-onward : goal.returns-in_err-onward
returns-in_err-onward t c =
    let P = problem_of c.args.problem.now in
    let T = c.args.tree.now in
    let p : Path = path_of c.args.cut.now in
    let q : Path = path_of c.standing_on-standing.result.cut in
    let node : Node = get_or c.nodes.result.now c.args.at (BranchItem 0) in
    let same : q ≡ p = ap (λ (cut : Cut). path_of cut) c.standing_on-standing.ensures.cut in
    let within : c.args.at < length T.nodes = begins_within T.nodes c.args.at c.requires.tree.0 c.requires.tree.1 in
    let here : drop c.args.at T.nodes ≡ node ∷ drop (c.args.at + 1) T.nodes = read_here c.nodes.result.now T.nodes c.args.at (BranchItem 0) node c.nodes.ensures.nodes refl within in
    let fails : IsSpending P T c.args.at p None = not_spent P T c.args.at p node here (λ spent. c.in_err-onward.ensures (subst (λ (r : Path). IsSpentNode P T r node) (sym same) spent)) in
    grind (arith, common_steps)

pub returns-in-Fix : goal.returns-in-Fix
returns-in-Fix t c =
    let P = problem_of c.args.problem.now in
    let T = c.args.tree.now in
    let p : Path = path_of c.args.cut.now in
    let q : Path = path_of c.standing_on-standing.result.cut in
    let node : Node = Fix c.in-Fix.field-0 c.in-Fix.field-1 in
    let same : q ≡ p = ap (λ (cut : Cut). path_of cut) c.standing_on-standing.ensures.cut in
    let within : c.args.at < length T.nodes = begins_within T.nodes c.args.at c.requires.tree.0 c.requires.tree.1 in
    let here : drop c.args.at T.nodes ≡ node ∷ drop (c.args.at + 1) T.nodes = read_here c.nodes.result.now T.nodes c.args.at (BranchItem 0) node c.nodes.ensures.nodes c.in-Fix.is within in
    let spent : IsSpentNode P T p node = subst (λ (r : Path). IsSpentNode P T r node) same (subst (IsSpentNode P T q) c.in-Fix.is c.in_ok-onward.ensures.0) in
    let below_it : path_of c.in_ok-onward.onward ≡ onward P T p node = subst (λ (r : Path). path_of c.in_ok-onward.onward ≡ onward P T r node) same (subst (λ (n : Node). path_of c.in_ok-onward.onward ≡ onward P T q n) c.in-Fix.is c.in_ok-onward.ensures.1) in
    fix_spends P T c.args.at p (onward P T p node) node here within refl (λ nodes wait h. h) spent c.spent_to-in-Fix.result (subst (λ (r : Path). IsSpending P T (c.args.at + 1) r c.spent_to-in-Fix.result) below_it c.spent_to-in-Fix.ensures)

pub overflow_add-at-in-Fix : goal.overflow_add-at-in-Fix
overflow_add-at-in-Fix t c = grind (arith, common_steps)

pub spent_to-requires-in-Fix : goal.spent_to-requires-in-Fix
spent_to-requires-in-Fix t c = grind (arith, common_steps)

pub overflow_add-at : goal.overflow_add-at
overflow_add-at t c = grind (arith, common_steps)

pub spent_to-requires : goal.spent_to-requires
spent_to-requires t c = grind (arith, common_steps)

pub returns-in_err-next-in-BranchItem : goal.returns-in_err-next-in-BranchItem
returns-in_err-next-in-BranchItem t c = grind (arith, common_steps)

pub spent_to-requires-in-BranchItem : goal.spent_to-requires-in-BranchItem
spent_to-requires-in-BranchItem t c = grind (arith, common_steps)

pub overflow_add-at-in-BranchStimulus : goal.overflow_add-at-in-BranchStimulus
overflow_add-at-in-BranchStimulus t c = grind (arith, common_steps)

pub spent_to-requires-in-BranchStimulus : goal.spent_to-requires-in-BranchStimulus
spent_to-requires-in-BranchStimulus t c = grind (arith, common_steps)

pub returns-in_err-next-in-BranchStimulus : goal.returns-in_err-next-in-BranchStimulus
returns-in_err-next-in-BranchStimulus t c = grind (arith, common_steps)

pub spent_to-requires-in-BranchStimulus-2 : goal.spent_to-requires-in-BranchStimulus-2
spent_to-requires-in-BranchStimulus-2 t c = grind (arith, common_steps)

pub overflow_add-result : goal.overflow_add-result
overflow_add-result t c = grind (arith, common_steps)

pub returns-in_ok-next-in-BranchItem : goal.returns-in_ok-next-in-BranchItem
returns-in_ok-next-in-BranchItem t c = grind (arith, common_steps)

pub returns-in_ok-next-in-BranchStimulus : goal.returns-in_ok-next-in-BranchStimulus
returns-in_ok-next-in-BranchStimulus t c = grind (arith, common_steps)
