use Rattle.std.proofs.Common.{◌≡◌, ◌+◌, ◌<◌, true, false, [], ◌∷◌, length, drop, get_or, Err, refl, inl, inr, arith, ap, sym, subst, ℕ}
use Rattle.std.specs.Option.{option_map}
use Rattle.bank_tables.specs.Items.{has}
use Rattle.certificate_model.specs.declared.node.Node.TheVariants.{BranchItem, BranchStimulus, Bound, Ray, Count, Whole, Open, Fix}
use Rattle.certificate_model.specs.declared.node.Node.{Node}
use Rattle.certificate_model.specs.Paths.{Path, with_item, with_stimulus}
use Rattle.certificate_model.specs.Verdicts.{IsSound, IsUnsound, below}
use Rattle.constraint_model.specs.Views.{problem_of}
use Rattle.certificate_check.specs.declared.cut.Cut.{Cut}
use Rattle.certificate_check.specs.declared.walk.Unsound.{Unsound}
use Rattle.certificate_check.specs.Walks.{IsWalk}
use Rattle.certificate_check.specs.Fixes.{onward}
use Rattle.std.proofs.lemmas.Grind.{common_steps}
use Rattle.certificate_check.specs.Cuts.{path_of}
use Rattle.certificate_check.proofs.WalkSteps.{read_here, begins_within, both_walks, leaf_passes, open_leaf_passes, left_fails, fails_here, fix_walks}
use Rattle.certificate_check.proofs.walk.+walk.Goals as goal

pub returns-in_err-walked-in-BranchItem : goal.returns-in_err-walked-in-BranchItem
returns-in_err-walked-in-BranchItem t c =
    let P = problem_of c.args.problem.now in
    let X = option_map has c.args.form.now in
    let T = c.args.tree.now in
    let p : Path = path_of c.args.cut.now in
    let left : Path = path_of c.below_item-left.result in
    let item = c.in-BranchItem.item in
    let same : path_of c.standing_on-standing.result.cut ≡ p = ap (λ (cut : Cut). path_of cut) c.standing_on-standing.ensures.cut in
    let l : left ≡ with_item p item true = c.below_item-left.ensures in
    let two : below P T p (BranchItem item) ≡ left ∷ with_item p item false ∷ [] = rw l refl in
    let within : c.args.at < length T.nodes = begins_within T.nodes c.args.at c.requires.tree.0 c.requires.tree.1 in
    let here : drop c.args.at T.nodes ≡ BranchItem item ∷ drop (c.args.at + 1) T.nodes = read_here c.nodes.result.now T.nodes c.args.at (BranchItem 0) (BranchItem item) c.nodes.ensures.nodes c.in-BranchItem.is within in
    let sound : IsSound P X T p (BranchItem item) = subst (λ (q : Path). IsSound P X T q (BranchItem item)) same (subst (IsSound P X T (path_of c.standing_on-standing.result.cut)) c.in-BranchItem.is c.in_ok-onward.ensures.0) in
    let u : Unsound = c.in_err-walked-in-BranchItem.field-0.0 in
    let first : IsWalk P X T (c.args.at + 1) c.args.open_leaves left (Err u) = c.in_err-walked-in-BranchItem.ensures in
    let fails : IsWalk P X T c.args.at c.args.open_leaves p (Err u) = left_fails P X T c.args.at c.args.open_leaves p left (with_item p item false) (BranchItem item) u here two refl sound first in
    grind (arith, common_steps)

pub returns-in_ok-walked-in-BranchItem : goal.returns-in_ok-walked-in-BranchItem
returns-in_ok-walked-in-BranchItem t c =
    let P = problem_of c.args.problem.now in
    let X = option_map has c.args.form.now in
    let T = c.args.tree.now in
    let p : Path = path_of c.args.cut.now in
    let left : Path = path_of c.below_item-left.result in
    let right : Path = path_of c.below_item-right.result in
    let item = c.in-BranchItem.item in
    let same : path_of c.standing_on-standing.result.cut ≡ p = ap (λ (cut : Cut). path_of cut) c.standing_on-standing.ensures.cut in
    let l : left ≡ with_item p item true = c.below_item-left.ensures in
    let r : right ≡ with_item p item false = c.below_item-right.ensures in
    let two : below P T p (BranchItem item) ≡ left ∷ right ∷ [] = rw (l, r) refl in
    let within : c.args.at < length T.nodes = begins_within T.nodes c.args.at c.requires.tree.0 c.requires.tree.1 in
    let here : drop c.args.at T.nodes ≡ BranchItem item ∷ drop (c.args.at + 1) T.nodes = read_here c.nodes.result.now T.nodes c.args.at (BranchItem 0) (BranchItem item) c.nodes.ensures.nodes c.in-BranchItem.is within in
    let sound : IsSound P X T p (BranchItem item) = subst (λ (q : Path). IsSound P X T q (BranchItem item)) same (subst (IsSound P X T (path_of c.standing_on-standing.result.cut)) c.in-BranchItem.is c.in_ok-onward.ensures.0) in
    both_walks P X T c.args.at c.args.open_leaves p left right (BranchItem item) here two refl (λ nodes wait h. h) sound c.in_ok-walked-in-BranchItem.walked.next c.in_ok-walked-in-BranchItem.walked.open_leaves c.in_ok-walked-in-BranchItem.ensures c.walk-in-BranchItem.result c.walk-in-BranchItem.ensures

pub returns-in_ok-walked-in-BranchStimulus : goal.returns-in_ok-walked-in-BranchStimulus
returns-in_ok-walked-in-BranchStimulus t c =
    let P = problem_of c.args.problem.now in
    let X = option_map has c.args.form.now in
    let T = c.args.tree.now in
    let p : Path = path_of c.args.cut.now in
    let left : Path = path_of c.below_stimulus-left.result in
    let right : Path = path_of c.below_stimulus-right.result in
    let s = c.in-BranchStimulus.which in
    let same : path_of c.standing_on-standing.result.cut ≡ p = ap (λ (cut : Cut). path_of cut) c.standing_on-standing.ensures.cut in
    let l : left ≡ with_stimulus P p s true = subst (λ (q : Path). left ≡ with_stimulus P q s true) same c.below_stimulus-left.ensures in
    let r : right ≡ with_stimulus P p s false = subst (λ (q : Path). right ≡ with_stimulus P q s false) same c.below_stimulus-right.ensures in
    let two : below P T p (BranchStimulus s) ≡ left ∷ right ∷ [] = rw (l, r) refl in
    let within : c.args.at < length T.nodes = begins_within T.nodes c.args.at c.requires.tree.0 c.requires.tree.1 in
    let here : drop c.args.at T.nodes ≡ BranchStimulus s ∷ drop (c.args.at + 1) T.nodes = read_here c.nodes.result.now T.nodes c.args.at (BranchItem 0) (BranchStimulus s) c.nodes.ensures.nodes c.in-BranchStimulus.is within in
    let sound : IsSound P X T p (BranchStimulus s) = subst (λ (q : Path). IsSound P X T q (BranchStimulus s)) same (subst (IsSound P X T (path_of c.standing_on-standing.result.cut)) c.in-BranchStimulus.is c.in_ok-onward.ensures.0) in
    both_walks P X T c.args.at c.args.open_leaves p left right (BranchStimulus s) here two refl (λ nodes wait h. h) sound c.in_ok-walked-in-BranchStimulus.walked.next c.in_ok-walked-in-BranchStimulus.walked.open_leaves c.in_ok-walked-in-BranchStimulus.ensures c.walk-in-BranchStimulus-2.result c.walk-in-BranchStimulus-2.ensures

pub returns-in-Bound : goal.returns-in-Bound
returns-in-Bound t c =
    let P = problem_of c.args.problem.now in
    let X = option_map has c.args.form.now in
    let T = c.args.tree.now in
    let p : Path = path_of c.args.cut.now in
    let q : Path = path_of c.standing_on-standing.result.cut in
    let same : q ≡ p = ap (λ (cut : Cut). path_of cut) c.standing_on-standing.ensures.cut in
    let within : c.args.at < length T.nodes = begins_within T.nodes c.args.at c.requires.tree.0 c.requires.tree.1 in
    let at = read_here c.nodes.result.now T.nodes c.args.at (BranchItem 0) in
    elim c.in-Bound.is [
      | inl bound ↦ leaf_passes P X T c.args.at c.args.open_leaves p (Bound bound.0) (at (Bound bound.0) c.nodes.ensures.nodes bound.1 within) within refl refl (λ nodes wait h. h) (subst (λ (q : Path). IsSound P X T q (Bound bound.0)) same (subst (IsSound P X T q) bound.1 c.in_ok-onward.ensures.0))
      | inr rest ↦
          elim rest [
            | inl ray ↦ leaf_passes P X T c.args.at c.args.open_leaves p (Ray ray.0) (at (Ray ray.0) c.nodes.ensures.nodes ray.1 within) within refl refl (λ nodes wait h. h) (subst (λ (q : Path). IsSound P X T q (Ray ray.0)) same (subst (IsSound P X T q) ray.1 c.in_ok-onward.ensures.0))
            | inr rest ↦
                elim rest [
                  | inl count ↦ leaf_passes P X T c.args.at c.args.open_leaves p (Count count.0) (at (Count count.0) c.nodes.ensures.nodes count.1 within) within refl refl (λ nodes wait h. h) (subst (λ (q : Path). IsSound P X T q (Count count.0)) same (subst (IsSound P X T q) count.1 c.in_ok-onward.ensures.0))
                  | inr whole ↦ leaf_passes P X T c.args.at c.args.open_leaves p Whole (at Whole c.nodes.ensures.nodes whole within) within refl refl (λ nodes wait h. h) (subst (λ (q : Path). IsSound P X T q Whole) same (subst (IsSound P X T q) whole c.in_ok-onward.ensures.0))
                ]
          ]
    ]

pub bounds-nodes-at : goal.bounds-nodes-at
bounds-nodes-at t c = grind (arith, common_steps)

pub returns-in_err-onward : goal.returns-in_err-onward
returns-in_err-onward t c =
    let P = problem_of c.args.problem.now in
    let X = option_map has c.args.form.now in
    let T = c.args.tree.now in
    let p : Path = path_of c.args.cut.now in
    let node : Node = get_or c.nodes.result.now c.args.at (BranchItem 0) in
    let same : path_of c.standing_on-standing.result.cut ≡ p = ap (λ (cut : Cut). path_of cut) c.standing_on-standing.ensures.cut in
    let within : c.args.at < length T.nodes = begins_within T.nodes c.args.at c.requires.tree.0 c.requires.tree.1 in
    let here : drop c.args.at T.nodes ≡ node ∷ drop (c.args.at + 1) T.nodes = read_here c.nodes.result.now T.nodes c.args.at (BranchItem 0) node c.nodes.ensures.nodes refl within in
    let u : Unsound = c.in_err-onward.field-0.0 in
    let fails : IsWalk P X T c.args.at c.args.open_leaves p (Err (record { node = c.args.at; reason = u.reason })) = fails_here P X T c.args.at c.args.open_leaves p node u.reason here (subst (λ (q : Path). IsUnsound P X T q node u.reason) same c.in_err-onward.ensures.1) in
    let fails_at : IsWalk P X T c.args.at c.args.open_leaves p (Err u) = subst (λ (n : ℕ). IsWalk P X T c.args.at c.args.open_leaves p (Err (record { node = n; reason = u.reason }))) (sym c.in_err-onward.ensures.0) fails in
    grind (arith, common_steps)

pub returns-in-Fix : goal.returns-in-Fix
returns-in-Fix t c =
    let P = problem_of c.args.problem.now in
    let X = option_map has c.args.form.now in
    let T = c.args.tree.now in
    let p : Path = path_of c.args.cut.now in
    let q : Path = path_of c.standing_on-standing.result.cut in
    let node : Node = Fix c.in-Fix.field-0 c.in-Fix.field-1 in
    let same : q ≡ p = ap (λ (cut : Cut). path_of cut) c.standing_on-standing.ensures.cut in
    let within : c.args.at < length T.nodes = begins_within T.nodes c.args.at c.requires.tree.0 c.requires.tree.1 in
    let here : drop c.args.at T.nodes ≡ node ∷ drop (c.args.at + 1) T.nodes = read_here c.nodes.result.now T.nodes c.args.at (BranchItem 0) node c.nodes.ensures.nodes c.in-Fix.is within in
    let sound : IsSound P X T p node = subst (λ (r : Path). IsSound P X T r node) same (subst (IsSound P X T q) c.in-Fix.is c.in_ok-onward.ensures.0) in
    let below_it : path_of c.in_ok-onward.onward ≡ onward P T p node = subst (λ (r : Path). path_of c.in_ok-onward.onward ≡ onward P T r node) same (subst (λ (n : Node). path_of c.in_ok-onward.onward ≡ onward P T q n) c.in-Fix.is c.in_ok-onward.ensures.1) in
    fix_walks P X T c.args.at c.args.open_leaves p (onward P T p node) node here refl refl (λ nodes wait h. h) sound c.walk-in-Fix.result (subst (λ (r : Path). IsWalk P X T (c.args.at + 1) c.args.open_leaves r c.walk-in-Fix.result) below_it c.walk-in-Fix.ensures)

pub overflow_add-at-in-Fix : goal.overflow_add-at-in-Fix
overflow_add-at-in-Fix t c = grind (arith, common_steps)

pub walk-requires-in-Fix : goal.walk-requires-in-Fix
walk-requires-in-Fix t c = grind (arith, common_steps)

pub overflow_add-at : goal.overflow_add-at
overflow_add-at t c = grind (arith, common_steps)

pub walk-requires : goal.walk-requires
walk-requires t c = grind (arith, common_steps)

pub walk-requires-in-BranchItem : goal.walk-requires-in-BranchItem
walk-requires-in-BranchItem t c = grind (arith, common_steps)

pub overflow_add-at-in-BranchStimulus : goal.overflow_add-at-in-BranchStimulus
overflow_add-at-in-BranchStimulus t c = grind (arith, common_steps)

pub walk-requires-in-BranchStimulus : goal.walk-requires-in-BranchStimulus
walk-requires-in-BranchStimulus t c = grind (arith, common_steps)

pub returns-in_err-walked-in-BranchStimulus : goal.returns-in_err-walked-in-BranchStimulus
returns-in_err-walked-in-BranchStimulus t c =
    let P = problem_of c.args.problem.now in
    let X = option_map has c.args.form.now in
    let T = c.args.tree.now in
    let p : Path = path_of c.args.cut.now in
    let left : Path = path_of c.below_stimulus-left.result in
    let s = c.in-BranchStimulus.which in
    let same : path_of c.standing_on-standing.result.cut ≡ p = ap (λ (cut : Cut). path_of cut) c.standing_on-standing.ensures.cut in
    let l : left ≡ with_stimulus P p s true = subst (λ (q : Path). left ≡ with_stimulus P q s true) same c.below_stimulus-left.ensures in
    let two : below P T p (BranchStimulus s) ≡ left ∷ with_stimulus P p s false ∷ [] = rw l refl in
    let within : c.args.at < length T.nodes = begins_within T.nodes c.args.at c.requires.tree.0 c.requires.tree.1 in
    let here : drop c.args.at T.nodes ≡ BranchStimulus s ∷ drop (c.args.at + 1) T.nodes = read_here c.nodes.result.now T.nodes c.args.at (BranchItem 0) (BranchStimulus s) c.nodes.ensures.nodes c.in-BranchStimulus.is within in
    let sound : IsSound P X T p (BranchStimulus s) = subst (λ (q : Path). IsSound P X T q (BranchStimulus s)) same (subst (IsSound P X T (path_of c.standing_on-standing.result.cut)) c.in-BranchStimulus.is c.in_ok-onward.ensures.0) in
    let u : Unsound = c.in_err-walked-in-BranchStimulus.field-0.0 in
    let fails : IsWalk P X T c.args.at c.args.open_leaves p (Err u) = left_fails P X T c.args.at c.args.open_leaves p left (with_stimulus P p s false) (BranchStimulus s) u here two refl sound c.in_err-walked-in-BranchStimulus.ensures in
    grind (arith, common_steps)

pub walk-requires-in-BranchStimulus-2 : goal.walk-requires-in-BranchStimulus-2
walk-requires-in-BranchStimulus-2 t c = grind (arith, common_steps)

pub overflow_add-result : goal.overflow_add-result
overflow_add-result t c = grind (arith, common_steps)

pub overflow_add-result-in-Open : goal.overflow_add-result-in-Open
overflow_add-result-in-Open t c = grind (arith, common_steps)

pub overflow_add-result-in-Bound : goal.overflow_add-result-in-Bound
overflow_add-result-in-Bound t c = grind (arith, common_steps)

pub returns-in-Open : goal.returns-in-Open
returns-in-Open t c =
    let P = problem_of c.args.problem.now in
    let X = option_map has c.args.form.now in
    let T = c.args.tree.now in
    let p : Path = path_of c.args.cut.now in
    let same : path_of c.standing_on-standing.result.cut ≡ p = ap (λ (cut : Cut). path_of cut) c.standing_on-standing.ensures.cut in
    let within : c.args.at < length T.nodes = begins_within T.nodes c.args.at c.requires.tree.0 c.requires.tree.1 in
    let here : drop c.args.at T.nodes ≡ Open ∷ drop (c.args.at + 1) T.nodes = read_here c.nodes.result.now T.nodes c.args.at (BranchItem 0) Open c.nodes.ensures.nodes c.in-Open.is within in
    let sound : IsSound P X T p Open = subst (λ (q : Path). IsSound P X T q Open) same (subst (IsSound P X T (path_of c.standing_on-standing.result.cut)) c.in-Open.is c.in_ok-onward.ensures.0) in
    open_leaf_passes P X T c.args.at c.args.open_leaves p here within c.requires.few sound
