use Rattle.std.proofs.Common.{◌≡◌, ◌||◌, ap₂, Bool, true, sym, ◌∙◌, ap, subst}
use Rattle.std.proofs.Math.Path.{fun_ext}
use Rattle.bank_tables.specs.Items.{Set, has}
use Rattle.bank_tables.specs.Validity.{HoldsItems}
use Rattle.certificate_model.specs.Counting.{taken_or_free}
use Rattle.certificate_model.specs.Paths.{is_free}
use Rattle.constraint_model.specs.Views.{problem_of}
use Rattle.branch_bound.proofs.LeafLaws.{none_free, full_of_taken, full_of_all, several_left, candidate_found, counts_as, may_hold_in_bank}
use Rattle.branch_bound.proofs.fallback.only_candidate.Goals as goal

pub returns-in_default : goal.returns-in_default
returns-in_default c = λ p is.
    let P = problem_of c.args.problem.now in
    candidate_found P p (has c.args.cut.now.taken) p.taken is.taken (none_free P p (λ i. sym (ap (λ (X : Set). X i) is.free) ∙ c.in_default.ensures.lowest i))

pub returns-then-count-length : goal.returns-then-count-length
returns-then-count-length c = λ p is.
    let P = problem_of c.args.problem.now in
    let X : Set = has c.args.cut.now.taken in
    let counts = counts_as P X p.taken c.count.result c.length-length.result c.requires.well_made.bank c.requires.taken is.taken c.count.ensures.count c.length-length.ensures in
    candidate_found P p X p.taken is.taken (full_of_taken P p (counts.0 c.if-count-length.true))

pub returns-then-count-length-2 : goal.returns-then-count-length-2
returns-then-count-length-2 c = λ p is.
    let P = problem_of c.args.problem.now in
    let X : Set = has c.args.cut.now.taken in
    let Y : Set = has c.union-may_hold.result in
    let number = c.length-length.ensures in
    let counts = counts_as P X p.taken c.count.result c.length-length.result c.requires.well_made.bank c.requires.taken is.taken c.count.ensures.count number in
    let same : Y ≡ taken_or_free P p = fun_ext (λ i. c.union-may_hold.ensures i ∙ ap₂ (λ (a b : Bool). a || b) (ap (λ (Z : Set). Z i) is.taken) (ap (λ (Z : Set). Z i) is.free)) in
    let within : HoldsItems P.bank Y = subst (HoldsItems P.bank) (sym same) (may_hold_in_bank P p (subst (HoldsItems P.bank) is.taken c.requires.taken)) in
    let all = counts_as P Y (taken_or_free P p) c.count-2.result c.length-length.result c.requires.well_made.bank within same c.count-2.ensures.count number in
    let free : is_free P p c.in-Some._lowest ≡ true = sym (ap (λ (Z : Set). Z c.in-Some._lowest) is.free) ∙ c.in-Some.ensures.lowest.member in
    candidate_found P p Y (taken_or_free P p) same (full_of_all P p c.in-Some._lowest free (λ e. c.if-count-length.false (counts.1 e)) (all.0 c.if-count-length-2.true))

pub returns : goal.returns
returns c = λ p is.
    let P = problem_of c.args.problem.now in
    let X : Set = has c.args.cut.now.taken in
    let Y : Set = has c.union-may_hold.result in
    let number = c.length-length.ensures in
    let counts = counts_as P X p.taken c.count.result c.length-length.result c.requires.well_made.bank c.requires.taken is.taken c.count.ensures.count number in
    let same : Y ≡ taken_or_free P p = fun_ext (λ i. c.union-may_hold.ensures i ∙ ap₂ (λ (a b : Bool). a || b) (ap (λ (Z : Set). Z i) is.taken) (ap (λ (Z : Set). Z i) is.free)) in
    let within : HoldsItems P.bank Y = subst (HoldsItems P.bank) (sym same) (may_hold_in_bank P p (subst (HoldsItems P.bank) is.taken c.requires.taken)) in
    let all = counts_as P Y (taken_or_free P p) c.count-2.result c.length-length.result c.requires.well_made.bank within same c.count-2.ensures.count number in
    let free : is_free P p c.in-Some._lowest ≡ true = sym (ap (λ (Z : Set). Z c.in-Some._lowest) is.free) ∙ c.in-Some.ensures.lowest.member in
    sym (several_left P p c.in-Some._lowest free (λ e. c.if-count-length.false (counts.1 e)) (λ e. c.if-count-length-2.false (all.1 e)))
