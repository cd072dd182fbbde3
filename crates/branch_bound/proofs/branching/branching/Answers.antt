use Rattle.std.proofs.Common.{◌≡◌, true, Some, None, sym, ◌∙◌, ap, arith}
use Rattle.bank_tables.specs.Items.{Set}
use Rattle.certificate_model.specs.Paths.{is_open}
use Rattle.constraint_model.specs.Views.{problem_of}
use Rattle.branch_bound.proofs.LeafLaws.{open_is_branch, few_stimuli, none_free}
use Rattle.branch_bound.proofs.branching.branching.Goals as goal

pub overflow_cast-result : goal.overflow_cast-result
overflow_cast-result c =
    let P = problem_of c.args.problem.now in
    let cut = c.requires.cut in
    let is : is_open P cut.path c.in-Some.stimulus ≡ true = sym (ap (λ (X : Set). X c.in-Some.stimulus) cut.is.opened) ∙ c.in-Some.ensures.lowest.member in
    let last = (open_is_branch P cut.path c.in-Some.stimulus is).last in
    let few = few_stimuli P c.requires.well_made.bank in
    omega arith

pub returns-in-Some : goal.returns-in-Some
returns-in-Some c = λ p cut_is.
    open_is_branch (problem_of c.args.problem.now) p c.in-Some.stimulus (sym (ap (λ (X : Set). X c.in-Some.stimulus) cut_is.opened) ∙ c.in-Some.ensures.lowest.member)

pub unreachable-requires : goal.unreachable-requires
unreachable-requires c =
    let P = problem_of c.args.problem.now in
    let cut = c.requires.cut in
    let candidate = none_free P cut.path (λ i. sym (ap (λ (X : Set). X i) cut.is.free) ∙ c.in-None.ensures.lowest i) in
    let several = c.requires.several cut.path cut.is in
    let clash : Some cut.path.taken ≡ None = sym candidate ∙ several in
    cc
