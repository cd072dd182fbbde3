use Rattle.std.proofs.Common.{sym, ◌∙◌}
use Rattle.std.proofs.Math.Bool.{true≢false}
use Rattle.constraint_model.specs.Views.{problem_of}
use Rattle.certificate_check.specs.Cuts.{path_of}
use Rattle.certificate_check.proofs.RowsByNumber.{all_possible, then_length, then_row, then_stimulus}
use Rattle.certificate_check.proofs.counting.is_possible.Goals as goal

pub returns-then-length_impossible : goal.returns-then-length_impossible
returns-then-length_impossible c =
    let P = problem_of c.args.problem.now in
    let p = path_of c.args.standing.now.cut in (
      λ h. absurd (true≢false (sym h)),
      λ none. absurd (true≢false (sym c.if-length_impossible.true ∙ c.length_impossible.ensures ∙ then_length P p none)),
    )

pub returns-then-not-are_rows_possible : goal.returns-then-not-are_rows_possible
returns-then-not-are_rows_possible c =
    let P = problem_of c.args.problem.now in
    let p = path_of c.args.standing.now.cut in (
      λ h. absurd (true≢false (sym h)),
      λ none. absurd (true≢false (sym (c.are_rows_possible.ensures.1 (then_row P p none)) ∙ c.if-not-are_rows_possible.true)),
    )

pub returns : goal.returns
returns c =
    let P = problem_of c.args.problem.now in
    let p = path_of c.args.standing.now.cut in (
      λ h. all_possible P p (sym c.length_impossible.ensures ∙ c.if-length_impossible.false) (c.are_rows_possible.ensures.0 c.if-not-are_rows_possible.false) (c.are_stimuli_possible.ensures.0 h),
      λ none. c.are_stimuli_possible.ensures.1 (then_stimulus P p none),
    )
