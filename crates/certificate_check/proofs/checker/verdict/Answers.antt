use Rattle.std.proofs.Common.{inl, inr, refl, sym, ◌∙◌}
use Rattle.std.specs.Option.{option_map}
use Rattle.std.proofs.Math.Bool.{true≢false}
use Rattle.bank_tables.specs.Items.{has}
use Rattle.certificate_model.specs.Paths.{Path}
use Rattle.constraint_model.specs.Views.{problem_of}
use Rattle.certificate_check.specs.Cuts.{path_of}
use Rattle.certificate_check.proofs.CheckLaws.{whole_walk}
use Rattle.certificate_check.proofs.checker.verdict.Goals as goal

pub returns-then-not-is_form_or_none : goal.returns-then-not-is_form_or_none
returns-then-not-is_form_or_none c =
    let h = c.if-not-is_form_or_none.true in
    let e = c.is_form_or_none.ensures in
    inr (λ form. absurd (true≢false (sym (e.1 form) ∙ h)), refl)

pub returns-in-Ok : goal.returns-in-Ok
returns-in-Ok c =
    let P = problem_of c.args.problem.now in
    let X = option_map has c.args.form.now in
    let p : Path = path_of c.root_cut.result in
    let h = c.if-not-is_form_or_none.false in
    let e = c.is_form_or_none.ensures in
    inl (e.0 h, whole_walk P X c.args.tree.now p c.in-Ok.walked.next c.in-Ok.walked.open_leaves c.verdict_of.result c.root_cut.ensures c.nodes.ensures.tree.shape.one_tree c.in-Ok.ensures c.verdict_of.ensures)
