use Rattle.std.proofs.Common.{◌≡◌, ℕ, zero, suc, ◌<◌, true, false, sym, subst, ◌∙◌, arith, Some}
use Rattle.std.proofs.Math.Bool.{true≢false}
use Rattle.std.specs.Option.{option_map}
use Rattle.bank_tables.specs.Items.{has}
use Rattle.certificate_model.specs.declared.verdict.Verdict.{Verdict}
use Rattle.certificate_model.specs.declared.verdict.Verdict.TheVariants.{Optimal, Partial}
use Rattle.certificate_model.specs.Spending.{open_leaves}
use Rattle.certificate_model.specs.Verdicts.{verdict_of, IsVerdict}
use Rattle.constraint_model.specs.Views.{problem_of}
use Rattle.branch_bound.specs.declared.outcome.Outcome.TheVariants.{Found}
use Rattle.branch_bound.specs.Showing.{Shows}
use Rattle.branch_bound.proofs.OutcomeLaws.{best_shown, firm_shown, verdict_of_some}
use Rattle.branch_bound.proofs.fallback.outcome_of.Goals as goal

none_open : (k : ℕ) → (0 < k → ⊥) → k ≡ 0
none_open zero h = sym (omega arith)
none_open (suc k) h = absurd (h (omega arith))

pub returns-in-Some : goal.returns-in-Some
returns-in-Some c = λ T budget is spent.
    let P = problem_of c.args.problem.now in
    let items = c.in-Some.items in
    let k = open_leaves c.args.nodes.now in
    let some : 0 < k = c.has_open_leaf.ensures.0 c.if-has_open_leaf.true in
    let verdict : IsVerdict P (Some (has items)) T (verdict_of (Some (has items)) k) = subst (λ (o : _). IsVerdict P (option_map has o) T (verdict_of (option_map has o) k)) c.in-Some.is is in
    let partial : IsVerdict P (Some (has items)) T (Partial k) = subst (λ (v : Verdict). IsVerdict P (Some (has items)) T v) (verdict_of_some (Some (has items)) k some) verdict in
    subst (λ (o : _). Shows P (option_map has o) T budget (Found c.firm.result false)) (sym c.in-Some.is) (firm_shown P T budget items c.firm.result k partial (spent some) c.firm.ensures.firm c.firm.ensures.no_worse)

pub returns-in-Some-form : goal.returns-in-Some-form
returns-in-Some-form c = λ T budget is spent.
    let P = problem_of c.args.problem.now in
    let items = c.in-Some-form.items in
    let none : open_leaves c.args.nodes.now ≡ 0 = none_open (open_leaves c.args.nodes.now) (λ some. true≢false (sym (c.has_open_leaf.ensures.1 some) ∙ c.if-has_open_leaf.false)) in
    let verdict : IsVerdict P (Some (has items)) T (verdict_of (Some (has items)) (open_leaves c.args.nodes.now)) = subst (λ (o : _). IsVerdict P (option_map has o) T (verdict_of (option_map has o) (open_leaves c.args.nodes.now))) c.in-Some-form.is is in
    let optimal : IsVerdict P (Some (has items)) T Optimal = subst (λ (k : ℕ). IsVerdict P (Some (has items)) T (verdict_of (Some (has items)) k)) none verdict in
    subst (λ (o : _). Shows P (option_map has o) T budget (Found items true)) (sym c.in-Some-form.is) (best_shown P T budget items optimal)
