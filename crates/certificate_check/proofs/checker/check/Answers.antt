use Rattle.std.proofs.Common.{subst, List, ℕ, Option}
use Rattle.std.specs.Option.{option_map, option_copied}
use Rattle.bank_tables.specs.Items.{has}
use Rattle.certificate_model.specs.Verdicts.{IsVerdict}
use Rattle.constraint_model.specs.Views.{problem_of}
use Rattle.certificate_check.proofs.CheckLaws.{optimal_has_form, no_form_has_none}
use Rattle.certificate_check.proofs.checker.check.Goals as goal

pub returns-clause-verdict : goal.returns-clause-verdict
returns-clause-verdict c = subst (λ (form : Option (List ℕ)). IsVerdict (problem_of c.args.problem.now) (option_map has form) c.args.tree.now c.verdict.result) c.copied.ensures c.verdict.ensures

pub returns-clause-optimal : goal.returns-clause-optimal
returns-clause-optimal c = optimal_has_form (problem_of c.args.problem.now) (option_copied c.args.form) c.args.tree.now c.verdict.result (subst (λ (form : Option (List ℕ)). IsVerdict (problem_of c.args.problem.now) (option_map has form) c.args.tree.now c.verdict.result) c.copied.ensures c.verdict.ensures)

pub returns-clause-no_form : goal.returns-clause-no_form
returns-clause-no_form c = no_form_has_none (problem_of c.args.problem.now) (option_copied c.args.form) c.args.tree.now c.verdict.result (subst (λ (form : Option (List ℕ)). IsVerdict (problem_of c.args.problem.now) (option_map has form) c.args.tree.now c.verdict.result) c.copied.ensures c.verdict.ensures)
