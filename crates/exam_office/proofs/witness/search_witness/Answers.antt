use Rattle.std.proofs.Common.{sym}
use Rattle.constraint_model.specs.Views.{problem_of}
use Rattle.exam_office.proofs.Witnesses.{no_form_so, none_so}
use Rattle.exam_office.proofs.witness.search_witness.Goals as goal

pub returns-in-NoForm : goal.returns-in-NoForm
returns-in-NoForm c = record {
  witness = no_form_so c.args.bank.now c.args.spec.now c.args.items.now (problem_of c.whole_without-problem.result) c.whole_without-problem.ensures.whole
      c.in-Ok.assembled.outcome c.in-Ok.ensures.is_true (sym c.in-NoForm.ensures.outcome);
}

pub returns-in-Ok : goal.returns-in-Ok
returns-in-Ok c = record {
  witness = none_so c.args.bank.now c.args.spec.now c.args.items.now (problem_of c.whole_without-problem.result) c.whole_without-problem.ensures.whole
      c.in-Ok.assembled.outcome c.in-Ok.assembled.tree c.base_budget-budget.result c.in-Ok.ensures.assembly (sym c.in-NoneFound.ensures.outcome) c.base_budget-budget.ensures;
}
