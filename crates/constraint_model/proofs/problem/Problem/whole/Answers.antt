use Rattle.std.proofs.Common.{◌≡◌, ℤ, List, [], length, ap, sym, ◌∙◌, subst}
use Rattle.bank_tables.specs.Items.{has}
use Rattle.form_model.specs.Ability.{IsPosteriorMode}
use Rattle.constraint_model.proofs.WholeLaws.{whole_from}
use Rattle.constraint_model.proofs.problem.Problem.whole.Goals as goal

pub returns-clause-whole : goal.returns-clause-whole
returns-clause-whole c =
    let bank = c.args.bank.now in
    let plan = c.args.spec.now in
    let number : bank.grid ≡ length c.prior.result.now = sym (ap (λ (prior : List ℤ). length prior) c.prior.ensures ∙ c.requires.prior_number) in
    record {
      theta = c.mode.result;
      mode = subst (λ (prior : List ℤ). IsPosteriorMode bank prior [] c.mode.result) c.prior.ensures (c.mode.ensures.mode bank c.prior.result.now [] (c.of_prior.ensures.sums bank number));
      is = whole_from bank plan c.mode.result (has c.empty.result) (has c.empty-2.result) c.empty.ensures c.empty-2.ensures;
    }
