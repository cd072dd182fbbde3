use Rattle.std.proofs.Common.{◌≡◌, Option, Some, ap, subst}
use Rattle.std.specs.Prelude.{unwrap_or}
use Rattle.bank_tables.specs.Items.{Set, has}
use Rattle.bank_tables.specs.Validity.{HoldsItems}
use Rattle.search_trials.proofs.judging.with_start.Goals as goal

pub returns : goal.returns
returns c =
    let made = c.requires.well_made in
    let start : (X : Set) → Some (has c.args.form.now) ≡ Some X → HoldsItems c.args.problem.now.bank.now X =
    λ X e.
    let same : has c.args.form.now ≡ X = ap (λ (o : Option Set). unwrap_or o (has c.args.form.now)) e in
    subst (λ (Y : Set). HoldsItems c.args.problem.now.bank.now Y) same c.requires.items in
    record {
      bank = made.bank;
      plan = made.plan;
      point = made.point;
      given_items = made.given_items;
      barred_items = made.barred_items;
      apart = made.apart;
      last_given = made.last_given;
      last_none = made.last_none;
      start_items = start;
    }
