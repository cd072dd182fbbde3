use Rattle.std.proofs.Common.{ℕ, ◌*◌, ◌<◌, sym, subst}
use Rattle.std.proofs.lemmas.Bool.{lt-ltb}
use Rattle.bank_tables.specs.Tables.{size}
use Rattle.series_outcome.proofs.UndecidedLaws.{few_choices}
use Rattle.form_series.proofs.assembly.is_enough.Goals as goal

pub returns-else-branches-lt12 : goal.returns-else-branches-lt12
returns-else-branches-lt12 c large =
    let forms = c.args.setting.now.forms in
    let few = few_choices (forms * size c.args.setting.now.bank.now) c.args.budget large c.requires.budget.high in
    lt-ltb _ _ (subst (λ (n : ℕ). forms * n < 12) (sym c.items.ensures.items) few)
