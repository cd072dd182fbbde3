use Rattle.std.proofs.Common.{◌∙◌, ℕ, List, subst}
use Rattle.shadowd.specs.Environment.{Writes}
use Rattle.shadowd.proofs.settings.connections_of.Goals as goal

pub returns : goal.returns
returns g c = λ told.
    subst (λ (text : List ℕ). Writes 0 18446744073709551615 text c.number_in-found.result)
    (c.as_str.ensures.value ∙ c.in_ok-text.ensures told) c.number_in-found.ensures
