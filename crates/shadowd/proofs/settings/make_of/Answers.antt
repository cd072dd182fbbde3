use Rattle.std.proofs.Common.{◌≡◌, ◌∙◌, ℕ, true, List, [], Option, None, String, Global, ap, sym}
use Rattle.std.specs.Option.{option_map}
use Rattle.std.specs.Prelude.{string_bytes}
use Rattle.shadowd.specs.Environment.{makes_by, value_or}
use Rattle.shadowd.proofs.settings.make_of.Goals as goal

-- a variable that is not set makes a journal
none_makes : (found : Option (String Global)) (value : Option (List ℕ)) → found ≡ None → option_map (λ t. string_bytes t) found ≡ value → true ≡ makes_by (value_or value [])
none_makes found value none is = ap (λ (o : Option (List ℕ)). makes_by (value_or o [])) (sym (ap (λ (o : Option (String Global)). option_map (λ t. string_bytes t) o) none) ∙ is)

pub returns-in-Ok-None : goal.returns-in-Ok-None
returns-in-Ok-None g c = λ told. none_makes c.in-Ok-None.field-0 _ c.in-Ok-None.field-0-is (c.in-Ok-None.ensures told)
