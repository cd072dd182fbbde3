-- Why a start may not have its list of items that the examinee must not get.
use Rattle.std.specs.Prelude.{◌≡◌, Option}
use Rattle.bank_tables.specs.Tables.{Tables, size}
use Rattle.form_model.specs.Plan.{Plan}
use Rattle.history_model.specs.declared.entry.Without.{Without}
use Rattle.history_model.specs.declared.illegal.Illegal.{Illegal}
use Rattle.history_model.specs.declared.illegal.Illegal.TheVariants.{NoItem, NotWithout}
use Rattle.history_model.specs.Lists.{IsNoListFor, IsBreachOfWithout}

-- it is no list for the bank; or its form is none without its items
abbrev pub IsUnlisted : Tables → Plan → Option Without → Illegal → Type 0
IsUnlisted b plan without (NoItem count) = IsNoListFor b without × (count ≡ size b)
IsUnlisted b plan without (NotWithout breach) = IsBreachOfWithout b plan without breach
IsUnlisted b plan without reason = ⊥
