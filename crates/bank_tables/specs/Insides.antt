-- What a bank keeps of its rows.
use Rattle.std.specs.Prelude.{◌≡◌}
use Rattle.bank_tables.specs.declared.bank.Bank.TheInside.{Inside}
use Rattle.bank_tables.specs.Tables.{Tables, size, stimulus}
use Rattle.bank_tables.specs.Validity.{IsBank}
use Rattle.bank_tables.specs.Sums.{greatest_below}

abbrev pub tables_of : Inside → Tables
tables_of b = record { grid = b.grid; quantities = b.quantities; items = b.items }

pub record IsInside (b : Inside) : Type 0 where
  pub bank : IsBank (tables_of b)
  pub stimuli : b.stimuli ≡ greatest_below (size (tables_of b)) (stimulus (tables_of b))
