-- A quantity of every item, as the code keeps it.
use Rattle.std.specs.Prelude.{◌≡◌, ℕ, ◌<◌, get_or, Some}
use Rattle.bank_tables.specs.Tables.{Tables, size, quantity}
use Rattle.certificate_check.specs.declared.column.Column.{Column}

-- the values are those of the quantity that the column names, if it names one
pub record IsColumn (b : Tables) (column : Column) : Type 0 where
  pub values : (which : ℕ) → column.which ≡ Some which → (i : ℕ) → i < size b → get_or column.values i 0 ≡ quantity b i which
