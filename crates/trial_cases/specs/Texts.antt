-- The text of a bank whose items have two response categories.
use Rattle.std.specs.Prelude.{ℕ, zero, suc, List, [], ◌++◌, ℤ, codes}
use Rattle.std.specs.Fmt.{decimal, signed_decimal}
use Rattle.std.specs.List.{flat_map}
use Rattle.bank_tables.specs.Tables.{Tables, Item, item, size}

-- the names of so many columns, numbered from 0 on
abbrev pub columns : List ℕ → ℕ → List ℕ
columns name zero = []
columns name (suc k) = columns name k ++ codes "," ++ name ++ decimal k

abbrev pub fields : List ℕ → List ℕ
fields numbers = flat_map (λ n. codes "," ++ decimal n) numbers

abbrev pub signed_fields : List ℤ → List ℕ
signed_fields numbers = flat_map (λ n. codes "," ++ signed_decimal n) numbers

unfoldable pub header : Tables → List ℕ
header b = codes "item,stimulus,categories" ++ columns (codes "q") b.quantities ++ columns (codes "i") b.grid ++ columns (codes "l0_") b.grid ++ columns (codes "l1_") b.grid ++ codes "\n"

unfoldable pub line : ℕ → Item → List ℕ
line i row = decimal i ++ codes "," ++ decimal row.stimulus ++ codes ",2" ++ fields row.quantities ++ fields row.info ++ signed_fields row.loglik ++ codes "\n"

-- the lines of the first items
abbrev pub lines : Tables → ℕ → List ℕ
lines b zero = []
lines b (suc i) = lines b i ++ line i (item b i)

abbrev pub text_of : Tables → List ℕ
text_of b = header b ++ lines b (size b)
