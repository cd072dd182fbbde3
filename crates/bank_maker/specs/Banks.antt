-- The bank text of a drill.
use Rattle.std.specs.Prelude.{ℕ, ◌-◌, List, [], ◌∷◌, ◌++◌, length, get_or, map}
use Rattle.std.specs.List.{flat_map, range_with_len}
use Rattle.std.specs.Fmt.{decimal, signed_decimal}
use Rattle.bank_tables.specs.Tables.{Item, Tables}
use Rattle.bank_reader.specs.declared.item.Shape.{Shape}
use Rattle.bank_reader.specs.Columns.{width, name_of}
use Rattle.bank_maker.specs.declared.item.DrawnItem.{DrawnItem}
use Rattle.bank_maker.specs.Items.{row_of}

-- a record: the first field, each other field after a comma, a line feed
abbrev pub record_text : List ℕ → List (List ℕ) → List ℕ
record_text first others = first ++ (flat_map (λ field. 44 ∷ field) others ++ 10 ∷ [])

-- the fields of a row after the item's number
abbrev pub row_fields : Item → List (List ℕ)
row_fields r = decimal r.stimulus ∷ decimal r.categories
    ∷ (map decimal r.quantities ++ (map decimal r.info ++ map signed_decimal r.loglik))

-- the record of item i
unfoldable pub item_text : ℕ → DrawnItem → List ℕ
item_text i x = record_text (decimal i) (row_fields (row_of i x))

-- a grid of 11 points, one quantity, two responses
abbrev pub shape : Shape
shape = record { quantities = 1; grid = 11; responses = 2 }

-- the header: the name of each column
unfoldable pub header : List ℕ
header = record_text (name_of shape 0) (map (name_of shape) (range_with_len 1 (width shape - 1)))

-- the item past the last one
abbrev pub no_item : DrawnItem
no_item = record { peak = 0; height = 0; quantity = 0 }

-- the bank that the text describes
abbrev pub tables_of : List DrawnItem → Tables
tables_of xs = record {
  grid = 11;
  quantities = 1;
  items = map (λ i. row_of i (get_or xs i no_item)) (range_with_len 0 (length xs));
}

-- the header, and the record of each item, in order
unfoldable pub bank_text : List DrawnItem → List ℕ
bank_text xs = header
    ++ flat_map (λ i. item_text i (get_or xs i no_item)) (range_with_len 0 (length xs))
