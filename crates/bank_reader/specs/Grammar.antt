-- The grammar of a bank text. It does not depend on how a text is read.
use Rattle.std.specs.Prelude.{◌≡◌, ◌≢◌, ℕ, ◌+◌, ◌-◌, ◌*◌, ◌<◌, ◌≤◌, List, [], length, get_or, min, Some, ℤ, pos}
use Rattle.std.specs.Fmt.{decimal, signed_decimal}
use Rattle.csv.specs.Reading.{default_config, strip_bom, records}
use Rattle.exam_text.specs.Numbers.{magnitude}
use Rattle.bank_tables.specs.Tables.{Tables, Item, size, item}
use Rattle.bank_tables.specs.Validity.{IsBank}
use Rattle.bank_tables.specs.Faults.{bank_fault}
use Rattle.bank_reader.specs.declared.fault.ReadFault.{ReadFault}
use Rattle.bank_reader.specs.declared.fault.ReadFault.TheVariants.{Source, TooLong, Header, Csv, Field, Bank, Memory}
use Rattle.bank_reader.specs.declared.item.Shape.{Shape}
use Rattle.bank_reader.specs.Columns.{field, nine_digits, first_loglik, width, name_of, IsShape}

-- the records of a text: fields parted by commas, in quotes or not, records ended by CR, LF or both
-- (RFC 4180); an empty line is no record, and a byte order mark at the front is no part of the
-- first
abbrev pub records_of : List ℕ → List (List (List ℕ))
records_of text = records default_config (strip_bom text)

-- a column has the number n, in at most nine digits
pub record IsNumber (fields : List (List ℕ)) (c n : ℕ) : Type 0 where
  pub small : n ≤ nine_digits
  pub text : field fields c ≡ decimal n

pub record IsSigned (fields : List (List ℕ)) (c : ℕ) (z : ℤ) : Type 0 where
  pub small : magnitude z ≤ nine_digits
  pub text : field fields c ≡ signed_decimal z

pub record IsItem (s : Shape) (k : ℕ) (fields : List (List ℕ)) (r : Item) : Type 0 where
  pub count : length fields ≡ width s
  pub number : IsNumber fields 0 (k - 1)
  pub stimulus : IsNumber fields 1 r.stimulus
  pub categories : IsNumber fields 2 r.categories
  pub quantity_count : length r.quantities ≡ s.quantities
  pub quantities : (i : ℕ) → i < s.quantities → IsNumber fields (3 + i) (get_or r.quantities i 0)
  pub info_count : length r.info ≡ s.grid
  pub info : (g : ℕ) → g < s.grid → IsNumber fields (3 + s.quantities + g) (get_or r.info g 0)
  pub loglik_count : length r.loglik ≡ min r.categories s.responses * s.grid
  pub loglik : (i : ℕ) → i < min r.categories s.responses * s.grid
      → IsSigned fields (first_loglik s + i) (get_or r.loglik i (pos 0))
  pub empty : (i : ℕ) → i < (s.responses - min r.categories s.responses) * s.grid
      → length (field fields (first_loglik s + min r.categories s.responses * s.grid + i)) ≡ 0

-- the columns of a header: each has the name that the shape gives it
pub record IsHeader (cols : List (List ℕ)) (s : Shape) : Type 0 where
  pub shape : IsShape s
  pub count : length cols ≡ width s
  pub names : (c : ℕ) → c < width s → field cols c ≡ name_of s c

-- the records of a bank text: a header, and an item in each record after it
pub record IsBankRows (rows : List (List (List ℕ))) (b : Tables) : Type 0 where
  pub shape : Shape
  pub header : IsHeader (get_or rows 0 []) shape
  pub grid : b.grid ≡ shape.grid
  pub quantities : b.quantities ≡ shape.quantities
  pub count : size b ≡ length rows - 1
  pub items : (i : ℕ) → i < length rows - 1 → IsItem shape (i + 1) (get_or rows (i + 1) [])
      (item b i)

-- the most bytes that a bank text has
abbrev pub longest : ℕ
longest = 4194304

-- the bank text: its length, its records, and the bounds of its numbers
pub record IsBankText (text : List ℕ) (b : Tables) : Type 0 where
  pub short : length text ≤ longest
  pub rows : IsBankRows (records_of text) b
  pub bank : IsBank b

-- ---- faults

-- the columns begin as those of this shape do, so many of them
pub record BeginsAs (cols : List (List ℕ)) (s : Shape) (n : ℕ) : Type 0 where
  pub there : n ≤ length cols
  pub within : n ≤ width s
  pub names : (c : ℕ) → c < n → field cols c ≡ name_of s c

-- the first column that fits no header: the columns before it begin one
pub record IsHeaderFault (cols : List (List ℕ)) (column : ℕ) : Type 0 where
  pub none : (s : Shape) → IsHeader cols s → ⊥
  pub begins : Shape
  pub shape : IsShape begins
  pub before : BeginsAs cols begins column
  pub here : (s : Shape) → IsShape s → BeginsAs cols s (column + 1) → ⊥

-- what column c of record k may hold: the item's number, a number, a signed number, or nothing
-- where the item has no such response
pub record IsColumn (s : Shape) (k : ℕ) (fields : List (List ℕ)) (c : ℕ) : Type 0 where
  pub item : c ≡ 0 → IsNumber fields 0 (k - 1)
  pub number : 0 < c → c < first_loglik s → (n : ℕ) × IsNumber fields c n
  pub loglik : (categories i : ℕ) → IsNumber fields 2 categories → c ≡ first_loglik s + i
      → i < categories * s.grid → (z : ℤ) × IsSigned fields c z
  pub empty : (categories i : ℕ) → IsNumber fields 2 categories → c ≡ first_loglik s + i
      → categories * s.grid ≤ i → field fields c ≡ []

-- why record k is no item: it has another number of fields than the header, or this is the first
-- column that holds what it may not
abbrev pub IsItemFault : Shape → ℕ → List (List ℕ) → ReadFault → Type 0
IsItemFault s k fields (Csv r) = (r ≡ k) × (length fields ≢ width s)
IsItemFault s k fields (Field r c) = (r ≡ k) × (length fields ≡ width s) × (c < width s)
    × ((d : ℕ) → d < c → IsColumn s k fields d) × (IsColumn s k fields c → ⊥)
IsItemFault s k fields _ = ⊥

-- record k is the first after the header that is no item
pub record IsRecordFault (rows : List (List (List ℕ))) (k : ℕ) (fault : ReadFault) : Type 0 where
  pub shape : Shape
  pub header : IsHeader (get_or rows 0 []) shape
  pub behind : 0 < k
  pub there : k < length rows
  pub before : (i : ℕ) → i + 1 < k → (r : Item) × IsItem shape (i + 1) (get_or rows (i + 1) []) r
  pub here : IsItemFault shape k (get_or rows k []) fault

-- the first fault of a text
abbrev pub IsTextFault : List ℕ → ReadFault → Type 0
IsTextFault text TooLong = longest < length text
IsTextFault text (Header c) =
    (length text ≤ longest) × IsHeaderFault (get_or (records_of text) 0 []) c
IsTextFault text (Csv k) = (length text ≤ longest) × IsRecordFault (records_of text) k (Csv k)
IsTextFault text (Field k c) =
    (length text ≤ longest) × IsRecordFault (records_of text) k (Field k c)
IsTextFault text (Bank f) = (length text ≤ longest) × ((b : Tables) × IsBankRows (records_of text) b
    × (bank_fault b ≡ Some f))
IsTextFault text Source = ⊥
IsTextFault text Memory = ⊥
