-- How a bank text is read: each column in its order, from left to right, up to the first fault.
use Rattle.std.specs.Prelude.{◌≡◌, ℕ, zero, suc, ◌+◌, ◌*◌, ◌/◌, ◌%◌, ◌-◌, Bool, not, ◌&&◌, ◌==◌, nat_lt, nat_le, if◌then◌else◌, List, [], length, get_or, min, bytes_eq, codes, Option, Result, Ok, Err, ℤ, ◌⊎◌}
use Rattle.std.specs.Option.{option_map}
use Rattle.exam_text.specs.Numbers.{number_of, signed_of}
use Rattle.exam_text.specs.First.{fault_where, first_below, ◌>>=◌, or_fault, unless, each_below}
use Rattle.bank_tables.specs.Tables.{Tables, Item}
use Rattle.bank_tables.specs.Faults.{bank_fault}
use Rattle.bank_reader.specs.declared.fault.ReadFault.{ReadFault}
use Rattle.bank_reader.specs.declared.fault.ReadFault.TheVariants.{Source, TooLong, Header, Csv, Field, Bank, Memory}
use Rattle.bank_reader.specs.declared.item.Shape.{Shape}
use Rattle.bank_reader.specs.Columns.{field, nine_digits, first_loglik, width, quantity_name, point_name, loglik_name}
use Rattle.bank_reader.specs.Grammar.{records_of, longest}

-- the number, or the signed number, in a column of a record
unfoldable pub number_at : ℕ → ℕ → List (List ℕ) → Result ℕ ReadFault
number_at k c fields = or_fault (number_of nine_digits (field fields c)) (Field k c)

unfoldable pub signed_at : ℕ → ℕ → List (List ℕ) → Result ℤ ReadFault
signed_at k c fields = or_fault (signed_of nine_digits (field fields c)) (Field k c)

-- the numbers in `count` columns side by side, the first of them column `from`
abbrev pub numbers_at : ℕ → ℕ → ℕ → List (List ℕ) → Result (List ℕ) ReadFault
numbers_at k from count fields = each_below count (λ i. number_at k (from + i) fields)

abbrev pub signeds_at : ℕ → ℕ → ℕ → List (List ℕ) → Result (List ℤ) ReadFault
signeds_at k from count fields = each_below count (λ i. signed_at k (from + i) fields)

-- the first column that isn't empty, of `count` columns side by side, as a fault
abbrev pub not_empty_at : ℕ → ℕ → ℕ → List (List ℕ) → Option ReadFault
not_empty_at k from count fields = first_below count (λ i.
    fault_where (nat_lt 0 (length (field fields (from + i)))) (Field k (from + i)))

-- the item in a record: columns in their order, from left to right
unfoldable pub item_at : Shape → ℕ → List (List ℕ) → Result Item ReadFault
item_at s k fields =
    unless (fault_where (not (length fields == width s)) (Csv k)) (do
      number ← number_at k 0 fields
      unless (fault_where (not (number == k - 1)) (Field k 0)) (do
        stimulus ← number_at k 1 fields
        categories ← number_at k 2 fields
        quantities ← numbers_at k 3 s.quantities fields
        info ← numbers_at k (3 + s.quantities) s.grid fields
        loglik ← signeds_at k (first_loglik s) (min categories s.responses * s.grid) fields
        unless (not_empty_at k (first_loglik s + min categories s.responses * s.grid)
            ((s.responses - min categories s.responses) * s.grid) fields)
            (Ok (record {
              stimulus = stimulus;
              categories = categories;
              quantities = quantities;
              info = info;
              loglik = loglik;
            }))))

-- the items of the records after the header
unfoldable pub items_at : Shape → List (List (List ℕ)) → Result (List Item) ReadFault
items_at s rows = each_below (length rows - 1) (λ i. item_at s (i + 1) (get_or rows (i + 1) []))

-- how many of the numbers from 0 on pass, of those below n
abbrev pub lead : ℕ → (ℕ → Bool) → ℕ
lead zero p = 0
lead (suc n) p = if ((lead n p == n) && p n) then n + 1 else lead n p

-- a column has this name, which isn't empty
abbrev pub is_named : List (List ℕ) → ℕ → List ℕ → Bool
is_named cols c name = bytes_eq (get_or cols c []) name

abbrev pub leading_fixed : List (List ℕ) → ℕ
leading_fixed cols =
    if not (is_named cols 0 (codes "item")) then 0
    else if not (is_named cols 1 (codes "stimulus")) then 1
    else if not (is_named cols 2 (codes "categories")) then 2
    else 3

-- how many columns from column 3 on have the names of quantities, in order, up to `most`; `most` is
-- a parameter, since a numeral in its place would be counted down in each goal of a proof
unfoldable pub leading_quantities : List (List ℕ) → ℕ → ℕ
leading_quantities cols most = lead most (λ k. is_named cols (3 + k) (quantity_name k))

unfoldable pub leading_points : List (List ℕ) → ℕ → ℕ → ℕ
leading_points cols from most = lead most (λ k. is_named cols (from + k) (point_name k))

unfoldable pub leading_loglik : List (List ℕ) → ℕ → ℕ → ℕ
leading_loglik cols from grid =
    lead (5 * grid) (λ k. is_named cols (from + k) (loglik_name (k / grid) (k % grid)))

-- columns are taken from left to right as long as a header may have them
unfoldable pub header_of : List (List ℕ) → Result Shape ReadFault
header_of cols =
    let fixed = leading_fixed cols in
    if nat_lt fixed 3 then Err (Header fixed) else
    let quantities = leading_quantities cols 8 in
    let grid = leading_points cols (3 + quantities) 61 in
    if (grid == 0) then Err (Header (3 + quantities)) else
    let first = 3 + quantities + grid in
    let logliks = leading_loglik cols first grid in
    if ((length cols == first + logliks) && ((logliks % grid == 0) && nat_le 2 (logliks / grid)))
    then Ok (record { quantities = quantities; grid = grid; responses = logliks / grid })
    else Err (Header (first + logliks))

-- the rows of a text
unfoldable pub rows_of : List (List (List ℕ)) → Result Tables ReadFault
rows_of rows = do
  shape ← header_of (get_or rows 0 [])
  items ← items_at shape rows
  Ok (record { grid = shape.grid; quantities = shape.quantities; items = items })

-- the bank of a text, or its first fault
unfoldable pub bank_of : List ℕ → Result Tables ReadFault
bank_of text =
    unless (fault_where (nat_lt longest (length text)) TooLong) (do
      rows ← rows_of (records_of text)
      unless (option_map Bank (bank_fault rows)) (Ok rows))

-- What was read is the bank of the text, or its first fault, unless memory ran out or the source
-- failed.
abbrev pub Reads : List ℕ → Result Tables ReadFault → Type 0
Reads text (Ok b) = bank_of text ≡ Ok b
Reads text (Err e) = (e ≡ Memory) ⊎ (e ≡ Source) ⊎ (bank_of text ≡ Err e)
