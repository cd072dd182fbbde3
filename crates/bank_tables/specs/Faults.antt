-- The faults of the rows of an item bank, in the order of their tests.
use Rattle.std.specs.Prelude.{ℕ, ◌*◌, Bool, not, ◌&&◌, ◌||◌, ◌==◌, nat_lt, nat_le, List, length, Option, ℤ, pos, neg_ℤ, int_lt}
use Rattle.std.specs.List.{list_all}
use Rattle.exam_text.specs.First.{fault_where, ◌orelse◌, first_below}
use Rattle.bank_tables.specs.declared.bank_fault.BankFault.{BankFault}
use Rattle.bank_tables.specs.declared.bank_fault.BankFault.TheVariants.{NoItems, TooMany, BadGrid, BadStimulus, BadCategories, BadQuantity, BadInfo, BadLogLik}
use Rattle.bank_tables.specs.Tables.{Tables, Item, size, item}

-- there are so many numbers, and each is at most `most`
abbrev pub are_numbers : ℕ → ℕ → List ℕ → Bool
are_numbers count most xs = (length xs == count) && list_all (λ x. nat_le x most) xs

-- not above 0, and not below -10,000,000
abbrev pub is_loglik : ℤ → Bool
is_loglik z = not (int_lt z (neg_ℤ (pos 10000000))) && not (int_lt (pos 0) z)

-- the tests of item i, in their order
unfoldable pub item_fault : ℕ → ℕ → ℕ → Item → Option BankFault
item_fault grid quantities i r =
    fault_where (nat_lt 64 r.stimulus) (BadStimulus i)
    orelse fault_where (nat_lt r.categories 2 || nat_lt 5 r.categories) (BadCategories i)
    orelse fault_where (not (are_numbers quantities 65535 r.quantities)) (BadQuantity i)
    orelse fault_where (not (are_numbers grid 1000000 r.info)) (BadInfo i)
    orelse fault_where (not ((length r.loglik == r.categories * grid) && list_all is_loglik r.loglik)) (BadLogLik i)

-- the fault of the first item that has one
abbrev pub items_fault : Tables → Option BankFault
items_fault b = first_below (size b) (λ i. item_fault b.grid b.quantities i (item b i))

-- the tests of all rows, in their order
unfoldable pub bank_fault : Tables → Option BankFault
bank_fault b =
    fault_where (size b == 0) NoItems
    orelse fault_where (nat_lt 512 (size b)) (TooMany (size b))
    orelse fault_where ((b.grid == 0) || nat_lt 61 b.grid || nat_lt 8 b.quantities) BadGrid
    orelse items_fault b
