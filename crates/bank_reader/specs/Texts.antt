-- The line of a fault of a bank text.
use Rattle.std.specs.Prelude.{ℕ, ◌++◌, List, codes}
use Rattle.std.specs.Fmt.{decimal}
use Rattle.exam_text.specs.Texts.{files_failed, no_memory}
use Rattle.bank_tables.specs.declared.bank_fault.BankFault.TheVariants as table
use Rattle.bank_reader.specs.declared.fault.ReadFault.{ReadFault}
use Rattle.bank_reader.specs.declared.fault.ReadFault.TheVariants as bank

unfoldable pub bank_text : ReadFault → List ℕ
bank_text bank.TooLong = codes "bank: too long\n"
bank_text (bank.Header column) = codes "bank: header column " ++ (decimal column ++ codes "\n")
bank_text (bank.Csv number) = codes "bank: record " ++ (decimal number ++ codes "\n")
bank_text (bank.Field number column) = codes "bank: record "
    ++ (decimal number ++ (codes " column " ++ (decimal column ++ codes "\n")))
bank_text (bank.Bank table.NoItems) = codes "bank: no items\n"
bank_text (bank.Bank (table.TooMany count)) = codes "bank: " ++ (decimal count ++ codes " items\n")
bank_text (bank.Bank table.BadGrid) = codes "bank: grid\n"
bank_text (bank.Bank (table.BadStimulus item)) =
    codes "bank: stimulus of item " ++ (decimal item ++ codes "\n")
bank_text (bank.Bank (table.BadCategories item)) =
    codes "bank: categories of item " ++ (decimal item ++ codes "\n")
bank_text (bank.Bank (table.BadQuantity item)) =
    codes "bank: quantity of item " ++ (decimal item ++ codes "\n")
bank_text (bank.Bank (table.BadInfo item)) =
    codes "bank: information of item " ++ (decimal item ++ codes "\n")
bank_text (bank.Bank (table.BadLogLik item)) =
    codes "bank: likelihood of item " ++ (decimal item ++ codes "\n")
bank_text (bank.Bank table.Memory) = no_memory
bank_text bank.Source = files_failed
bank_text bank.Memory = no_memory
