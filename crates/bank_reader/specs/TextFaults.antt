-- Why there is no text, as a fault of reading.
use Rattle.text_source.specs.declared.TextFault.{TextFault}
use Rattle.text_source.specs.declared.TextFault.TheVariants as text
use Rattle.bank_reader.specs.declared.fault.ReadFault.{ReadFault}
use Rattle.bank_reader.specs.declared.fault.ReadFault.TheVariants as fault

abbrev pub fault_of : TextFault → ReadFault
fault_of text.Source = fault.Source
fault_of text.TooLong = fault.TooLong
fault_of text.Memory = fault.Memory
