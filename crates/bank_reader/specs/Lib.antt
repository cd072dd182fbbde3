pub mod Columns
pub mod Grammar
pub mod Reading
pub mod TextFaults
pub mod Texts
pub mod CsvErrors
