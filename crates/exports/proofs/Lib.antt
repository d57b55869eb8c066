pub mod SheetResults
