pub mod RowTables
