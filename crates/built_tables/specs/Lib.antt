pub mod Built
pub mod IntervalTables
