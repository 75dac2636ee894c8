pub mod NumberLemmas
pub mod ColumnLemmas
pub mod DrawnLemmas
pub mod TimeLemmas
