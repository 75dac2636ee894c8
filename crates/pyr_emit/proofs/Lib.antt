pub mod Ranges
mod RisingLemmas
mod MarkLemmas
mod BlockLemmas
pub mod SumLemmas
pub mod CountLemmas
pub mod FineLemmas
mod SizeLemmas
mod LawLemmas
mod TaskLemmas
pub mod Whole
pub mod MeaningLemmas
pub mod EmittedLemmas
mod Rows
