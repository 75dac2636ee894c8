pub mod MeaningLemmas
pub mod SizeLemmas
pub mod WellFormedLemmas
pub mod CodeLemmas
