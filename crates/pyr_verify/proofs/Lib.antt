pub mod LoadLemmas
pub mod OneSummary
pub mod SummaryLemmas
