pub mod RuleLemmas
pub mod MadeLists
pub mod NameLemmas
pub mod PrintLemmas
pub mod SystemLemmas
pub mod Sound
pub mod Whole
