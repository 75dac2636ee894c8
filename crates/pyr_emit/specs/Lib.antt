pub mod Emission
pub mod Meaning
pub mod Marks
pub mod Checked
