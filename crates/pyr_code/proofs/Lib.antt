pub mod SeenLemmas
pub mod StackLemmas
pub mod HeightLemmas
pub mod FirstFault
pub mod WalkLemmas
pub mod RunLemmas
pub mod Lengths
