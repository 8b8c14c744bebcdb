pub mod UpdateLemmas
mod LabelLemmas
pub mod CutLemmas
mod Examples
