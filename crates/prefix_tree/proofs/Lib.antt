pub mod StepLemmas
pub mod SnocLemmas
pub mod PrefixLemmas
pub mod PathsLemmas
pub mod TreeLemmas
pub mod AddLemmas
pub mod GrowthLemmas
pub mod RowLemmas
