-- The moves before the first that is not legal.
pub mod FirstIllegal
-- The locals of a block.
pub mod MoreLocals
-- A text without a tree.
pub mod NoTree
-- The numbers of the variables of a body, and their names.
pub mod Numbers
-- The variables that are found by a place.
pub mod FoundNames
