pub mod CellPaths
pub mod DeclaredNow
pub mod KeepsEffects
pub mod RunsWith
