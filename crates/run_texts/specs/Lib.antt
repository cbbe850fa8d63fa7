pub mod CellTexts
pub mod TaskLabels
