pub mod WithinTexts
