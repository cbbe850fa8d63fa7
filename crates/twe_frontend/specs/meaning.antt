pub mod Meaning
pub mod Reading
pub mod PathTexts
pub mod EffectTexts
