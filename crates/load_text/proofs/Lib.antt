-- `Lengths`: the text is no longer than a program text may be.
pub mod Lengths
