-- `Pieces`: a text as tokens and blanks, and the test that each ends where the next one begins.
-- `Lexemes`: pieces that pass the test are the first lexemes of their text.
-- `Numbered`: names of a letter and a number are names, and different numbers make different names.
-- `Lines`: the pieces of each line, which together are the text.
-- `Trees`: the tree of the text, with the places of its tokens.
-- `Derivation`: the tree's tokens are those of the text, by the grammar.
-- `Read`: no rule of the text fails, and the tree is that of the text.
-- `Bindings`: what the global names are bound to.
-- `NamesKept`: the list of the tree's failures of rules of names is empty.
-- `CellsFew`: cells and nodes are within their limits.
-- `NameRules`: so no rule of names fails.
-- `Meanings`: what the tasks mean, and the paths of their cells.
-- `EffectsKept`: no rule on effects fails.
-- `Whole`: the text is accepted.
pub mod Pieces
pub mod Lexemes
pub mod Numbered
pub mod Lines
pub mod Trees
pub mod Derivation
pub mod Read
pub mod Bindings
pub mod NamesKept
pub mod CellsFew
pub mod NameRules
pub mod Meanings
pub mod EffectsKept
pub mod Whole
