-- stores and ways to end without the places in them
mod Stores
-- what the declarations of a program without its places say
mod Declarations
-- expressions, statements and segments
mod Expressions
mod Statements
mod Segments
-- moves and outcomes
mod Moves
mod Outcomes
-- journals
mod Journals
