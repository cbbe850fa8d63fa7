-- The tree of a text.
use Rattle.std.specs.Prelude.{ℕ, List, Option, None, Some}
use Rattle.twe_ast.specs.declared.item.Ast.{Ast}
use Rattle.twe_frontend.specs.Accepted.{IsTreeOf}

-- this is the tree of the text, if it has one
abbrev pub IsTreeIfAny : List ℕ → Option Ast → Type 0
IsTreeIfAny text None = (tree : Ast) → ¬ IsTreeOf text tree
IsTreeIfAny text (Some tree) = IsTreeOf text tree
