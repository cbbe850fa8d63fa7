-- The failures of a whole text except for the limits on cells and nodes, and the first of them.
use Rattle.std.specs.Prelude.{◌==◌, Bool, false, not, ◌&&◌, ◌||◌, bytes_eq, codes, List, [], ◌∷◌, ◌++◌, length, Option, None}
use Rattle.std.specs.List.{list_any}
use Rattle.twe_ast.specs.declared.item.Ast.{Ast}
use Rattle.twe_ast.specs.declared.item.Decl.{Decl}
use Rattle.twe_ast.specs.declared.item.Item.{Item}
use Rattle.twe_ast.specs.declared.item.Item.TheVariants as items
use Rattle.name_check.specs.declared.names.GlobalName.{GlobalName}
use Rattle.name_check.specs.declared.rule.NRule.TheVariants.{N2, N8}
use Rattle.name_check.specs.FailsName.{NameFailure}
use Rattle.name_check.specs.Names.{globals_of}
use Rattle.name_check.specs.Sites.{sites_of_item}
use Rattle.name_check.specs.inner.Failures.{first_of_sites, is_void}
use Rattle.twe_base.specs.First.{failure_if}
use Rattle.name_check.specs.inner.First.{first_from}
use Rattle.name_check.specs.OtherFailures.{item_failures}

-- a name is `Console`, or one of these names before it
abbrev pub is_again : List GlobalName → GlobalName → Bool
is_again before this = bytes_eq this.text (codes "Console") || list_any (λ (e : GlobalName). bytes_eq this.text e.text) before

-- the failures of names that are declared again, if the first list stands before the second
abbrev pub again_failures : List GlobalName → List GlobalName → List NameFailure
again_failures before [] = []
again_failures before (this ∷ others) =
    failure_if (is_again before this) N2 this.place ++ again_failures (before ++ this ∷ []) others

-- a task `main` that has no parameters and returns nothing
abbrev pub is_main : Decl → Bool
is_main decl = bytes_eq decl.name.text (codes "main") && ((length decl.params == 0) && is_void decl.returns)

-- the item is such a task
abbrev pub is_main_item : Item → Bool
is_main_item (items.Task deterministic decl) = is_main decl
is_main_item _ = false

-- the first failure of items, one after another
abbrev pub first_in_items : List GlobalName → Option NameFailure → List Item → Option NameFailure
first_in_items globals first [] = first
first_in_items globals first (item ∷ others) =
    first_in_items globals (first_from (first_of_sites globals first (sites_of_item globals item)) (item_failures item)) others

-- the first failure of a text, but for the limits on cells and nodes
abbrev pub first_but_nodes : Ast → Option NameFailure
first_but_nodes ast =
    first_from (first_from (first_in_items (globals_of ast) None ast.items) (again_failures [] (globals_of ast)))
    (failure_if (not (list_any is_main_item ast.items)) N8 ast.end)
