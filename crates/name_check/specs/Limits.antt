-- The limits on what a text declares, and the places that exceed one.
use Rattle.std.specs.Prelude.{◌≡◌, ℕ, Bool, true, false, List, [], ◌∷◌, ◌++◌, length, count_by, flat_map}
use Rattle.twe_ast.specs.declared.item.Ast.{Ast}
use Rattle.twe_ast.specs.declared.item.Item.{Item}
use Rattle.twe_ast.specs.declared.item.Item.TheVariants as items
use Rattle.twe_ast.specs.declared.item.Clause.{Clause}
use Rattle.twe_ast.specs.declared.item.Decl.{Decl}
use Rattle.twe_ast.specs.declared.path.Path.{Path}
use Rattle.twe_ast.specs.declared.path.PathElem.{PathElem}
use Rattle.twe_ast.specs.declared.path.PathElemKind.{PathElemKind}
use Rattle.twe_ast.specs.declared.path.PathElemKind.TheVariants as elem_kinds

-- the declaration of a method or a task; other items have none
abbrev pub decls_of_item : Item → List Decl
decls_of_item (items.Method decl) = decl ∷ []
decls_of_item (items.Task deterministic decl) = decl ∷ []
decls_of_item _ = []

-- the declarations of methods and tasks, in the order of the text
abbrev pub decls_of : Ast → List Decl
decls_of ast = flat_map decls_of_item ast.items

-- the paths of the effects of a declaration
abbrev pub paths_of : Decl → List Path
paths_of decl = flat_map (λ (clause : Clause). clause.paths) decl.effects

-- the list has this item after `count` others
pub record StandsAfter {A : Type 0} (count : ℕ) (items : List A) (item : A) : Type 0 where
  pub before : List A
  pub after : List A
  pub list : items ≡ before ++ item ∷ after
  pub many : length before ≡ count

-- the kind of the element is `*`
abbrev pub is_star_kind : PathElemKind → Bool
is_star_kind elem_kinds.Star = true
is_star_kind _ = false

-- the element is a `*`
abbrev pub is_star : PathElem → Bool
is_star elem = is_star_kind elem.kind

-- the element is a `*`, and just one stands before it in the path
pub record IsSecondStar (elems : List PathElem) (elem : PathElem) : Type 0 where
  pub before : List PathElem
  pub after : List PathElem
  pub list : elems ≡ before ++ elem ∷ after
  pub star : is_star elem ≡ true
  pub one : count_by is_star before ≡ 1
