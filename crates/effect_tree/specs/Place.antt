-- The place of a path in a tree.
use Rattle.std.specs.Prelude.{◌≡◌, false, IsTrue, List}
use Rattle.std.specs.List.{list_all}
use Rattle.region_paths.specs.declared.elements.Elem.{Elem}
use Rattle.region_paths.specs.Written.{WrittenPath}
use Rattle.region_paths.specs.Filled.{is_solid, solid_prefix}
use Rattle.prefix_tree.specs.Prefix.{IsPrefix}
use Rattle.prefix_tree.specs.Nodes.{IsNode}

-- the deepest node whose path the given one begins with: each such node's path is a prefix of this node's
pub record IsDeepest (nodes : List (List Elem)) (path place : List Elem) : Type 0 where
  pub node : IsNode nodes place
  pub above : IsPrefix place path
  pub deepest : (other : List Elem) → IsNode nodes other → IsPrefix other path → IsPrefix other place

-- the place of a path is the deepest node that is a prefix of the path's solid prefix
abbrev pub IsPlace : List (List Elem) → WrittenPath → List Elem → Type 0
IsPlace nodes path place = IsDeepest nodes (solid_prefix path) place

-- each element is a name or a literal index, and there is no star
pub record IsSolid (path : WrittenPath) : Type 0 where
  pub unstarred : path.star ≡ false
  pub elems : IsTrue (list_all is_solid path.elems)
