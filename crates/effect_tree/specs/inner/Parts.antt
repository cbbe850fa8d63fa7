-- The elements of which the paths of nodes are made, as parts of a tree of prefixes.
use Rattle.std.specs.Prelude.{List, map, Option, Some, None}
use Rattle.region_paths.specs.declared.elements.Elem.{Elem}
use Rattle.region_paths.specs.declared.elements.Elem.TheVariants.{Name, Index}
use Rattle.prefix_tree.specs.declared.part.Part.{Part}
use Rattle.prefix_tree.specs.declared.part.Part.TheVariants as part

-- the part that an element is
abbrev pub part_of : Elem → Option Part
part_of (Name n) = Some (part.Name n)
part_of (Index i) = Some (part.Index i)
part_of _ = None

-- the element that a part is
abbrev pub elem_of : Part → Elem
elem_of (part.Name n) = Name n
elem_of (part.Index i) = Index i

-- the paths of the nodes of a tree of prefixes
abbrev pub elem_paths : List (List Part) → List (List Elem)
elem_paths nodes = map (λ (path : List Part). map elem_of path) nodes
