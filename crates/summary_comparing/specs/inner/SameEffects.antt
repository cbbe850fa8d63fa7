-- Equal effects.
use Rattle.std.specs.Prelude.{◌&&◌, Bool, true, false, List, [], ◌∷◌}
use Rattle.region_paths.specs.declared.elements.Elem.{Elem}
use Rattle.region_paths.specs.Written.{WrittenPath}
use Rattle.effect_sets.specs.declared.effects.Effect.{Effect}
use Rattle.summary_comparing.specs.inner.Standing.{same_elem, same_truth}

-- the elements are equal, one by one
abbrev pub same_elems : List Elem → List Elem → Bool
same_elems [] [] = true
same_elems (x ∷ xs) (y ∷ ys) = same_elem x y && same_elems xs ys
same_elems _ _ = false

-- the paths have the same elements, and a star at the same place
abbrev pub same_path : WrittenPath → WrittenPath → Bool
same_path p q = same_elems p.elems q.elems && (same_truth p.star q.star && same_elems p.tail q.tail)

-- both effects write or both only read, and their paths are the same
abbrev pub same_effect : Effect → Effect → Bool
same_effect d e = same_truth d.write e.write && same_path d.path e.path
