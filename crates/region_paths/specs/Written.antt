-- A written path, as contracts see it.
use Rattle.std.specs.Prelude.{◌≡◌, List, [], Bool, IsTrue}
use Rattle.region_paths.specs.declared.elements.Elem.{Elem}

-- the elements before the star, whether there is a star, and the elements after it
pub record WrittenPath : Type 0 where
  pub elems : List Elem
  pub star : Bool
  pub tail : List Elem

-- without a star there are no elements after it
abbrev pub PathIsWellFormed : WrittenPath → Type 0
PathIsWellFormed p = ¬ IsTrue p.star → p.tail ≡ []
