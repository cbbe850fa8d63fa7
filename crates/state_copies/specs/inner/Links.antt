-- Links that are copied: first the parents, then all else.
use Rattle.std.specs.Prelude.{ℕ, zero, suc, List, [], ◌∷◌, map}
use Rattle.wait_graph.specs.declared.tasks.Link.{Link}
use Rattle.wait_graph.specs.Link.{new_link}

-- the link of a new task with the parent of this one
abbrev pub new_again : Link → Link
new_again link = new_link link.parent

-- the links once those of the first n tasks are whole
abbrev pub copied_to : ℕ → List Link → List Link
copied_to zero links = map new_again links
copied_to (suc n) [] = []
copied_to (suc n) (link ∷ links) = link ∷ copied_to n links
