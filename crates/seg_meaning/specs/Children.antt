-- The unjoined children of a task.
use Rattle.std.specs.Prelude.{ℕ, ◌-◌, List, ◌∷◌, [], ◌++◌}

-- the numbers of the children in the order in which they were spawned, and how many more can be added without taking
-- memory
pub record Children : Type 0 where
  pub items : List ℕ
  pub room : ℕ

-- no child, and no room for one
abbrev pub no_children : Children
no_children = record { items = []; room = 0 }

-- one more child, in the room that was reserved for it
abbrev pub with_child : ℕ → Children → Children
with_child child out = record { items = out.items ++ child ∷ []; room = out.room - 1 }
