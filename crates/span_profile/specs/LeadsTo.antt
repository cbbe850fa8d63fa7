-- When one entry of a journal leads to a later one. For two accesses of one path the order is that of this journal: if two
-- writers may be admitted in either order, another journal of the program can have them the other way round.
use Rattle.std.specs.Prelude.{◌≡◌, Some, IsTrue}
use Rattle.std.specs.List.{Contains}
use Rattle.effect_sets.specs.Access.{PathAccess, Conflict}
use Rattle.span_profile.specs.Strands.{Strand}

-- what the first entry did leads to what the second did, for one of these reasons
pub data LeadsTo (a b : Strand) : Type 0 where
  -- they are of one task
  same_task : a.task ≡ b.task → LeadsTo a b
  -- the first made the task of the second
  makes : a.made ≡ Some b.task → LeadsTo a b
  -- the second begins by taking the value of the task that is done by the first
  gives_value : IsTrue a.done → b.taken ≡ Some a.task → LeadsTo a b
  -- they access one concrete path, and one of them writes it
  conflict : (x y : PathAccess) → Contains a.accesses x → Contains b.accesses y → Conflict x y → LeadsTo a b
