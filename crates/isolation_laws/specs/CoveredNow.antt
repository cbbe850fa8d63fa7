-- When an access of a running task is covered.
use Rattle.std.specs.Prelude.{◌≡◌, ℕ, Option, None, Some}
use Rattle.effect_sets.specs.Access.{PathAccess, AccessInterferesWithSome, SomeCoversAccess}
use Rattle.seg_meaning.specs.declared.frame.Next.{Next}
use Rattle.seg_meaning.specs.declared.frame.Next.TheVariants.{Go, Get, Join, Closing, Ended}
use Rattle.wait_graph.specs.Waiting.{IsDone, SpawnedBy}
use Rattle.machine_state.specs.declared.state.State.{State}
use Rattle.machine_state.specs.declared.state.TaskRow.{TaskRow}
use Rattle.machine_state.specs.Rows.{IsRow}

-- the child that a task's next operation joins, if that operation is a join
abbrev pub child_to_join : Next → Option ℕ
child_to_join Go = None
child_to_join (Get on into) = None
child_to_join (Join on into) = Some on
child_to_join (Closing on) = Some on
child_to_join Ended = None

-- the task's next segment joins this child: the task's frame waits for the join, and the child is done
abbrev pub WillJoin : State → TaskRow → ℕ → Type 0
WillJoin st row child = (child_to_join row.frame.next ≡ Some child) × IsDone st.links child

-- The access is covered for task t in this state. It lies in the set of one effect of t, which writes if the access
-- writes, and it interferes with no effect of an unjoined child of t. A done child whose join the frame of t waits for
-- counts as joined here, since the next segment of t joins it.
pub record CoveredNow (st : State) (t : ℕ) (access : PathAccess) : Type 0 where
  pub row : TaskRow
  pub there : IsRow st t row
  pub declared : SomeCoversAccess row.effects.effects access
  pub free : (c : ℕ) (child : TaskRow) → IsRow st c child → SpawnedBy st.links c t → ¬ WillJoin st row c
      → ¬ AccessInterferesWithSome access child.effects.effects
