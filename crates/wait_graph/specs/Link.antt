-- The links of all tasks, as a list: the links of task t stand at place t.
use Rattle.std.specs.Prelude.{◌≡◌, ℕ, ◌<◌, ◌^◌, true, false, List, length, Option, Some, None, slice_index_or, slice_set}
use Rattle.wait_graph.specs.declared.tasks.Link.{Link}

-- the links of a new task: it waits for nobody, and is neither joined nor done
abbrev pub new_link : Option ℕ → Link
new_link parent = record { waits = None; parent = parent; joined = false; done = false }

-- the links of task t, which are those of a new task if t isn't there
abbrev pub link_of : List Link → ℕ → Link
link_of links t = slice_index_or links t (new_link None)

-- the links after the next operation of t was set to await this task, or to be no wait
abbrev pub with_wait : List Link → ℕ → Option ℕ → List Link
with_wait links t on = slice_set links t (record (link_of links t) { waits = on })

-- the links after t was marked as joined
abbrev pub with_joined : List Link → ℕ → List Link
with_joined links t = slice_set links t (record (link_of links t) { joined = true })

-- the links after t was marked as done
abbrev pub with_done : List Link → ℕ → List Link
with_done links t = slice_set links t (record (link_of links t) { done = true })

-- a task waits only for a task with a higher number, a parent has a lower number, and each number fits 32 bits
pub record IsOrdered (links : List Link) : Type 0 where
  pub waits_up : (t u : ℕ) → (link_of links t).waits ≡ Some u → (t < u) × (u < length links)
  pub parent_down : (t p : ℕ) → (link_of links t).parent ≡ Some p → p < t
  pub numbered : length links < 2 ^ 32
