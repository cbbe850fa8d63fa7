-- The nodes of the tree as plain data: their lock words, their contents, and what each seat knows of them. A record is an
-- effect of a task that stands at a node. Seats are those of the floor.
use Rattle.std.specs.Prelude.{ℕ, List, Option}
use Rattle.floor_laws.specs.rule.Floors.{put}
use Rattle.floor_laws.specs.admission.admission_core.States.{Activity, Record}

-- the lock word of a node: nobody has locked it, or this worker
pub data LockWord : Type 0 where
  Unlocked : LockWord
  Locked : (worker : ℕ) → LockWord

-- a worker knows that this task waits for that one, directly or through others, unless that one is done
pub record WaitFact : Type 0 where
  pub waiter : ℕ
  pub awaited : ℕ

-- the nodes of the tree: their words and contents, and what each seat has and knows of them
pub record Tree : Type 0 where
  -- for each node its lock word, and the records that lie at it; none if whoever has locked it has taken them out
  pub locks : ℕ → LockWord
  pub contents : ℕ → Option (List Record)
  -- for each seat what it does in the tree, if it does something, and the records of each node that it has locked
  pub activities : ℕ → Option Activity
  pub kept : ℕ → ℕ → Option (List Record)
  -- the records that it has placed and removed, and those that it has placed since it got their task's turn and has not
  -- removed
  pub placed : ℕ → List Record
  pub removed : ℕ → List Record
  pub fresh : ℕ → List Record
  -- the records of tasks whose turns it has that it knows not to stand, and the waits that it knows
  pub clear : ℕ → List Record
  pub waits : ℕ → List WaitFact

-- what the seats have of the nodes that they have locked, but for node n at seat i
abbrev pub put_kept : (ℕ → ℕ → Option (List Record)) → ℕ → ℕ → Option (List Record) → ℕ → ℕ → Option (List Record)
put_kept kept i n records = put kept i (put (kept i) n records)
