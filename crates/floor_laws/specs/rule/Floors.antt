-- The floor as plain data: its words, its slots, and what each seat knows. Seats are numbered, and a worker has one each.
use Rattle.std.specs.Prelude.{◌==◌, ℕ, ℤ, List, Option, if◌then◌else◌}
use Rattle.seg_journal.specs.declared.numbered.NumberedEntry.{NumberedEntry}
use Rattle.floor_laws.specs.declared.rule.view.DoneFact.{DoneFact}
use Rattle.floor_laws.specs.declared.rule.view.HeldTurn.{HeldTurn}
use Rattle.floor_laws.specs.declared.rule.view.OpenSegment.{OpenSegment}
use Rattle.floor_laws.specs.declared.rule.view.Phase.{Phase}
use Rattle.floor_laws.specs.declared.rule.view.TaskSlot.{TaskSlot}

-- the turn word of a task
pub data TurnWord : Type 0 where
  -- nobody has the turn
  Free : TurnWord
  -- this worker took it
  Taken : (worker : ℕ) → TurnWord
  -- the task is not made yet, or its maker has not given its first turn
  New : TurnWord

-- the slot of a task
pub data Home : Type 0 where
  -- what lies in it was taken out, by the worker that has the turn
  Away : Home
  -- the task is not made yet
  Empty : Home
  Holds : (slot : TaskSlot) → Home

-- the floor: its words and slots, and what each seat has and knows
pub record Floor : Type 0 where
  -- the clock: how many entries were drawn, and how many tasks were asked for
  pub entries : ℕ
  pub asked : ℕ
  -- the words of the cells, and for each task its turn word, its phase word and its slot
  pub cells : List ℤ
  pub turns : ℕ → TurnWord
  pub phases : ℕ → Phase
  pub homes : ℕ → Home
  -- for each seat the number of its worker, the entries that it has drawn, the turns that it has, by task, the segment
  -- that it has open, and the tasks that it knows to be done
  pub workers : ℕ → ℕ
  pub parts : ℕ → List NumberedEntry
  pub held : ℕ → ℕ → Option HeldTurn
  pub segments : ℕ → Option OpenSegment
  pub facts : ℕ → List DoneFact

-- f, but for k
abbrev pub put : {X : Type 0} → (ℕ → X) → ℕ → X → ℕ → X
put f k x j = if j == k then x else f j

-- the turns of all seats, but for that of task t at seat i
abbrev pub put_turn : (ℕ → ℕ → Option HeldTurn) → ℕ → ℕ → Option HeldTurn → ℕ → ℕ → Option HeldTurn
put_turn held i t turn = put held i (put (held i) t turn)
