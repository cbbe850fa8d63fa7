-- How the nodes fit the state of the core of admission. Each definition speaks of few parts. Here `standing` are the records
-- that stand.
use Rattle.std.specs.Prelude.{◌≡◌, ◌≢◌, ◌↔◌, ◌+◌, ◌≤◌, ℕ, zero, suc, Bool, true, false, List, [], ◌∷◌, Option, Some, None, Contains, count_by, is_some}
use Rattle.region_paths.specs.declared.elements.Elem.{Elem}
use Rattle.seg_journal.specs.declared.journal.Entry.{Entry}
use Rattle.wait_graph.specs.Waiting.{WaitsOnUnlessDone}
use Rattle.machine_state.specs.declared.state.State.{State}
use Rattle.machine_state.specs.declared.state.TaskRow.{TaskRow}
use Rattle.machine_state.specs.declared.state.TaskStatus.TheVariants as status
use Rattle.machine_state.specs.Rows.{IsRow}
use Rattle.floor_laws.specs.declared.rule.view.HeldTurn.{HeldTurn}
use Rattle.floor_laws.specs.rule.Fitting.{IsUnheld, Turns}
use Rattle.floor_laws.specs.admission.admission_core.Tasks.{Task, Tasks, Turn, Free, Taken, New, IsTask}
use Rattle.floor_laws.specs.admission.admission_core.States.{Activity, HoldsNode, IsAmong, IsPlaceOf, Record, held}
use Rattle.floor_laws.specs.admission.TasksOf.{AreTasksOf}
use Rattle.floor_laws.specs.rule.nodes.Trees.{LockWord, Unlocked, Locked, WaitFact}

-- what each seat does in the tree
abbrev pub Activities : Type 0
Activities = ℕ → Option Activity

-- no element is in the list twice
abbrev pub IsDistinct : {X : Type 0} → List X → Type 0
IsDistinct [] = Unit {0}
IsDistinct (x ∷ xs) = (¬ IsAmong x xs) × IsDistinct xs

-- the record is of a task that was made and of one of its effects, and stands at that effect's place
pub record IsPlaced (nodes : List (List Elem)) (st : State) (r : Record) : Type 0 where
  pub place : IsPlaceOf nodes r.effect r.node
  pub row : TaskRow
  pub there : IsRow st r.task row
  pub effect : Contains row.effects.effects r.effect

-- Tasks.

-- seat i has the turn of task t: as a first turn, or as one that it took
abbrev pub HasTurn : Turns → ℕ → ℕ → Type 0
HasTurn turns i t = (turn : HeldTurn) × (turns i t ≡ Some turn)

-- seat i took the turn of task t
abbrev pub HasTakenTurn : Turns → ℕ → ℕ → Type 0
HasTakenTurn turns i t = (turn : HeldTurn) × (turns i t ≡ Some turn) × (turn.first ≡ false)

-- Seat i has the first turn of task t. The task is still to be placed if it was spawned.
abbrev pub HasFirst : Turns → ℕ → ℕ → Bool → Type 0
HasFirst turns i t unplaced =
    (turn : HeldTurn) × (turns i t ≡ Some turn) × (turn.first ≡ true) × (unplaced ≡ is_some turn.row.parent)

-- the core's turn of task t is the one that the seats have; here its workers are the seats
abbrev pub TurnIs : Turns → ℕ → Turn → Bool → Type 0
TurnIs turns t Free unplaced = IsUnheld turns t × (unplaced ≡ false)
TurnIs turns t (Taken i) unplaced = HasTakenTurn turns i t × (unplaced ≡ false)
TurnIs turns t (New i) unplaced = HasFirst turns i t unplaced

-- The tasks of the core are those of the state that this journal led to, and their turns are those that the seats have.
pub record TasksFit (journal : List Entry) (st : State) (turns : Turns) (tasks : Tasks) : Type 0 where
  pub rows : AreTasksOf journal st tasks
  pub whose : (t : ℕ) (task : Task) → IsTask tasks t task → TurnIs turns t task.turn task.unplaced

-- Locks.

-- nobody holds node n
abbrev pub IsUnlocked : Activities → ℕ → Type 0
IsUnlocked activities n = (i : ℕ) → ¬ HoldsNode activities i n

-- a lock word names a worker exactly if the activity of that worker's seat holds the node
abbrev pub LockFits : (ℕ → ℕ) → Activities → ℕ → LockWord → Type 0
LockFits workers activities n Unlocked = IsUnlocked activities n
LockFits workers activities n (Locked worker) = (i : ℕ) × HoldsNode activities i n × (workers i ≡ worker)

-- each lock word says who holds its node, and no activity holds a node twice
pub record LocksFit (workers : ℕ → ℕ) (activities : Activities) (locks : ℕ → LockWord) : Type 0 where
  pub words : (n : ℕ) → LockFits workers activities n (locks n)
  -- no activity holds a node twice
  pub once : (i : ℕ) (a : Activity) → activities i ≡ Some a → IsDistinct (held a.stage)

-- Contents.

-- these are the records that stand at node n
abbrev pub AreRecordsAt : List Record → ℕ → List Record → Type 0
AreRecordsAt standing n records = (r : Record) → IsAmong r records ↔ (IsAmong r standing × (r.node ≡ n))

-- the content of a node lies at it exactly if nobody holds the node
abbrev pub ContentFits : List Record → Activities → ℕ → Option (List Record) → Type 0
ContentFits standing activities n None = (i : ℕ) × HoldsNode activities i n
ContentFits standing activities n (Some records) = IsUnlocked activities n × AreRecordsAt standing n records

-- a seat has the content of node n exactly if it holds the node
abbrev pub KeptFits : List Record → Activities → ℕ → ℕ → Option (List Record) → Type 0
KeptFits standing activities i n None = ¬ HoldsNode activities i n
KeptFits standing activities i n (Some records) = HoldsNode activities i n × AreRecordsAt standing n records

-- the records that stand at a node lie there while nobody holds it, and are at the seat that holds it
pub record ContentsFit (standing : List Record) (activities : Activities) (contents : ℕ → Option (List Record))
    (kept : ℕ → ℕ → Option (List Record)) : Type 0 where
  pub homes : (n : ℕ) → ContentFits standing activities n (contents n)
  pub out : (i n : ℕ) → KeptFits standing activities i n (kept i n)

-- Counts.

-- how many records of the first n seats' lists pass a test
abbrev pub counted_records : (Record → Bool) → (ℕ → List Record) → ℕ → ℕ
counted_records test lists zero = 0
counted_records test lists (suc n) = count_by test (lists n) + counted_records test lists n

-- Some number of seats have placed and removed all records that were. Whatever records one asks for: as many were placed as
-- were removed, and as stand, together.
pub record AreCounted (standing : List Record) (placed removed : ℕ → List Record) : Type 0 where
  pub seats : ℕ
  pub beyond : (i : ℕ) → seats ≤ i → (placed i ≡ []) × (removed i ≡ [])
  pub balance : (test : Record → Bool)
      → counted_records test placed seats ≡ counted_records test removed seats + count_by test standing

-- each record was placed as often as it was removed, and once more if it stands
pub record RecordsFit (standing : List Record) (placed removed : ℕ → List Record) : Type 0 where
  pub once : IsDistinct standing
  pub counts : AreCounted standing placed removed

-- What the seats know.

-- a seat has the turn of the record's task, and has placed the record since it got it, if the task is made and not admitted
abbrev pub IsOwned : Turns → (ℕ → List Record) → Record → TaskRow → Type 0
IsOwned turns fresh r row = (i : ℕ) × HasTurn turns i r.task × (row.status ≡ status.Made → IsAmong r (fresh i))

-- What the seats know of records and of waits is so, and a record of a task that is not enabled stands only while a seat has the
-- task's turn.
pub record KnowledgeFits (st : State) (turns : Turns) (standing : List Record) (fresh : ℕ → List Record) (clear : ℕ → List Record)
    (waits : ℕ → List WaitFact) : Type 0 where
  -- a record of a task that is not enabled stands only while a seat has the task's turn
  pub owned : (r : Record) (row : TaskRow) → IsAmong r standing → IsRow st r.task row → row.status ≢ status.Enabled
      → IsOwned turns fresh r row
  -- a record of a task whose first turn a seat has was placed by that seat
  pub first_fresh : (i : ℕ) (r : Record) (turn : HeldTurn) → IsAmong r standing → turns i r.task ≡ Some turn → turn.first ≡ true
      → IsAmong r (fresh i)
  -- what a seat has placed since it got the turn stands, and the seat has the turn
  pub fresh_stand : (i : ℕ) (r : Record) → IsAmong r (fresh i) → IsAmong r standing × HasTurn turns i r.task
  -- what a seat knows not to stand does not stand, and the seat has the turn
  pub clear_are : (i : ℕ) (r : Record) → IsAmong r (clear i) → HasTurn turns i r.task × (¬ IsAmong r standing)
  -- the waits that a seat knows hold in the state
  pub waits_hold : (i : ℕ) (fact : WaitFact) → IsAmong fact (waits i) → WaitsOnUnlessDone st.links fact.waiter fact.awaited
