-- What a worker does in the tree: one case for each event, with its conditions and the state after it.
--
-- Locks are taken hand over hand: after the root, a node's lock is taken only by the worker that holds the node's parent.
use Rattle.std.specs.Prelude.{◌≡◌, ◌≢◌, ◌⊎◌, ◌↔◌, ℕ, true, List, [], ◌∷◌, Some, None, Contains}
use Rattle.region_paths.specs.declared.elements.Elem.{Elem}
use Rattle.effect_sets.specs.declared.effects.Effect.{Effect}
use Rattle.prefix_tree.specs.Nodes.{IsParent}
use Rattle.effect_tree.specs.Place.{IsSolid}
use Rattle.wait_graph.specs.Waiting.{SpawnedBy}
use Rattle.floor_laws.specs.admission.admission_core.Tasks.{Task, Tasks, Made, Taken, New, IsTask, IsLive}
use Rattle.floor_laws.specs.admission.admission_core.States.{IsAmong, IsAbove, IsPlaceOf, Record, Purpose, Admit, Child, Remove, record_effect, Stage, Descends, Steps, Walks, Leaves, held, Activity, State, NodeIsFree, AllPassAt, IsApartBelow, with_activity, with_stage}

-- the stage of an activity that holds node n alone, on its way down or at its place
abbrev pub HasCome : ℕ → ℕ → Stage → Type 0
HasCome place n stage = ((n ≢ place) × (stage ≡ Descends n)) ⊎ ((n ≡ place) × (stage ≡ Walks (n ∷ []) []))

-- a task that is to be admitted is Made, the effect is one of its effects, and worker w has taken its turn
abbrev pub MayBegin : Tasks → ℕ → Purpose → Type 0
MayBegin ts w (Admit t e) =
    (task : Task) × IsTask ts t task × (task.status ≡ Made) × (task.turn ≡ Taken w) × Contains task.effects e
MayBegin ts w (Child t e) = Unit {0}
MayBegin ts w (Remove t e) = Unit {0}

-- each child of node n is among the nodes, or nothing that has its place at or below it interferes with the effect
abbrev pub AllFinishedOrApart : List (List Elem) → Effect → ℕ → List ℕ → Type 0
AllFinishedOrApart nodes e n finished = (c : ℕ) → IsParent nodes n c → IsAmong c finished ⊎ IsApartBelow nodes e c

-- worker w, which holds nothing, takes the lock of the root
pub record Begins (nodes : List (List Elem)) (s : State) (w : ℕ) (a : Activity) : Type 0 where
  pub idle : s.activities w ≡ None
  pub free : NodeIsFree s 0
  pub task : MayBegin s.tasks w a.purpose
  pub place : IsPlaceOf nodes (record_effect a.purpose) a.place
  pub stage : HasCome a.place 0 a.stage

-- it holds node n, which isn't its place, sees each record there pass, and takes the child on the way to its place
pub record GoesDown (nodes : List (List Elem)) (s : State) (w : ℕ) (a : Activity) (n c : ℕ) : Type 0 where
  pub active : s.activities w ≡ Some a
  pub stage : a.stage ≡ Descends n
  pub child : IsParent nodes n c
  pub way : IsAbove nodes c a.place
  pub free : NodeIsFree s c
  pub pass : AllPassAt s a.purpose n

-- it holds a node and its child, and gives the node
pub record GivesNode (s : State) (w : ℕ) (a : Activity) (n c : ℕ) (stage : Stage) : Type 0 where
  pub active : s.activities w ≡ Some a
  pub at : a.stage ≡ Steps n c
  pub come : HasCome a.place c stage

-- The effect has a wildcard; the stack, which begins at its place, ends with node n, and each record there passes. It
-- takes an unfinished child of that node.
pub record WalksDown (nodes : List (List Elem)) (s : State) (w : ℕ) (a : Activity) (t : ℕ) (e : Effect) (n c : ℕ)
    (stack done : List ℕ) : Type 0 where
  pub active : s.activities w ≡ Some a
  pub purpose : a.purpose ≡ Admit t e
  pub stage : a.stage ≡ Walks (n ∷ stack) done
  pub wild : ¬ IsSolid e.path
  pub child : IsParent nodes n c
  pub free : NodeIsFree s c
  pub unfinished : ¬ IsAmong c done
  pub pass : AllPassAt s a.purpose n

-- the last node c isn't the place, each record there passes, and each of its children is finished or apart from the
-- effect: it is given and finished
pub record WalksUp (nodes : List (List Elem)) (s : State) (w : ℕ) (a : Activity) (c n : ℕ) (stack done : List ℕ) : Type 0 where
  pub active : s.activities w ≡ Some a
  pub stage : a.stage ≡ Walks (c ∷ n ∷ stack) done
  pub pass : AllPassAt s a.purpose c
  pub below : AllFinishedOrApart nodes (record_effect a.purpose) c done

-- The last node of a walk is n. No record stands at a child of it or below that child, and no lock there is held: the
-- child is finished as it is.
pub record PassesBy (nodes : List (List Elem)) (s : State) (w : ℕ) (a : Activity) (n c : ℕ) (stack done : List ℕ) : Type 0 where
  pub active : s.activities w ≡ Some a
  pub stage : a.stage ≡ Walks (n ∷ stack) done
  pub child : IsParent nodes n c
  pub free : (m : ℕ) → IsAbove nodes c m → NodeIsFree s m
  pub bare : (r : Record) → IsAmong r s.records → ¬ IsAbove nodes c r.node

-- at its place each record passes, and the effect is solid or each child is finished or apart from the effect: a record
-- of the task stands there
pub record Places (nodes : List (List Elem)) (s : State) (w : ℕ) (a : Activity) (t : ℕ) (e : Effect)
    (done : List ℕ) : Type 0 where
  pub active : s.activities w ≡ Some a
  pub purpose : a.purpose ≡ Admit t e
  pub stage : a.stage ≡ Walks (a.place ∷ []) done
  pub pass : AllPassAt s a.purpose a.place
  pub below : IsSolid e.path ⊎ AllFinishedOrApart nodes e a.place done

-- a record of a spawned child that is still to be placed stands at the place; the worker has the child's first turn and
-- its parent's turn
pub record PlacesChild (s : State) (w : ℕ) (a : Activity) (c : ℕ) (e : Effect) (done : List ℕ) : Type 0 where
  pub active : s.activities w ≡ Some a
  pub purpose : a.purpose ≡ Child c e
  pub stage : a.stage ≡ Walks (a.place ∷ []) done
  pub child : (task : Task) × IsTask s.tasks c task × Contains task.effects e × (task.unplaced ≡ true) × (task.turn ≡ New w)
  pub parent : (p : ℕ) × SpawnedBy s.tasks.links c p × ((task : Task) × IsTask s.tasks p task × (task.turn ≡ Taken w))

-- the task isn't live, or is still to be admitted and worker w has its turn
abbrev pub MayRemove : Tasks → ℕ → ℕ → Type 0
MayRemove ts w t = ¬ IsLive ts t ⊎ ((task : Task) × IsTask ts t task × (task.status ≡ Made) × (task.turn ≡ Taken w))

-- a record is taken out of the place: the others stay
pub record Removes (s : State) (w : ℕ) (a : Activity) (t : ℕ) (e : Effect) (done : List ℕ) (records : List Record) : Type 0 where
  pub active : s.activities w ≡ Some a
  pub purpose : a.purpose ≡ Remove t e
  pub stage : a.stage ≡ Walks (a.place ∷ []) done
  pub task : MayRemove s.tasks w t
  pub others : (r : Record) → IsAmong r records ↔ (IsAmong r s.records × (r ≢ record { task = t; effect = e; node = a.place }))

-- an event in the tree leads from one state to the next
pub data TreeEvent (nodes : List (List Elem)) (s next : State) : Type 0 where
  Begin : (w : ℕ) (a : Activity) → Begins nodes s w a → next ≡ with_activity s w (Some a) → TreeEvent nodes s next
  Down : (w : ℕ) (a : Activity) (m c : ℕ) → GoesDown nodes s w a m c → next ≡ with_stage s w a (Steps m c)
      → TreeEvent nodes s next
  Give : (w : ℕ) (a : Activity) (m c : ℕ) (stage : Stage) → GivesNode s w a m c stage → next ≡ with_stage s w a stage
      → TreeEvent nodes s next
  WalkDown : (w : ℕ) (a : Activity) (t : ℕ) (e : Effect) (m c : ℕ) (stack done : List ℕ)
      → WalksDown nodes s w a t e m c stack done
      → next ≡ with_stage s w a (Walks (c ∷ m ∷ stack) done) → TreeEvent nodes s next
  WalkUp : (w : ℕ) (a : Activity) (c m : ℕ) (stack done : List ℕ) → WalksUp nodes s w a c m stack done
      → next ≡ with_stage s w a (Walks (m ∷ stack) (c ∷ done)) → TreeEvent nodes s next
  PassBy : (w : ℕ) (a : Activity) (m c : ℕ) (stack done : List ℕ) → PassesBy nodes s w a m c stack done
      → next ≡ with_stage s w a (Walks (m ∷ stack) (c ∷ done)) → TreeEvent nodes s next
  Place : (w : ℕ) (a : Activity) (t : ℕ) (e : Effect) (done : List ℕ) → Places nodes s w a t e done
      → next ≡ with_stage (record s { records = record { task = t; effect = e; node = a.place } ∷ s.records }) w a
      (Leaves (held a.stage))
      → TreeEvent nodes s next
  PlaceChild : (w : ℕ) (a : Activity) (c : ℕ) (e : Effect) (done : List ℕ) → PlacesChild s w a c e done
      → next ≡ with_stage (record s { records = record { task = c; effect = e; node = a.place } ∷ s.records }) w a
      (Leaves (held a.stage))
      → TreeEvent nodes s next
  TakeOut : (w : ℕ) (a : Activity) (t : ℕ) (e : Effect) (done : List ℕ) (records : List Record) → Removes s w a t e done records
      → next ≡ with_stage (record s { records = records }) w a (Leaves (held a.stage)) → TreeEvent nodes s next
  -- it stops, at any moment
  Bar : (w : ℕ) (a : Activity) → s.activities w ≡ Some a → next ≡ with_stage s w a (Leaves (held a.stage))
      → TreeEvent nodes s next
  -- it gives the last node that it holds
  GiveBack : (w : ℕ) (a : Activity) (m : ℕ) (others : List ℕ) → s.activities w ≡ Some a → a.stage ≡ Leaves (m ∷ others)
      → next ≡ with_stage s w a (Leaves others) → TreeEvent nodes s next
  -- it holds nothing any more
  End : (w : ℕ) (a : Activity) → s.activities w ≡ Some a → a.stage ≡ Leaves [] → next ≡ with_activity s w None
      → TreeEvent nodes s next
