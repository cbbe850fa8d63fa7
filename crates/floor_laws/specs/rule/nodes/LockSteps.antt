-- The steps on locks: what the seat that takes one has to know, and the nodes after it.
use Rattle.std.specs.Prelude.{◌≡◌, ℕ, false, List, ◌∷◌, Option, Some, None, Contains}
use Rattle.region_paths.specs.declared.elements.Elem.{Elem}
use Rattle.effect_sets.specs.declared.effects.Effect.{Effect}
use Rattle.effect_sets.specs.Interference.{Interferes}
use Rattle.prefix_tree.specs.Nodes.{IsParent}
use Rattle.effect_tree.specs.Place.{IsSolid}
use Rattle.twe_base.specs.Limits.{Bounds}
use Rattle.twe_program.specs.Program.{Program}
use Rattle.machine_state.specs.declared.state.TaskStatus.TheVariants as status
use Rattle.seg_journal.specs.declared.numbered.NumberedEntry.{NumberedEntry}
use Rattle.floor_laws.specs.declared.rule.view.HeldTurn.{HeldTurn}
use Rattle.floor_laws.specs.rule.Floors.{Floor, put}
use Rattle.floor_laws.specs.rule.Fitting.{Turns}
use Rattle.floor_laws.specs.admission.admission_core.States.{State, Activity, Record, Purpose, Admit, Child, Remove, Stage, Descends, Steps, Walks, Leaves, IsAbove, IsAmong, IsPlaceOf, record_effect, held}
use Rattle.floor_laws.specs.admission.admission_core.Events.{AllFinishedOrApart, HasCome}
use Rattle.floor_laws.specs.rule.nodes.Rule.{IsOneEvent}
use Rattle.floor_laws.specs.rule.nodes.Trees.{Unlocked, Locked, Tree, WaitFact, put_kept}

-- What a seat knows.

-- Seat i took the turn of task t, which is still to be admitted and has this effect.
pub record MayStartAdmission (turns : Turns) (i t : ℕ) (e : Effect) : Type 0 where
  pub turn : HeldTurn
  pub has : turns i t ≡ Some turn
  pub taken : turn.first ≡ false
  pub made : turn.row.status ≡ status.Made
  pub effect : Contains turn.row.effects.effects e

-- what a seat needs before it sets out for a purpose; only to admit a task it needs something
abbrev pub MaySetOut : Turns → ℕ → Purpose → Type 0
MaySetOut turns i (Admit t e) = MayStartAdmission turns i t e
MaySetOut turns i (Child t e) = Unit {0}
MaySetOut turns i (Remove t e) = Unit {0}

-- A seat knows that a record passes for effect e of task t: the two do not interfere, the record is one of t, or its task is
-- known to wait for t.
pub data IsKnownToPass (waits : List WaitFact) (t : ℕ) (e : Effect) (r : Record) : Type 0 where
  apart : ¬ Interferes r.effect e → IsKnownToPass waits t e r
  own : r.task ≡ t → IsKnownToPass waits t e r
  waiting : IsAmong (record { waiter = r.task; awaited = t }) waits → IsKnownToPass waits t e r

-- the same for a purpose: whoever admits no task tests nothing
abbrev pub PassesHere : List WaitFact → Purpose → Record → Type 0
PassesHere waits (Admit t e) r = IsKnownToPass waits t e r
PassesHere waits (Child t e) r = Unit {0}
PassesHere waits (Remove t e) r = Unit {0}

-- seat i has the content of node n, and knows that each record in it passes
pub record SeesPass (tree : Tree) (i : ℕ) (purpose : Purpose) (n : ℕ) : Type 0 where
  pub records : List Record
  pub has : tree.kept i n ≡ Some records
  pub pass : (r : Record) → IsAmong r records → PassesHere (tree.waits i) purpose r

-- Locking.

-- seat i has locked node n, at which these records lie, and does this from now on
abbrev pub after_locking : Floor → Tree → ℕ → ℕ → List Record → Activity → Tree
after_locking f tree i n records a = record tree {
  locks = put tree.locks n (Locked (f.workers i));
  contents = put tree.contents n None;
  activities = put tree.activities i (Some a);
  kept = put_kept tree.kept i n (Some records);
}

-- the content of node n is there, and locking the node is one event
abbrev pub LocksNode : List (List Elem) → Program → Bounds → List NumberedEntry → Floor → Tree → State → ℕ → ℕ → Activity → Type 0
LocksNode nodes p lim log f tree core i n a =
    (records : List Record) × (tree.contents n ≡ Some records)
    × IsOneEvent nodes p lim log f core (after_locking f tree i n records a)

-- seat i, which does nothing in the tree, may lock the root, to do this
pub record MayEnter (nodes : List (List Elem)) (turns : Turns) (tree : Tree) (i : ℕ) (a : Activity) : Type 0 where
  pub idle : tree.activities i ≡ None
  pub purpose : MaySetOut turns i a.purpose
  pub place : IsPlaceOf nodes (record_effect a.purpose) a.place
  pub stage : HasCome a.place 0 a.stage

-- Seat i may lock node c on the way to its place. It holds the parent of c alone, and knows that each record there passes.
pub record MayGoDown (nodes : List (List Elem)) (tree : Tree) (i : ℕ) (a : Activity) (n c : ℕ) : Type 0 where
  pub active : tree.activities i ≡ Some a
  pub stage : a.stage ≡ Descends n
  pub child : IsParent nodes n c
  pub way : IsAbove nodes c a.place
  pub pass : SeesPass tree i a.purpose n

-- Seat i may lock node c below its place. The effect has a wildcard. The last node that the seat holds is the parent of c,
-- each record there passes, and c is not finished yet.
pub record MayWalkDown (nodes : List (List Elem)) (tree : Tree) (i : ℕ) (a : Activity) (t : ℕ) (e : Effect) (n c : ℕ)
    (stack done : List ℕ) : Type 0 where
  pub active : tree.activities i ≡ Some a
  pub purpose : a.purpose ≡ Admit t e
  pub stage : a.stage ≡ Walks (n ∷ stack) done
  pub wild : ¬ IsSolid e.path
  pub child : IsParent nodes n c
  pub unfinished : ¬ IsAmong c done
  pub pass : SeesPass tree i a.purpose n

-- Seat i may pass by node c, which has no children, if nobody has locked it and no record stands at it. The last node of its
-- walk is the parent of c.
pub record MayPassBy (nodes : List (List Elem)) (tree : Tree) (i : ℕ) (a : Activity) (n c : ℕ) (stack done : List ℕ)
    : Type 0 where
  pub active : tree.activities i ≡ Some a
  pub stage : a.stage ≡ Walks (n ∷ stack) done
  pub child : IsParent nodes n c
  pub lowest : (m : ℕ) → ¬ IsParent nodes c m

-- Unlocking.

-- seat i has unlocked node n, at which these records lie, and does this from now on
abbrev pub after_unlocking : Tree → ℕ → ℕ → List Record → Activity → Tree
after_unlocking tree i n records a = record tree {
  locks = put tree.locks n Unlocked;
  contents = put tree.contents n (Some records);
  activities = put tree.activities i (Some a);
  kept = put_kept tree.kept i n None;
}

-- seat i has the content of node n, and unlocking the node is one event
abbrev pub UnlocksNode : List (List Elem) → Program → Bounds → List NumberedEntry → Floor → Tree → State → ℕ → ℕ → Activity
    → Type 0
UnlocksNode nodes p lim log f tree core i n a =
    (records : List Record) × (tree.kept i n ≡ Some records)
    × IsOneEvent nodes p lim log f core (after_unlocking tree i n records a)

-- Seat i, which holds node n and its child c, may unlock n. It comes to this stage.
pub record MayGiveParent (tree : Tree) (i : ℕ) (a : Activity) (n c : ℕ) (stage : Stage) : Type 0 where
  pub active : tree.activities i ≡ Some a
  pub at : a.stage ≡ Steps n c
  pub come : HasCome a.place c stage

-- Seat i may unlock node c, the last of a walk and not its place: each record there passes, and each of its children is
-- finished or apart from the effect.
pub record MayWalkUp (nodes : List (List Elem)) (tree : Tree) (i : ℕ) (a : Activity) (c n : ℕ)
    (stack done : List ℕ) : Type 0 where
  pub active : tree.activities i ≡ Some a
  pub stage : a.stage ≡ Walks (c ∷ n ∷ stack) done
  pub pass : SeesPass tree i a.purpose c
  pub below : AllFinishedOrApart nodes (record_effect a.purpose) c done

-- seat i, which only gives back what it holds, may unlock node n, the next of those
pub record MayGiveNodeBack (tree : Tree) (i : ℕ) (a : Activity) (n : ℕ) (others : List ℕ) : Type 0 where
  pub active : tree.activities i ≡ Some a
  pub stage : a.stage ≡ Leaves (n ∷ others)

-- Stopping. These change no word.

-- seat i does this from now on, or nothing
abbrev pub after_turning : Tree → ℕ → Option Activity → Tree
after_turning tree i activity = record tree { activities = put tree.activities i activity }

-- seat i only gives back what it holds from now on
abbrev pub stopped : Activity → Activity
stopped a = record a { stage = Leaves (held a.stage) }
