-- The steps on records: what the seat that takes one has to know, and the nodes after it.
use Rattle.std.specs.Prelude.{◌≡◌, ◌≢◌, ◌⊎◌, ◌↔◌, ◌&&◌, ◌==◌, ℕ, true, false, List, [], ◌∷◌, Some, Contains, if◌then◌else◌, is_some}
use Rattle.region_paths.specs.declared.elements.Elem.{Elem}
use Rattle.effect_sets.specs.declared.effects.Effect.{Effect}
use Rattle.effect_tree.specs.Place.{IsSolid}
use Rattle.machine_state.specs.declared.state.TaskStatus.TheVariants as status
use Rattle.floor_laws.specs.declared.rule.view.HeldTurn.{HeldTurn}
use Rattle.floor_laws.specs.rule.Floors.{put}
use Rattle.floor_laws.specs.rule.Fitting.{Turns}
use Rattle.floor_laws.specs.admission.admission_core.States.{Activity, Record, Admit, Child, Remove, Walks, IsAmong}
use Rattle.floor_laws.specs.admission.admission_core.Events.{AllFinishedOrApart}
use Rattle.floor_laws.specs.rule.nodes.LockSteps.{PassesHere, stopped}
use Rattle.floor_laws.specs.rule.nodes.Trees.{Tree, put_kept}

-- the list has the elements of the other but x, and no others
abbrev pub IsWithout : {X : Type 0} → X → List X → List X → Type 0
IsWithout {X} x before after = (y : X) → IsAmong y after ↔ (IsAmong y before × (y ≢ x))

-- Placing.

-- the records but those of task t at node n
abbrev pub not_clear : ℕ → ℕ → List Record → List Record
not_clear t n [] = []
not_clear t n (r ∷ records) = if (r.task == t) && (r.node == n) then not_clear t n records else r ∷ not_clear t n records

-- seat i has placed the record at a node whose other records are these, and only gives back what it holds from now on
abbrev pub after_placing : Tree → ℕ → Activity → Record → List Record → Tree
after_placing tree i a r others = record tree {
  activities = put tree.activities i (Some (stopped a));
  kept = put_kept tree.kept i r.node (Some (r ∷ others));
  placed = put tree.placed i (r ∷ tree.placed i);
  fresh = put tree.fresh i (r ∷ tree.fresh i);
  clear = put tree.clear i (not_clear r.task r.node (tree.clear i));
}

-- the record of the effect that the activity is about
abbrev pub record_here : ℕ → Effect → Activity → Record
record_here t e a = record { task = t; effect = e; node = a.place }

-- Seat i may place the record of a task that is to be admitted. It is at the effect's place, whose content is this and does
-- not have the record. It knows that each record there passes, and the effect has no wildcard, or each child is finished or
-- apart from the effect.
pub record MayPlace (nodes : List (List Elem)) (tree : Tree) (i : ℕ) (a : Activity) (t : ℕ) (e : Effect) (done : List ℕ)
    (content : List Record) : Type 0 where
  pub active : tree.activities i ≡ Some a
  pub purpose : a.purpose ≡ Admit t e
  pub stage : a.stage ≡ Walks (a.place ∷ []) done
  pub has : tree.kept i a.place ≡ Some content
  pub missing : ¬ IsAmong (record_here t e a) content
  pub pass : (r : Record) → IsAmong r content → PassesHere (tree.waits i) a.purpose r
  pub below : IsSolid e.path ⊎ AllFinishedOrApart nodes e a.place done

-- Seat i may place the record of a spawned child whose first turn it has. It is at the effect's place, whose content is this
-- and does not have the record.
pub record MayPlaceChild (turns : Turns) (tree : Tree) (i : ℕ) (a : Activity) (c : ℕ) (e : Effect) (done : List ℕ)
    (content : List Record) : Type 0 where
  pub active : tree.activities i ≡ Some a
  pub purpose : a.purpose ≡ Child c e
  pub stage : a.stage ≡ Walks (a.place ∷ []) done
  pub has : tree.kept i a.place ≡ Some content
  pub missing : ¬ IsAmong (record_here c e a) content
  pub turn : HeldTurn
  pub holds : turns i c ≡ Some turn
  pub first : turn.first ≡ true
  pub spawned : is_some turn.row.parent ≡ true
  pub effect : Contains turn.row.effects.effects e

-- Removing.

-- seat i has removed the record from a node whose records are these now; and it only gives back what it holds from now on
abbrev pub after_removing : Tree → ℕ → Activity → Record → List Record → List Record → Tree
after_removing tree i a r content fresh = record tree {
  activities = put tree.activities i (Some (stopped a));
  kept = put_kept tree.kept i r.node (Some content);
  removed = put tree.removed i (r ∷ tree.removed i);
  fresh = put tree.fresh i fresh;
  clear = put tree.clear i (r ∷ tree.clear i);
}

-- Seat i may remove the record of a task whose turn it took and which is not enabled. It is at the effect's place. The content
-- there has the record, and the new content has the others.
pub record MayTakeOut (turns : Turns) (tree : Tree) (i : ℕ) (a : Activity) (t : ℕ) (e : Effect) (done : List ℕ)
    (before content fresh : List Record) : Type 0 where
  pub active : tree.activities i ≡ Some a
  pub purpose : a.purpose ≡ Remove t e
  pub stage : a.stage ≡ Walks (a.place ∷ []) done
  pub has : tree.kept i a.place ≡ Some before
  pub there : IsAmong (record_here t e a) before
  pub others : IsWithout (record_here t e a) before content
  pub fresh_others : IsWithout (record_here t e a) (tree.fresh i) fresh
  pub turn : HeldTurn
  pub holds : turns i t ≡ Some turn
  pub taken : turn.first ≡ false
  pub inactive : turn.row.status ≢ status.Enabled
