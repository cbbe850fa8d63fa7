-- The records with which the nodes of a floor start, as lists.
use Rattle.std.specs.Prelude.{◌≡◌, ◌<◌, ◌++◌, ℕ, List, [], ◌∷◌, if◌then◌else◌, length, drop, slice_index_or, slice_set, Contains}
use Rattle.std.specs.List.{list_any}
use mathlib.Core.Option as core
use lib.ListN.{get_elem?}
use Rattle.region_paths.specs.declared.elements.Elem.{Elem}
use Rattle.effect_sets.specs.declared.effects.Effect.{Effect}
use Rattle.machine_state.specs.declared.state.TaskRow.{TaskRow}
use Rattle.machine_state.specs.declared.state.TaskStatus.{TaskStatus}
use Rattle.machine_state.specs.declared.state.TaskStatus.TheVariants.{Made, Enabled, Done, Faulted}
use Rattle.floor_laws.specs.admission.admission_core.States.{IsAmong, IsPlaceOf, Record}
use Rattle.floor_laws.specs.rule.nodes.Fitting.{AreRecordsAt, IsDistinct}
use Rattle.floor_laws.specs.table.nodes.Without.{same_record}

-- the effects of a task that block others: all of them if it is enabled, else none
abbrev pub live_by : TaskStatus → List Effect → List Effect
live_by Made effects = []
live_by Enabled effects = effects
live_by Done effects = []
live_by Faulted effects = []

-- the effects of the task with this row that block others
abbrev pub live_effects : TaskRow → List Effect
live_effects row = live_by row.status row.effects.effects

-- the record is one of task t, for one of these effects, and stands at that effect's place
pub record IsRecordOf (nodes : List (List Elem)) (t : ℕ) (effects : List Effect) (r : Record) : Type 0 where
  pub task : r.task ≡ t
  pub effect : Contains effects r.effect
  pub place : IsPlaceOf nodes r.effect r.node

-- the list has one record of task t for each of these effects, at the effect's place, and no others
pub record AreRecordsOf (nodes : List (List Elem)) (t : ℕ) (effects : List Effect) (records : List Record) : Type 0 where
  pub once : IsDistinct records
  pub only : (r : Record) → IsAmong r records → IsRecordOf nodes t effects r
  pub all : (e : Effect) → Contains effects e
      → (n : ℕ) × IsPlaceOf nodes e n × IsAmong (record { task = t; effect = e; node = n }) records

-- the records with this one behind them, unless it is among those from `start` on
abbrev pub with_record : ℕ → Record → List Record → List Record
with_record start r records =
    if list_any (λ (s : Record). same_record s r) (drop start records) then records else records ++ r ∷ []

-- the contents of nodes, of which that of the record's node has the record too
abbrev pub with_added : Record → List (List Record) → List (List Record)
with_added r contents = slice_set contents r.node (r ∷ slice_index_or contents r.node [])

-- node n has this content, which has each record that stands there once, and no others
pub record HoldsThose (records : List Record) (contents : List (List Record)) (n : ℕ) : Type 0 where
  pub content : List Record
  pub there : get_elem? contents n ≡ core.some content
  pub all : AreRecordsAt records n content
  pub once : IsDistinct content

-- there is a content for each of so many nodes, which has the records that stand there
pub record HoldRecords (nodes : ℕ) (records : List Record) (contents : List (List Record)) : Type 0 where
  pub count : length contents ≡ nodes
  pub each : (n : ℕ) → n < nodes → HoldsThose records contents n
