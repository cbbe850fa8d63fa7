-- How contracts see what a worker does in the tree.
use Rattle.std.specs.Prelude.{ℕ}
use Rattle.floor_laws.specs.admission.admission_core.States.{Activity, Stage}
use Rattle.floor_laws.specs.admission.admission_core.States as core
use Rattle.floor_laws.specs.declared.table.nodes.activity.Purpose.{Purpose}
use Rattle.floor_laws.specs.declared.table.nodes.activity.Purpose.TheVariants as purposes
use Rattle.floor_laws.specs.declared.table.nodes.activity.Way.{Way}
use Rattle.floor_laws.specs.declared.table.nodes.activity.Way.TheVariants as ways

-- the purpose as the core of admission has it
abbrev pub purpose_of : Purpose → core.Purpose
purpose_of (purposes.Admit t e) = core.Admit t e
purpose_of (purposes.Child t e) = core.Child t e
purpose_of (purposes.Remove t e) = core.Remove t e

-- the stage as the core of admission has it
abbrev pub stage_of : Way → Stage
stage_of (ways.Descends n) = core.Descends n
stage_of (ways.Steps n c) = core.Steps n c
stage_of (ways.Walks stack done) = core.Walks stack done
stage_of (ways.Leaves nodes) = core.Leaves nodes

-- the activity with this purpose and place that has come so far
abbrev pub activity_of : Purpose → ℕ → Way → Activity
activity_of purpose place way = record { purpose = purpose_of purpose; place = place; stage = stage_of way }
