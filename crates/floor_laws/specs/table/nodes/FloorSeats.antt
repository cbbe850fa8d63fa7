-- A step of the floor on a table with nodes: what it tells the floor's seat, it tells this one, and nothing of nodes changes.
use Rattle.std.specs.Prelude.{◌≡◌, ◌<◌, ℕ, List, [], ◌∷◌, Option, map}
use mathlib.Core.Option as core
use Rattle.atomic_table.specs.Table.{step}
use Rattle.twe_base.specs.Limits.{Bounds}
use Rattle.twe_program.specs.Program.{Program}
use Rattle.floor_laws.specs.declared.rule.view.TaskSlot.{TaskSlot}
use Rattle.floor_laws.specs.table.Plays.{FloorStep, LoadsCell, StoresCell, StoresPhase}
use Rattle.floor_laws.specs.table.Tells.{Seat}
use Rattle.floor_laws.specs.declared.table.nodes.slot.TreeSlot.{TreeSlot}
use Rattle.floor_laws.specs.declared.table.nodes.slot.TreeSlot.TheVariants as kinds
use Rattle.floor_laws.specs.table.nodes.Plays.{TreeStep}
use Rattle.floor_laws.specs.table.nodes.Seats.{TreeSeat}

-- a slot of a task, on a table with nodes
abbrev pub as_slot : ℕ × Option TaskSlot → ℕ × TreeSlot
as_slot x = (x.0, kinds.Task x.1)

-- the slots of tasks among those that a seat has out
abbrev pub tasks_out : List (ℕ × TreeSlot) → List (ℕ × Option TaskSlot)
tasks_out [] = []
tasks_out ((k, kinds.Task y) ∷ mine) = (k, y) ∷ tasks_out mine
tasks_out ((k, kinds.Node records) ∷ mine) = tasks_out mine
tasks_out ((k, kinds.Errand errand) ∷ mine) = tasks_out mine

-- a seat has only slots of the first n tasks out, as one has that holds no node
abbrev pub HasTaskSlots : ℕ → List (ℕ × TreeSlot) → Type 0
HasTaskSlots n [] = Unit {0}
HasTaskSlots n ((k, kinds.Task y) ∷ mine) = (k < n) × HasTaskSlots n mine
HasTaskSlots n ((k, kinds.Node records) ∷ mine) = ⊥
HasTaskSlots n ((k, kinds.Errand errand) ∷ mine) = ⊥

-- the floor's seat
abbrev pub floor_seat : TreeSeat → Seat
floor_seat me = (me.0.floor, tasks_out me.1)

-- The step tells the floor's seat this; of nodes the seat knows what it knew.
abbrev pub TellsFloor : (ℕ → Seat → Type 0) → TreeSeat → ℕ → TreeSeat → Type 0
TellsFloor tells before found after =
    (me : Seat) × tells found me × (after ≡ (record before.0 { floor = me.0 }, map as_slot me.1))

-- the step, as the floor has it
abbrev pub floor_step : Bounds → TreeStep → FloorStep
floor_step lim s = step lim.tasks s.word s.first s.second core.none

-- a load of a cell's word, as on a table of the floor
abbrev pub LoadsTreeCell : Bounds → TreeStep → TreeSeat → ℕ → TreeSeat → Type 0
LoadsTreeCell lim s before = TellsFloor (LoadsCell (floor_step lim s) (floor_seat before)) before

-- a store to a cell's word, as on a table of the floor
abbrev pub StoresTreeCell : Bounds → TreeStep → TreeSeat → ℕ → TreeSeat → Type 0
StoresTreeCell lim s before = TellsFloor (StoresCell (floor_step lim s) (floor_seat before)) before

-- a store to a phase word, as on a table of the floor
abbrev pub StoresTreePhase : Program → Bounds → TreeStep → TreeSeat → ℕ → TreeSeat → Type 0
StoresTreePhase p lim s before = TellsFloor (StoresPhase p (floor_step lim s) (floor_seat before)) before
