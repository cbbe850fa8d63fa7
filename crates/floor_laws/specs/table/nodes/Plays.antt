-- What a step on a node tells its seat, by its word, what was announced and the seat before it.
use Rattle.std.specs.Prelude.{◌≡◌, ℕ, List, Option, Some}
use Rattle.atomic_table.specs.Table.{Step}
use Rattle.region_paths.specs.declared.elements.Elem.{Elem}
use Rattle.twe_base.specs.Limits.{Bounds}
use Rattle.twe_program.specs.Program.{Program}
use Rattle.floor_laws.specs.admission.admission_core.States.{Activity}
use Rattle.floor_laws.specs.declared.table.nodes.slot.TreeSlot.{TreeSlot}
use Rattle.floor_laws.specs.table.nodes.Layout.{lock_place}
use Rattle.floor_laws.specs.table.nodes.Seats.{GaveNode, HasContent, MayGoOn, MayLock, MayPass, MayStop, PassedNode, TreeSeat, TriedNode}

-- a step on a table with nodes
abbrev pub TreeStep : Type 0
TreeStep = Step TreeSlot

-- a compare-exchange of the lock word of a node that the seat may lock, from a word by which nobody has, tries to lock it
abbrev pub TriesNode : List (List Elem) → Program → Bounds → TreeStep → TreeSeat → ℕ → TreeSeat → Type 0
TriesNode nodes p lim s before found after =
    (n : ℕ) (next : Activity) → s.word ≡ lock_place p lim n → MayLock nodes before.0 s.said n next
    → TriedNode lim before n next s.first found after

-- a load of the lock word of a node that the seat may pass by tells it whether it has passed by it
abbrev pub PassesNode : List (List Elem) → Program → Bounds → TreeStep → TreeSeat → ℕ → TreeSeat → Type 0
PassesNode nodes p lim s before found after =
    (c : ℕ) (next : Activity) → s.word ≡ lock_place p lim c → MayPass nodes before.0 c next → PassedNode before next found after

-- a store to the lock word of a node, by a seat that may unlock it and go on, gives the node back
abbrev pub SeatGoesOn : List (List Elem) → Program → Bounds → TreeStep → TreeSeat → ℕ → TreeSeat → Type 0
SeatGoesOn nodes p lim s before found after =
    (n : ℕ) (next : Activity) (rest : List (ℕ × TreeSlot)) → s.word ≡ lock_place p lim n → MayGoOn nodes before.0 n next
    → HasContent lim before n rest → GaveNode before n (Some next) rest after

-- a store to the lock word of a node, by a seat that may unlock it and stop, gives the node back
abbrev pub SeatStopsAt : Program → Bounds → TreeStep → TreeSeat → ℕ → TreeSeat → Type 0
SeatStopsAt p lim s before found after =
    (n : ℕ) (next : Option Activity) (rest : List (ℕ × TreeSlot)) → s.word ≡ lock_place p lim n → MayStop before.0 n next
    → HasContent lim before n rest → GaveNode before n next rest after
