-- What a step tells its seat, by its word, its operands and the seat before it. A seat touches cells for the task whose slot
-- is the latest that it has out.
use Rattle.std.specs.Prelude.{◌≡◌, ℕ, ℤ, List, Option}
use Rattle.atomic_table.specs.Table.{Step}
use Rattle.twe_base.specs.Limits.{Bounds}
use Rattle.twe_program.specs.Program.{Program}
use Rattle.floor_laws.specs.declared.rule.view.HeldTurn.{HeldTurn}
use Rattle.floor_laws.specs.declared.rule.view.Phase.{Phase}
use Rattle.floor_laws.specs.declared.rule.view.TaskSlot.{TaskSlot}
use Rattle.floor_laws.specs.table.Layout.{cell_place, phase_place, turn_place, value_of_word, word_of_phase}
use Rattle.floor_laws.specs.table.Tells.{FoundPhase, GaveTurn, IsLatest, MayGiveTurn, MayStore, ReadCell, Seat, StoredPhase, TriedTurn, WroteCell}

-- a step on a table of the floor
abbrev pub FloorStep : Type 0
FloorStep = Step (Option TaskSlot)

-- a compare-exchange of the turn word of some task tries to take its turn
abbrev pub TriesTurn : Program → FloorStep → Seat → ℕ → Seat → Type 0
TriesTurn p s before found after = (t : ℕ) → s.word ≡ turn_place p t → TriedTurn before t found after

-- a store to the turn word of a task whose turn the seat may give gives it
abbrev pub GivesTurn : Program → FloorStep → Seat → ℕ → Seat → Type 0
GivesTurn p s before found after =
    (t : ℕ) (turn : HeldTurn) (rest : List (ℕ × Option TaskSlot)) → s.word ≡ turn_place p t → MayGiveTurn before t turn rest
    → GaveTurn before t turn rest after

-- a store to the phase word of a task, of the word of a phase that the seat may store, stores this phase
abbrev pub StoresPhase : Program → FloorStep → Seat → ℕ → Seat → Type 0
StoresPhase p s before found after =
    (t : ℕ) (turn : HeldTurn) (phase : Phase) → s.word ≡ phase_place p t → s.first ≡ word_of_phase phase
    → MayStore before t turn phase → StoredPhase before t turn phase after

-- a load of the phase word of a task tells the seat what it finds
abbrev pub LoadsPhase : Program → Bounds → FloorStep → Seat → ℕ → Seat → Type 0
LoadsPhase p lim s before found after = (t : ℕ) → s.word ≡ phase_place p t → FoundPhase lim before t found after

-- a load of a cell's word is a read by the task whose slot is the latest that the seat has out
abbrev pub LoadsCell : FloorStep → Seat → ℕ → Seat → Type 0
LoadsCell s before found after = (t c : ℕ) → s.word ≡ cell_place c → IsLatest before t → ReadCell before t c found after

-- a store to a cell's word is a write by that task, of the value that the word stands for
abbrev pub StoresCell : FloorStep → Seat → ℕ → Seat → Type 0
StoresCell s before found after =
    (t c : ℕ) (value : ℤ) → s.word ≡ cell_place c → value_of_word s.first ≡ value → IsLatest before t
    → WroteCell before t c value after
