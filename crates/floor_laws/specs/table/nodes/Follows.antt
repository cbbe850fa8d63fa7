-- What a seat learns of waits from a phase word.
use Rattle.std.specs.Prelude.{◌≡◌, ◌==◌, ◌<◌, ◌^◌, ℕ, ℤ, List, [], ◌∷◌, if◌then◌else◌}
use Rattle.twe_base.specs.Limits.{Bounds}
use Rattle.twe_program.specs.Program.{Program}
use Rattle.floor_laws.specs.declared.rule.view.Phase.{Phase}
use Rattle.floor_laws.specs.declared.rule.view.Phase.TheVariants.{Absent, Made, Running, Waits, Done, Faulted}
use Rattle.floor_laws.specs.table.Layout.{phase_of_word, phase_place}
use Rattle.floor_laws.specs.table.Tells.{IsOwnPhase, WaitsAbove}
use Rattle.floor_laws.specs.rule.nodes.Trees.{WaitFact}
use Rattle.floor_laws.specs.declared.table.nodes.view.Look.TheVariants.{AtPhase}
use Rattle.floor_laws.specs.declared.table.nodes.view.TreeView.{TreeView}
use Rattle.floor_laws.specs.table.nodes.Alone.{LearnsAlone}
use Rattle.floor_laws.specs.table.nodes.Looks.{looked_seat}
use Rattle.floor_laws.specs.table.nodes.Plays.{TreeStep}
use Rattle.floor_laws.specs.table.nodes.Seats.{TreeSeat}

-- the facts, and beside each that some task waits for u, that it waits for t
abbrev pub led_on : ℕ → ℕ → List WaitFact → List WaitFact
led_on u t [] = []
led_on u t (fact ∷ facts) =
    if fact.awaited == u then record { waiter = fact.waiter; awaited = t } ∷ fact ∷ led_on u t facts else fact ∷ led_on u t facts

-- u waits for t, and so does whoever waits for u
abbrev pub followed : ℕ → ℕ → List WaitFact → List WaitFact
followed u t facts = record { waiter = u; awaited = t } ∷ led_on u t facts

-- the seat knows that u is done, and with which value
abbrev pub done_view : TreeView → ℕ → ℤ → TreeView
done_view v u value = record v { floor = record v.floor { done = record { task = u; value = value } ∷ v.floor.done } }

-- the seat knows that u waits for t, and so does all that it knew to wait for u
abbrev pub waits_view : TreeView → ℕ → ℕ → TreeView
waits_view v u t = record v { waits = followed u t v.waits }

-- Whoever finds that task u waits knows for whom, also of all that it knew to wait for u. Whoever finds that u is done knows its
-- value. From another phase nothing more is learned.
abbrev pub Learns : Phase → TreeSeat → ℕ → TreeSeat → Type 0
Learns Absent before u after = after ≡ before
Learns Made before u after = after ≡ before
Learns Running before u after = after ≡ before
Learns (Waits t) before u after = after ≡ (waits_view before.0 u t, before.1)
Learns Done before u after = (value : ℤ) × (after ≡ (done_view before.0 u value, before.1))
Learns Faulted before u after = after ≡ before

-- What is found fits 32 bits; whoever has the turn finds the phase that it knows; and a task waits for one with a higher number.
-- The seat knows that it looked and what it found, and what it learns from that.
abbrev pub FollowedPhase : Bounds → TreeSeat → ℕ → ℕ → TreeSeat → Type 0
FollowedPhase lim before u found after =
    IsOwnPhase (before.0.floor, []) u found × (found < 2 ^ 32) × WaitsAbove lim u found
    × Learns (phase_of_word found) (looked_seat before (AtPhase u found)) u after

-- a load of the phase word of some task tells the seat what it learns of waits, and more if it is the only one
abbrev pub FollowsWait : Program → Bounds → TreeStep → TreeSeat → ℕ → TreeSeat → Type 0
FollowsWait p lim s before found after =
    (u : ℕ) → s.word ≡ phase_place p u → FollowedPhase lim before u found after × LearnsAlone p lim before.0 u found
