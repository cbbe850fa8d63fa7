-- The turns of a loop.
use Rattle.std.specs.Prelude.{◌≡◌, ◌<◌, ℤ, List, Option, None, Some}
use Rattle.twe_base.specs.declared.place.Place.{Place}
use Rattle.twe_program.specs.Program.{Program}
use Rattle.twe_program.specs.Expression.{Expression}
use Rattle.twe_program.specs.Statement.{Statement, Statements}
use Rattle.seg_exec.specs.declared.steps.machine.Machine.{Machine}
use Rattle.seg_exec.specs.declared.strides.onward.Onward.{Onward}
use Rattle.seg_meaning.specs.Access.{Ways}
use Rattle.seg_exec.specs.inner.steps.Continuations.{Config, Evaluate, Turn, to_do}
use Rattle.seg_exec.specs.inner.steps.Reached.{Standing, standing}
use Rattle.seg_exec.specs.inner.steps.Steps.{executed, on}
use Rattle.seg_exec.specs.inner.strides.Moving.{Moves, course}
use Rattle.seg_exec.specs.inner.strides.Strides.{Goes, doing}

-- the first step of this statement is that of a loop with this condition and this body
abbrev pub IsLoop : Statement → Expression → Statements → Place → Type 0
IsLoop again condition body place =
    (c : Config) → executed again c ≡ on (to_do (Evaluate condition) (to_do (Turn again body place) c))

-- with a loop to be done first, which evaluates its condition next
abbrev pub looping : {C : Type 0} → Expression → Statement → Statements → Place → Standing C → Standing C
looping condition again body place s = doing (Evaluate condition) (doing (Turn again body place) s)

-- a whole turn of a loop is done and took fuel, or else the run goes on as said or has ended
abbrev pub Turns : {C : Type 0} → Program → Ways C → (Standing C → Standing C)
    → Machine → C → List ℤ → Machine → C → List ℤ → Option Onward → Type 0
Turns p ways loop machine cells prints machine' cells' prints' None =
    Goes p ways (loop (standing machine cells prints)) (loop (standing machine' cells' prints'))
    × (machine'.fuel < machine.fuel)
Turns p ways loop machine cells prints machine' cells' prints' (Some onward) =
    Moves p ways (loop (standing machine cells prints)) (course onward machine') (standing machine' cells' prints')
