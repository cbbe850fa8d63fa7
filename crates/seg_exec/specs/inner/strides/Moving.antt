-- Several steps of the evaluator, up to where it goes on.
use Rattle.std.specs.Prelude.{◌≡◌, ℕ, ℤ, List, drop, Option, None, Some}
use Rattle.twe_program.specs.Program.{Program}
use Rattle.twe_program.specs.Expression.{Arguments}
use Rattle.twe_program.specs.Statement.{Statement, statements_of}
use Rattle.seg_exec.specs.declared.steps.machine.Machine.{Machine}
use Rattle.seg_exec.specs.declared.steps.request.Ending.{Ending}
use Rattle.seg_exec.specs.declared.steps.request.Request.{Request}
use Rattle.seg_exec.specs.declared.steps.request.Request.TheVariants as requests
use Rattle.seg_exec.specs.declared.steps.continuation.Goal.{Goal}
use Rattle.seg_exec.specs.declared.steps.continuation.OpenBlock.{OpenBlock}
use Rattle.seg_exec.specs.declared.strides.onward.Onward.{Onward}
use Rattle.seg_exec.specs.declared.strides.onward.Onward.TheVariants.{Below, Enter, End}
use Rattle.seg_meaning.specs.Access.{Access, Ways, ways_of}
use Rattle.seg_exec.specs.inner.steps.Continuations.{Config, Continuation, Gather, Rest, to_do}
use Rattle.seg_exec.specs.inner.steps.Reached.{Served, Standing, standing, standing_before}
use Rattle.seg_exec.specs.inner.steps.Steps.{Step, on}
use Rattle.seg_exec.specs.inner.strides.Strides.{Ends, Goes, doing}

-- how a run goes on: what is left of a block, if it comes before all continuation frames, and the ending, if it has ended
pub record Course : Type 0 where
  pub block : Option OpenBlock
  pub ending : Option Ending

-- how a run goes on, as what comes next and the machine say
abbrev pub course : Onward → Machine → Course
course Below m = record { block = None; ending = None }
course Enter m = record { block = Some m.open; ending = None }
course End m = record { block = None; ending = m.ending }

-- what is left of a block, as a continuation frame
abbrev pub rest_of : OpenBlock → Continuation
rest_of open_block = Rest open_block.block open_block.at (statements_of (drop open_block.at open_block.stmts.now))

-- a standing with what is left of a block to be done first, if a block comes next
abbrev pub ahead : {C : Type 0} → Option OpenBlock → Standing C → Standing C
ahead None s = s
ahead (Some open_block) s = doing (rest_of open_block) s

-- some steps: up to where the evaluator goes on, or up to the end if there is an ending
abbrev pub MovesTo : {C : Type 0} → Program → Ways C → Standing C → Option OpenBlock → Option Ending → Standing C → Type 0
MovesTo p ways old block None new = Goes p ways old (ahead block new)
MovesTo p ways old block (Some ending) new = Ends p ways old ending new

-- the same, as the course of the run says
abbrev pub Moves : {C : Type 0} → Program → Ways C → Standing C → Course → Standing C → Type 0
Moves p ways old next new = MovesTo p ways old next.block next.ending new

-- this is done, in some steps: up to where the evaluator goes on, or up to the end
abbrev pub MovesOn : {C : Type 0} → Program
    → (C → ℕ → Option ℤ) → (C → ℕ → Type 0) → (C → ℕ → Type 0) → (C → Access → C → Type 0)
    → Continuation → Machine → C → List ℤ → Machine → C → List ℤ → Onward → Type 0
MovesOn p known may_read may_write rule task machine cells prints machine' cells' prints' = λ onward.
    Moves p (ways_of known may_read may_write rule)
    (doing task (standing machine cells prints)) (course onward machine') (standing machine' cells' prints')

-- a configuration with what is left of a block to be done first, if a block comes next
abbrev pub before_others : Option OpenBlock → Config → Config
before_others None c = c
before_others (Some open_block) c = to_do (rest_of open_block) c

-- the step that leads to a configuration and to what comes next, and asks for nothing, or is the end
abbrev pub step_to : Option OpenBlock → Option Ending → Config → Step
step_to block None c = on (before_others block c)
step_to block (Some ending) c = (requests.End ending, c)

-- the same, as the course of the run says
abbrev pub step_on : Course → Config → Step
step_on next c = step_to next.block next.ending c

-- what a step requests is served, and the run has ended if that was the end; no block comes next
abbrev pub Serves : {C : Type 0} → Ways C → Request → Standing C → Course → Standing C → Type 0
Serves ways request old next new = Served ways request old next.ending new × (next.block ≡ None)

-- arguments are to be evaluated; those before them have values, which are the variables of the active body after its first
-- ones, so many
abbrev pub gathering_from : {C : Type 0} → ℕ → Arguments → Goal → Machine → C → List ℤ → Standing C
gathering_from count args goal machine cells prints =
    doing (Gather (drop count machine.vars.active) args goal) (standing_before count machine cells prints)

-- the statements of a block come next, from the one at this index on, or else the run goes on as said or has ended
abbrev pub Passes : {C : Type 0} → Program → Ways C → Standing C → ℕ → ℕ → List Statement
    → Machine → C → List ℤ → Option Onward → Type 0
Passes p ways old block at stmts machine cells prints None =
    Goes p ways old (doing (Rest block at (statements_of (drop at stmts))) (standing machine cells prints))
Passes p ways old block at stmts machine cells prints (Some onward) =
    Moves p ways old (course onward machine) (standing machine cells prints)
