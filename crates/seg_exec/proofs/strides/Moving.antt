-- Stretches of steps up to where the evaluator goes on.
use Rattle.std.proofs.Common.{◌≡◌, ℕ, List, drop, Option, None, Some}
use Rattle.std.specs.Prelude.{ℤ}
use Rattle.twe_program.specs.Program.{Program}
use Rattle.twe_program.specs.Statement.{Statement, statements_of}
use Rattle.seg_exec.specs.declared.steps.machine.Machine.{Machine}
use Rattle.seg_exec.specs.declared.steps.request.Ending.{Ending}
use Rattle.seg_exec.specs.declared.steps.continuation.OpenBlock.{OpenBlock}
use Rattle.seg_exec.specs.declared.strides.onward.Onward.{Onward}
use Rattle.seg_meaning.specs.Access.{Ways}
use Rattle.seg_exec.specs.inner.steps.Continuations.{Config, Continuation, Rest, to_do}
use Rattle.seg_exec.specs.inner.steps.Reached.{Finishes, Reaches, Standing, standing}
use Rattle.seg_exec.specs.inner.steps.Steps.{on, step_of, worked}
use Rattle.seg_exec.specs.inner.strides.Moving.{Course, Moves, MovesTo, Passes, ahead, course, rest_of, step_on, step_to}
use Rattle.seg_exec.specs.inner.strides.Strides.{Carries, Ends, Goes, Nears, doing}
use Rattle.seg_exec.proofs.strides.Performing.{placed}
use Rattle.seg_exec.proofs.strides.Strides.{ended, near_goes, silent, then_goes}

module _ {C : Type 0} (p : Program) (ways : Ways C) where
  -- one step that asks for nothing, or is the end
  moves_step_to : (from : Standing C) (block : Option OpenBlock) (ending : Option Ending) (config : Config) → step_of p from.config ≡ step_to block ending config
      → MovesTo p ways from block ending (record from { config = config })
  moves_step_to from None None config is = silent p ways from config is
  moves_step_to from (Some open_block) None config is = silent p ways from (to_do (rest_of open_block) config) is
  moves_step_to from block (Some ending) config is = ended p ways from ending config is

  pub moves_step : (from : Standing C) (next : Course) (config : Config) → step_of p from.config ≡ step_on next config → Moves p ways from next (record from { config = config })
  moves_step from next config is = moves_step_to from next.block next.ending config is

  -- what comes after some steps
  then_moves_to : (a b c : Standing C) (block : Option OpenBlock) (ending : Option Ending) → Goes p ways a b → MovesTo p ways b block ending c → MovesTo p ways a block ending c
  then_moves_to a b c block None first second = then_goes p ways a b (ahead block c) first second
  then_moves_to a b c block (Some ending) first second = λ start r. second start (first.on start r)

  pub then_moves : (a b c : Standing C) (next : Course) → Goes p ways a b → Moves p ways b next c → Moves p ways a next c
  then_moves a b c next first second = then_moves_to a b c next.block next.ending first second

  -- the same after some steps or none
  near_moves_to : (a b c : Standing C) (block : Option OpenBlock) (ending : Option Ending) → Nears p ways a b → MovesTo p ways b block ending c → MovesTo p ways a block ending c
  near_moves_to a b c block None first second = near_goes p ways a b (ahead block c) first second
  near_moves_to a b c block (Some ending) first second = λ start r. second start (first.on start r)

  pub near_moves : (a b c : Standing C) (next : Course) → Nears p ways a b → Moves p ways b next c → Moves p ways a next c
  near_moves a b c next first second = near_moves_to a b c next.block next.ending first second

  -- the same, if the statements of a block may come next
  pub then_passes : (a b : Standing C) (block at : ℕ) (stmts : List Statement) (machine : Machine) (cells : C) (prints : List ℤ) (passed : Option Onward) → Goes p ways a b
      → Passes p ways b block at stmts machine cells prints passed → Passes p ways a block at stmts machine cells prints passed
  then_passes a b block at stmts machine cells prints None first second = then_goes p ways a b (doing (Rest block at (statements_of (drop at stmts))) (standing machine cells prints)) first second
  then_passes a b block at stmts machine cells prints (Some onward) first second = then_moves a b (standing machine cells prints) (course onward machine) first second

  -- the same after one step that asks for nothing
  pub moves_silent : (task : Continuation) (old mid : Config) (cells : C) (prints : List ℤ) (next : Course) (new : Standing C) → worked p task old ≡ on mid
      → Moves p ways (placed mid cells prints) next new → Moves p ways (doing task (placed old cells prints)) next new
  moves_silent task old mid cells prints next new is rest =
      then_moves (doing task (placed old cells prints)) (placed mid cells prints) new next (silent p ways (doing task (placed old cells prints)) mid is) rest

  moves_of : (old new : Standing C) (block : Option OpenBlock) (ending : Option Ending) → block ≡ None → Carries p ways old ending new → MovesTo p ways old block ending new
  moves_of old new None None none h = h
  moves_of old new (Some open_block) None none h = absurd (cc)
  moves_of old new block (Some ending) none h = h

  -- steps of which only an ending is known
  pub moves_carried : (old new : Standing C) (next : Course) → next.block ≡ None → Carries p ways old next.ending new → Moves p ways old next new
  moves_carried old new next none h = moves_of old new next.block next.ending none h

  -- a run that comes to the end by such a stretch
  pub moves_end : (start old new : Standing C) (ending : Ending) → Reaches p ways start old → Ends p ways old ending new → Finishes p ways start ending new
  moves_end start old new ending came h = h start came
