-- Replays: the moves of legal journals, and the first move of a list that is not legal.
use Rattle.std.specs.Prelude.{◌≡◌, ◌+◌, ℕ, List, ◌∷◌, ◌++◌, length, map}
use Rattle.seg_journal.specs.declared.journal.Entry.{Entry}
use Rattle.seg_journal.specs.declared.moves.Move.{Move}
use Rattle.seg_journal.specs.Spelling.{move_of}
use Rattle.twe_base.specs.Limits.{Bounds}
use Rattle.twe_program.specs.Program.{Program}
use Rattle.machine_state.specs.declared.why.Why.{Why}
use Rattle.machine_state.specs.declared.replay_fail.ReplayFail.{ReplayFail}
use Rattle.machine_state.specs.declared.replay_fail.ReplayFail.TheVariants.{Illegal, OutOfMemory}
use Rattle.machine_state.specs.declared.state.State.{State}
use Rattle.machine_state.specs.Legal.{Forbids}
use Rattle.machine_state.specs.Runs.{IsRun, Legal, state_after}

-- The journal is legal and has these moves, and it leads to this state.
pub record IsReplay (p : Program) (lim : Bounds) (moves : List Move) (journal : List Entry) (st : State) : Type 0 where
  pub run : IsRun p lim journal st
  pub has : map move_of journal ≡ moves

-- each of the moves is legal after those before it: they are the moves of a legal journal
abbrev pub AreLegal : Program → Bounds → List Move → Type 0
AreLegal p lim moves = (journal : List Entry) × Legal p lim journal × (map move_of journal ≡ moves)

-- The move of this number, counted from 1, is the first that is not legal: those before it are, and this is why it is not.
pub record IsFirstIllegal (p : Program) (lim : Bounds) (moves : List Move) (number : ℕ) (why : Why) : Type 0 where
  pub before : List Entry
  pub mv : Move
  pub after : List Move
  pub split : moves ≡ map move_of before ++ mv ∷ after
  pub legal : Legal p lim before
  pub counted : number ≡ length before + 1
  pub forbids : Forbids (state_after p lim before) mv.kind mv.task why

-- there was not enough memory
abbrev pub ReplayIsOutOfMemory : ReplayFail → Type 0
ReplayIsOutOfMemory (Illegal n why) = ⊥
ReplayIsOutOfMemory (OutOfMemory memory) = Unit {0}
