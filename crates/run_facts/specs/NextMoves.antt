-- Which moves are legal next.
use Rattle.std.specs.Prelude.{◌≡◌, ◌≢◌, ◌<◌, ◌≤◌, ◌⊎◌, ℕ, List, [], ◌∷◌, Option, None, Some, length}
use Rattle.std.specs.List.{All, AllPairs, Contains}
use Rattle.seg_journal.specs.declared.moves.Move.{Move}
use Rattle.machine_state.specs.declared.state.State.{State}
use Rattle.machine_state.specs.Legal.{MayMove}

-- this is the legal move of a task, if it has one; it has no other
abbrev pub IsMoveOf : State → ℕ → Option Move → Type 0
IsMoveOf st task None = (other : Move) → MayMove st other → other.task ≢ task
IsMoveOf st task (Some mv) =
    MayMove st mv × (mv.task ≡ task) × ((other : Move) → MayMove st other → other.task ≡ task → other ≡ mv)

-- the move, if there is one
abbrev pub as_list : Option Move → List Move
as_list None = []
as_list (Some mv) = mv ∷ []

-- the moves are of tasks before this one
abbrev pub AreBefore : ℕ → List Move → Type 0
AreBefore task moves = All (λ mv. mv.task < task) moves

-- These are legal moves in a state, in the order of their tasks, and at most so many. Each other legal move is of a later task,
-- and there is one only if these are so many.
pub record AreNextMoves (st : State) (most : ℕ) (moves : List Move) : Type 0 where
  pub legal : All (MayMove st) moves
  pub ordered : AllPairs (λ mv later. mv.task < later.task) moves
  pub few : length moves ≤ most
  pub whole : (mv : Move) → MayMove st mv → Contains moves mv ⊎ ((length moves ≡ most) × AreBefore mv.task moves)
