-- The first line of a text that is not the line of a move.
use Rattle.std.specs.Prelude.{◌≡◌, ◌≢◌, ◌+◌, ℕ, List, [], ◌++◌, length}
use Rattle.std.specs.List.{AllByRecursion, flat_map}
use Rattle.seg_journal.specs.Spelling.{move_line, HasTask}
use Rattle.seg_journal.specs.declared.moves.Move.{Move}

-- the text has some lines of moves, the first of them with the number `first`, and then a rest that begins with no move
pub record StopsAt (text : List ℕ) (first number : ℕ) : Type 0 where
  pub moves : List Move
  pub rest : List ℕ
  pub split : text ≡ flat_map move_line moves ++ rest
  pub tasks : AllByRecursion HasTask moves
  pub counted : number ≡ first + length moves
  pub more : rest ≢ []
  pub no_move : (mv : Move) (after : List ℕ) → HasTask mv → rest ≢ move_line mv ++ after
