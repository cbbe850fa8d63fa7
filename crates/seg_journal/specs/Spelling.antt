-- The text of a journal: a line for the limits, if it has a head, and a line for each move. Numbers are decimal without
-- leading zeros, and each line ends with the byte 10.
use Rattle.std.specs.Prelude.{◌≡◌, ◌<◌, ◌^◌, ℕ, List, [], ◌∷◌, ◌++◌, Option, None, Some, IfSome, codes, decimal}
use Rattle.std.specs.List.{AllByRecursion, flat_map}
use Rattle.twe_base.specs.Limits.{Bounds, IsWithin}
use Rattle.seg_journal.specs.declared.moves.Kind.{Kind}
use Rattle.seg_journal.specs.declared.moves.Kind.TheVariants.{Admit, Run}
use Rattle.seg_journal.specs.declared.moves.Move.{Move}
use Rattle.seg_journal.specs.declared.journal.Entry.{Entry}

-- the word of a kind of move, with the blank that follows it
abbrev pub kind_word : Kind → List ℕ
kind_word Admit = codes "admit "
kind_word Run = codes "run "

-- the line of a move
abbrev pub move_line : Move → List ℕ
move_line mv = kind_word mv.kind ++ (decimal mv.task ++ 10 ∷ [])

-- the part of the head that has the number of tasks
abbrev pub tasks_part : ℕ → List ℕ
tasks_part tasks = codes " tasks " ++ (decimal tasks ++ 10 ∷ [])

-- the head: the line of the limits
abbrev pub head_line : Bounds → List ℕ
head_line limits = codes "twe-journal 2 fuel " ++ (decimal limits.fuel ++ tasks_part limits.tasks)

-- the head, if there is one
abbrev pub head_part : Option Bounds → List ℕ
head_part None = []
head_part (Some limits) = head_line limits

-- the lines before those of the moves
abbrev pub head_lines : Option Bounds → List (List ℕ)
head_lines None = []
head_lines (Some limits) = head_line limits ∷ []

-- the number of the task fits in 32 bits
abbrev pub HasTask : Move → Type 0
HasTask mv = mv.task < 2 ^ 32

-- limits within their ranges
abbrev pub AreLimits : Bounds → Type 0
AreLimits limits = IsWithin limits.fuel limits.tasks

-- the text is that of the journal with this head, or none, and these moves
pub record Spells (text : List ℕ) (head : Option Bounds) (moves : List Move) : Type 0 where
  pub lines : text ≡ head_part head ++ flat_map move_line moves
  pub limits : IfSome head AreLimits
  pub tasks : AllByRecursion HasTask moves

-- the text is that of some journal
abbrev pub IsJournal : List ℕ → Type 0
IsJournal text = (head : Option Bounds) × (moves : List Move) × Spells text head moves

-- the move of an entry
abbrev pub move_of : Entry → Move
move_of entry = entry.mv
