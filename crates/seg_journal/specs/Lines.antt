-- The lines of a text, and the first of them that is no line of a journal.
use Rattle.std.specs.Prelude.{◌≡◌, ◌⊎◌, ℕ, ◌+◌, ◌==◌, if◌then◌else◌, List, [], ◌∷◌, ◌++◌, length}
use Rattle.twe_base.specs.Limits.{Bounds}
use Rattle.seg_journal.specs.Spelling.{move_line, head_line, HasTask, AreLimits}
use Rattle.seg_journal.specs.declared.moves.Move.{Move}

-- the same lines with this byte before the first
abbrev pub with_byte : ℕ → List (List ℕ) → List (List ℕ)
with_byte byte [] = (byte ∷ []) ∷ []
with_byte byte (line ∷ lines) = (byte ∷ line) ∷ lines

-- The lines of a text, each with the byte 10 that ends it; the last line may lack it.
abbrev pub lines_of : List ℕ → List (List ℕ)
lines_of [] = []
lines_of (byte ∷ text) = if byte == 10 then (byte ∷ []) ∷ lines_of text else with_byte byte (lines_of text)

-- the line is that of a move
abbrev pub IsMoveLine : List ℕ → Type 0
IsMoveLine line = (mv : Move) × HasTask mv × (line ≡ move_line mv)

-- the line is a head
abbrev pub IsHeadLine : List ℕ → Type 0
IsHeadLine line = (limits : Bounds) × AreLimits limits × (line ≡ head_line limits)

-- the line of this number, counted from 1, is good: a head if it is line 1, or a move
abbrev pub IsGoodLine : ℕ → List ℕ → Type 0
IsGoodLine number line = ((number ≡ 1) × IsHeadLine line) ⊎ IsMoveLine line

-- each of these lines is good; the first of them has this number
abbrev pub AreGoodLines : ℕ → List (List ℕ) → Type 0
AreGoodLines number [] = Unit {0}
AreGoodLines number (line ∷ lines) = IsGoodLine number line × AreGoodLines (number + 1) lines

-- the line of this number is the first of the text that is not good
pub record IsFirstBadLine (text : List ℕ) (number : ℕ) : Type 0 where
  pub before : List (List ℕ)
  pub line : List ℕ
  pub after : List (List ℕ)
  pub split : lines_of text ≡ before ++ line ∷ after
  pub counted : number ≡ length before + 1
  pub good : AreGoodLines 1 before
  pub bad : ¬ IsGoodLine number line

-- the text has a line that is not good, and so a first one
abbrev pub HasBadLine : List ℕ → Type 0
HasBadLine text = (number : ℕ) × IsFirstBadLine text number
