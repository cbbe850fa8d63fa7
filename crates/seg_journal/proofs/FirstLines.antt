-- The lines of a text that begins with the lines of a journal.
use Rattle.std.proofs.Common.{◌≡◌, ◌≢◌, ◌<◌, ◌==◌, ℕ, ◌+◌, List, [], ◌∷◌, ◌++◌, map, false, sym, ap, ◌∙◌, refl, arith, inl, inr, append_assoc, codes, decimal, lit<}
use Rattle.std.proofs.lemmas.Bool.{ne_eqb, cases_Bool}
use Rattle.std.specs.List.{AllByRecursion, flat_map}
use Rattle.std.specs.Char.{IsAsciiDigit}
use Rattle.twe_base.specs.Limits.{Bounds}
use Rattle.seg_journal.specs.declared.moves.Move.{Move}
use Rattle.seg_journal.specs.declared.moves.Kind.{Kind}
use Rattle.seg_journal.specs.declared.moves.Kind.TheVariants.{Admit, Run}
use Rattle.seg_journal.specs.Spelling.{kind_word, move_line, head_line, HasTask, AreLimits}
use Rattle.seg_journal.specs.Lines.{lines_of, with_byte, AreGoodLines}
use Rattle.seg_journal.proofs.Decimal.{decimal_avoids}
use Rattle.seg_journal.proofs.Heads.{move_line-append, head_line-append}
use Rattle.seg_journal.proofs.MoveLists.{all-append}

-- no byte 10 is among these
abbrev pub AvoidsEnd : List ℕ → Type 0
AvoidsEnd bytes = AllByRecursion (λ b. b ≢ 10) bytes

-- a line that is ended is the first
pub lines_of-line : (front rest : List ℕ) → AvoidsEnd front → lines_of (front ++ 10 ∷ rest) ≡ (front ++ 10 ∷ []) ∷ lines_of rest
lines_of-line [] rest none = refl
lines_of-line (b ∷ bs) rest (other, others) =
    let differs : (b == 10) ≡ false = ne_eqb b 10 other in
    let more = lines_of-line bs rest others in
    rw (differs, more) refl

-- a byte above 10 is not the byte 10
above : (b : ℕ) → 10 < b → b ≢ 10
above b more e = omega arith

not_digit : IsAsciiDigit 10 → ⊥
not_digit digit = omega arith

pub kind_word-avoids : (kind : Kind) → AvoidsEnd (kind_word kind)
kind_word-avoids Admit =
    (above 97 (lit< tt), (above 100 (lit< tt), (above 109 (lit< tt), (above 105 (lit< tt), (above 116 (lit< tt), (above 32 (lit< tt), tt))))))
kind_word-avoids Run = (above 114 (lit< tt), (above 117 (lit< tt), (above 110 (lit< tt), (above 32 (lit< tt), tt))))

-- the line of a move is the first where it stands at the front
pub lines_of-move : (mv : Move) (rest : List ℕ) → HasTask mv → lines_of (move_line mv ++ rest) ≡ move_line mv ∷ lines_of rest
lines_of-move mv rest task =
    let front = kind_word mv.kind ++ decimal mv.task in
    let avoids : AvoidsEnd front =
    all-append (λ b. b ≢ 10) (kind_word mv.kind) (decimal mv.task) (kind_word-avoids mv.kind) (decimal_avoids 10 mv.task (omega (arith, task)) not_digit) in
    let text : move_line mv ++ rest ≡ front ++ 10 ∷ rest =
    move_line-append mv rest ∙ sym (append_assoc (kind_word mv.kind) (decimal mv.task) (10 ∷ rest)) in
    let line : front ++ 10 ∷ [] ≡ move_line mv = append_assoc (kind_word mv.kind) (decimal mv.task) (10 ∷ []) in
    ap lines_of text ∙ lines_of-line front rest avoids ∙ ap (λ (xs : List ℕ). xs ∷ lines_of rest) line

-- the words of the head have no byte 10
first-avoids : AvoidsEnd (codes "twe-journal 2 fuel ")
first-avoids =
    (above 116 (lit< tt), (above 119 (lit< tt), (above 101 (lit< tt), (above 45 (lit< tt), (above 106 (lit< tt), (above 111 (lit< tt), (above 117 (lit< tt), (above 114 (lit< tt), (above 110 (lit< tt), (above 97 (lit< tt), (above 108 (lit< tt), (above 32 (lit< tt), (above 50 (lit< tt), (above 32 (lit< tt), (above 102 (lit< tt), (above 117 (lit< tt), (above 101 (lit< tt), (above 108 (lit< tt), (above 32 (lit< tt), tt)))))))))))))))))))

second-avoids : AvoidsEnd (codes " tasks ")
second-avoids = (above 32 (lit< tt), (above 116 (lit< tt), (above 97 (lit< tt), (above 115 (lit< tt), (above 107 (lit< tt), (above 115 (lit< tt), (above 32 (lit< tt), tt)))))))

-- and so is a head
pub lines_of-head : (limits : Bounds) (rest : List ℕ) → AreLimits limits → lines_of (head_line limits ++ rest) ≡ head_line limits ∷ lines_of rest
lines_of-head limits rest within =
    let first = codes "twe-journal 2 fuel " in
    let fuel = decimal limits.fuel in
    let second = codes " tasks " in
    let tasks = decimal limits.tasks in
    let front = first ++ (fuel ++ (second ++ tasks)) in
    let fuel_avoids = decimal_avoids 10 limits.fuel (omega (arith, within.fuel_most)) not_digit in
    let tasks_avoids = decimal_avoids 10 limits.tasks (omega (arith, within.tasks_most)) not_digit in
    let avoids : AvoidsEnd front =
    all-append (λ b. b ≢ 10) first (fuel ++ (second ++ tasks)) first-avoids
    (all-append (λ b. b ≢ 10) fuel (second ++ tasks) fuel_avoids (all-append (λ b. b ≢ 10) second tasks second-avoids tasks_avoids)) in
    let regroup = λ (end : List ℕ). append_assoc first (fuel ++ (second ++ tasks)) end
    ∙ ap (λ (xs : List ℕ). first ++ xs) (append_assoc fuel (second ++ tasks) end ∙ ap (λ (xs : List ℕ). fuel ++ xs) (append_assoc second tasks end)) in
    let text : head_line limits ++ rest ≡ front ++ 10 ∷ rest = head_line-append limits rest ∙ sym (regroup (10 ∷ rest)) in
    let line : front ++ 10 ∷ [] ≡ head_line limits = regroup (10 ∷ []) in
    ap lines_of text ∙ lines_of-line front rest avoids ∙ ap (λ (xs : List ℕ). xs ∷ lines_of rest) line

-- the lines of moves come first where these stand at the front
pub lines_of-moves : (moves : List Move) (rest : List ℕ) → AllByRecursion HasTask moves
    → lines_of (flat_map move_line moves ++ rest) ≡ map move_line moves ++ lines_of rest
lines_of-moves [] rest tasks = refl
lines_of-moves (mv ∷ moves) rest (task, tasks) =
    ap lines_of (append_assoc (move_line mv) (flat_map move_line moves) rest)
    ∙ lines_of-move mv (flat_map move_line moves ++ rest) task
    ∙ ap (λ (xs : List (List ℕ)). move_line mv ∷ xs) (lines_of-moves moves rest tasks)

-- the lines of moves are good on any line
pub AreGoodLines-moves : (number : ℕ) (moves : List Move) → AllByRecursion HasTask moves → AreGoodLines number (map move_line moves)
AreGoodLines-moves number [] tasks = tt
AreGoodLines-moves number (mv ∷ moves) (task, tasks) = (inr (mv, task, refl), AreGoodLines-moves (number + 1) moves tasks)

-- the lines of a text are the text
joined-with_byte : (byte : ℕ) (lines : List (List ℕ)) → flat_map (λ line. line) (with_byte byte lines) ≡ byte ∷ flat_map (λ line. line) lines
joined-with_byte byte [] = refl
joined-with_byte byte (line ∷ lines) = refl

pub joined-lines_of : (text : List ℕ) → flat_map (λ line. line) (lines_of text) ≡ text
joined-lines_of [] = refl
joined-lines_of (byte ∷ text) =
    let more = joined-lines_of text in
    elim (cases_Bool (byte == 10)) [
      | inl ends ↦ rw ends (ap (λ (xs : List ℕ). byte ∷ xs) more)
      | inr goes_on ↦ rw goes_on (joined-with_byte byte (lines_of text) ∙ ap (λ (xs : List ℕ). byte ∷ xs) more)
    ]

-- a text that is not empty has a first line
pub record Begins (text : List ℕ) : Type 0 where
  pub line : List ℕ
  pub after : List (List ℕ)
  pub split : lines_of text ≡ line ∷ after

begins-with_byte : (byte : ℕ) (lines : List (List ℕ)) → (line : List ℕ) × (after : List (List ℕ)) × (with_byte byte lines ≡ line ∷ after)
begins-with_byte byte [] = (byte ∷ [], [], refl)
begins-with_byte byte (line ∷ lines) = (byte ∷ line, lines, refl)

pub begins : (text : List ℕ) → text ≢ [] → Begins text
begins [] some = absurd (some refl)
begins (byte ∷ text) some =
    elim (cases_Bool (byte == 10)) [
      | inl ends ↦ record { line = byte ∷ []; after = lines_of text; split = rw ends refl }
      | inr goes_on ↦
          let (line, after, split) = begins-with_byte byte (lines_of text) in
          record { line = line; after = after; split = rw goes_on split }
    ]

-- what stands after the first line of a text
pub rest_of : (text line : List ℕ) (after : List (List ℕ)) → lines_of text ≡ line ∷ after → text ≡ line ++ flat_map (λ line. line) after
rest_of text line after split = sym (joined-lines_of text) ∙ ap (flat_map (λ line. line)) split
