-- The pieces of the lines of the text.
use Rattle.std.proofs.Common.{◌≡◌, ◌+◌, ◌*◌, ◌%◌, ℕ, zero, suc, List, [], ◌∷◌, ◌++◌, refl, sym, ap, ◌∙◌, append_assoc, append-nil, add-zero, lit<, arith}
use Rattle.std.proofs.lemmas.Fmt.{decimal_digit}
use Rattle.std.specs.Prelude.{codes}
use Rattle.twe_lexer.specs.declared.fixed.Fixed.TheVariants as fixed
use Rattle.twe_lexer.specs.declared.fixed.Fixed.{Fixed}
use Rattle.twe_lexer.specs.declared.token.TokenKind.TheVariants as kinds
use Rattle.load_text.specs.Text.{load_cell_line, child_line, parent_line, cell_lines, start_line, each_below, load_text_of}
use Rattle.load_text.proofs.accepted.Pieces.{Piece, space, line_end, token, pieces_text, text_append}
use Rattle.load_text.proofs.accepted.Numbered.{cell_name, child_name, parent_name, future_name}

abbrev word : Fixed → Piece
word f = token (kinds.Fixed f)

abbrev name : List ℕ → Piece
name text = token (kinds.Name text)

abbrev literal : ℕ → Piece
literal value = token (kinds.Literal value)

-- `region R, S;` and `int s in S;`
abbrev pub head_pieces : List Piece
head_pieces =
    word fixed.Region ∷ space ∷ name (codes "R") ∷ word fixed.Comma ∷ space ∷ name (codes "S") ∷ word fixed.Semicolon ∷ line_end ∷
    word fixed.Int ∷ space ∷ name (codes "s") ∷ space ∷ word fixed.In ∷ space ∷ name (codes "S") ∷ word fixed.Semicolon ∷ line_end ∷ []

-- `int c7 in R:[7] = 49;`
abbrev pub cell_pieces : ℕ → List Piece
cell_pieces i =
    word fixed.Int ∷ space ∷ name (cell_name i) ∷ space ∷ word fixed.In ∷ space ∷ name (codes "R") ∷ word fixed.Colon ∷
    word fixed.OpenBracket ∷ literal i ∷ word fixed.CloseBracket ∷ space ∷ word fixed.Assign ∷ space ∷ literal ((7 * i) % 1000) ∷
    word fixed.Semicolon ∷ line_end ∷ []

-- `deterministic task void u7() writes R:[7] { c7 = c7 * 3 + 7; }`
abbrev pub child_pieces : ℕ → List Piece
child_pieces i =
    word fixed.Deterministic ∷ space ∷ word fixed.Task ∷ space ∷ word fixed.Void ∷ space ∷ name (child_name i) ∷
    word fixed.OpenParen ∷ word fixed.CloseParen ∷ space ∷ word fixed.Writes ∷ space ∷ name (codes "R") ∷ word fixed.Colon ∷
    word fixed.OpenBracket ∷ literal i ∷ word fixed.CloseBracket ∷ space ∷ word fixed.OpenBrace ∷ space ∷ name (cell_name i) ∷
    space ∷ word fixed.Assign ∷ space ∷ name (cell_name i) ∷ space ∷ word fixed.Star ∷ space ∷ literal 3 ∷ space ∷
    word fixed.Plus ∷ space ∷ literal i ∷ word fixed.Semicolon ∷ space ∷ word fixed.CloseBrace ∷ line_end ∷ []

-- `task void t7() writes R:[7], S { future f = u7.spawn(); f.join(); s = s + c7; }`
abbrev pub parent_pieces : ℕ → List Piece
parent_pieces i =
    word fixed.Task ∷ space ∷ word fixed.Void ∷ space ∷ name (parent_name i) ∷ word fixed.OpenParen ∷ word fixed.CloseParen ∷
    space ∷ word fixed.Writes ∷ space ∷ name (codes "R") ∷ word fixed.Colon ∷ word fixed.OpenBracket ∷ literal i ∷
    word fixed.CloseBracket ∷ word fixed.Comma ∷ space ∷ name (codes "S") ∷ space ∷ word fixed.OpenBrace ∷ space ∷
    word fixed.Future ∷ space ∷ name (codes "f") ∷ space ∷ word fixed.Assign ∷ space ∷ name (child_name i) ∷ word fixed.Dot ∷
    word fixed.Spawn ∷ word fixed.OpenParen ∷ word fixed.CloseParen ∷ word fixed.Semicolon ∷ space ∷ name (codes "f") ∷
    word fixed.Dot ∷ word fixed.Join ∷ word fixed.OpenParen ∷ word fixed.CloseParen ∷ word fixed.Semicolon ∷ space ∷
    name (codes "s") ∷ space ∷ word fixed.Assign ∷ space ∷ name (codes "s") ∷ space ∷ word fixed.Plus ∷ space ∷
    name (cell_name i) ∷ word fixed.Semicolon ∷ space ∷ word fixed.CloseBrace ∷ line_end ∷ []

-- `task void main() pure {`
abbrev pub main_pieces : List Piece
main_pieces =
    word fixed.Task ∷ space ∷ word fixed.Void ∷ space ∷ name (codes "main") ∷ word fixed.OpenParen ∷ word fixed.CloseParen ∷
    space ∷ word fixed.Pure ∷ space ∷ word fixed.OpenBrace ∷ line_end ∷ []

-- `future f7 = t7.executeLater();`
abbrev pub start_pieces : ℕ → List Piece
start_pieces i =
    word fixed.Future ∷ space ∷ name (future_name i) ∷ space ∷ word fixed.Assign ∷ space ∷ name (parent_name i) ∷ word fixed.Dot ∷
    word fixed.ExecuteLater ∷ word fixed.OpenParen ∷ word fixed.CloseParen ∷ word fixed.Semicolon ∷ line_end ∷ []

-- the lines of `main` after the first, for `count` cells from this number on
abbrev pub starts_from : ℕ → ℕ → List Piece
starts_from i zero = word fixed.CloseBrace ∷ line_end ∷ []
starts_from i (suc count) = start_pieces i ++ starts_from (suc i) count

-- the lines after the first two, if `count` of n cells from this number on are left
abbrev pub pieces_from : ℕ → ℕ → ℕ → List Piece
pieces_from i zero n = main_pieces ++ starts_from 0 n
pieces_from i (suc count) n = cell_pieces i ++ (child_pieces i ++ (parent_pieces i ++ pieces_from (suc i) count n))

abbrev pub all_pieces : ℕ → List Piece
all_pieces n = head_pieces ++ pieces_from 0 n n

-- the text of `count` numbers from this one on
abbrev each_from : (ℕ → List ℕ) → ℕ → ℕ → List ℕ
each_from text i zero = []
each_from text i (suc count) = text i ++ each_from text (suc i) count

below_from : (text : ℕ → List ℕ) (count i : ℕ) → each_below text i ++ each_from text i count ≡ each_below text (i + count)
below_from text zero i = rw (append-nil, add-zero) refl
below_from text (suc count) i =
    sym (append_assoc (each_below text i) (text i) (each_from text (suc i) count)) ∙ below_from text count (suc i)
    ∙ (let same : suc i + count ≡ i + suc count = omega arith in ap (each_below text) same)

from_start : (text : ℕ → List ℕ) (n : ℕ) → each_from text 0 n ≡ each_below text n
from_start text n = below_from text n 0 ∙ (let same : 0 + n ≡ n = omega arith in ap (each_below text) same)

starts_text : (i count : ℕ) → pieces_text (starts_from i count) ≡ each_from start_line i count ++ codes "}\n"
starts_text i zero = refl
starts_text i (suc count) =
    text_append (start_pieces i) (starts_from (suc i) count) ∙ ap (λ more. start_line i ++ more) (starts_text (suc i) count)
    ∙ sym (append_assoc (start_line i) (each_from start_line (suc i) count) (codes "}\n"))

child_text : (i : ℕ) → pieces_text (child_pieces i) ≡ child_line i
child_text i = rw (decimal_digit 3 (lit< tt)) refl

-- the pieces of a cell's lines, and others after them
three_text : (i : ℕ) (more : List Piece) → pieces_text (cell_pieces i ++ (child_pieces i ++ (parent_pieces i ++ more))) ≡ cell_lines i ++ pieces_text more
three_text i more =
    text_append (cell_pieces i) (child_pieces i ++ (parent_pieces i ++ more))
    ∙ ap (λ others. load_cell_line i ++ others) (text_append (child_pieces i) (parent_pieces i ++ more)
    ∙ (λ k. child_text i k ++ text_append (parent_pieces i) more k)
    ∙ sym (append_assoc (child_line i) (parent_line i) (pieces_text more)))
    ∙ sym (append_assoc (load_cell_line i) (child_line i ++ parent_line i) (pieces_text more))

from_text : (i count n : ℕ) → pieces_text (pieces_from i count n) ≡ each_from cell_lines i count ++ pieces_text (main_pieces ++ starts_from 0 n)
from_text i zero n = refl
from_text i (suc count) n =
    three_text i (pieces_from (suc i) count n) ∙ ap (λ others. cell_lines i ++ others) (from_text (suc i) count n)
    ∙ sym (append_assoc (cell_lines i) (each_from cell_lines (suc i) count) (pieces_text (main_pieces ++ starts_from 0 n)))

-- the pieces are those of the text
pub whole_text : (n : ℕ) → pieces_text (all_pieces n) ≡ load_text_of n
whole_text n =
    text_append head_pieces (pieces_from 0 n n)
    ∙ ap (λ others. pieces_text head_pieces ++ others) (from_text 0 n n
    ∙ (λ k. from_start cell_lines n k ++ (text_append main_pieces (starts_from 0 n)
    ∙ ap (λ others. pieces_text main_pieces ++ others) (starts_text 0 n ∙ ap (λ lines. lines ++ codes "}\n") (from_start start_line n))) k))
