-- No line differs between two texts exactly if they are the same text.
use Rattle.std.proofs.Common.{◌≡◌, ℕ, ◌+◌, suc, Bool, true, false, not, nat_lt, ◌==◌, List, [], ◌∷◌, ◌++◌, length, take, drop, refl, sym, ap, ◌∙◌, append_assoc, append-nil, arith}
use Rattle.std.specs.Prelude.{if◌then◌else◌, bytes_eq, ◌↔◌}
use Rattle.std.specs.List.{flat_map}
use Rattle.std.proofs.lemmas.Bool.{false≢true, and_parts, and_from, cond-true, cond-false, eqb-true, eq-eqb}
use Rattle.std.proofs.lemmas.Bool.Decides.{nat_tests}
use Rattle.std.proofs.lemmas.Slice.Eq.{bytes_eq-Decides}
use Rattle.twe_lexer.specs.Lexeme.{is_line_end}
use Rattle.twe_format.specs.declared.lines.Line.{Line}
use Rattle.twe_format.specs.Lines.{first_line, next_line, longer_line, ended_line, lines_from, numbered_lines}
use Rattle.twe_format.specs.Differences.{is_same_line, removed_line, added_line, count_ahead, stands_first, differing, differing_lines}

-- the same lines, one after another
abbrev SameLines : List Line → List Line → Type 0
SameLines [] [] = Unit {0}
SameLines [] (its ∷ laid) = ⊥
SameLines (line ∷ lines) [] = ⊥
SameLines (line ∷ lines) (its ∷ laid) = (is_same_line line its ≡ true) × SameLines lines laid

-- If nothing differs, the lines are the same.

none_added : (laid : List Line) → flat_map added_line laid ≡ [] → SameLines [] laid
none_added [] none = tt
none_added (its ∷ laid) none = cc

-- what is written of the first lines, if so many lines of the layout stand before the line of the text
abbrev written_of : Line → List Line → List Line → ℕ → List ℕ
written_of line lines laid ahead =
    flat_map added_line (take ahead laid)
    ++ (if stands_first line (drop ahead laid) then differing lines (drop 1 (drop ahead laid)) else (removed_line line ++ differing lines (drop ahead laid)))

none_ahead : (line its : Line) (laid : List Line) → nat_lt its.before line.before ≡ false → count_ahead line (its ∷ laid) ≡ 0
none_ahead line its laid is = cond-false (nat_lt its.before line.before) (1 + count_ahead line laid) 0 is

step : (line its : Line) (lines laid : List Line) (ahead same : Bool) → nat_lt its.before line.before ≡ ahead → is_same_line line its ≡ same
    → differing (line ∷ lines) (its ∷ laid) ≡ [] → (is_same_line line its ≡ true) × (differing lines laid ≡ [])
step line its lines laid true same is found none =
    let count : count_ahead line (its ∷ laid) ≡ 1 + count_ahead line laid = cond-true (nat_lt its.before line.before) (1 + count_ahead line laid) 0 is in
    let more : count_ahead line (its ∷ laid) ≡ suc (count_ahead line laid) = omega (arith, count) in
    let clash : written_of line lines (its ∷ laid) (suc (count_ahead line laid)) ≡ [] = ap (written_of line lines (its ∷ laid)) (sym more) ∙ none in absurd cc
step line its lines laid false true is found none =
    let first : written_of line lines (its ∷ laid) 0 ≡ [] = ap (written_of line lines (its ∷ laid)) (sym (none_ahead line its laid is)) ∙ none in
    (found, sym (cond-true (is_same_line line its) (differing lines laid) (removed_line line ++ differing lines (its ∷ laid)) found) ∙ first)
step line its lines laid false false is found none =
    let first : written_of line lines (its ∷ laid) 0 ≡ [] = ap (written_of line lines (its ∷ laid)) (sym (none_ahead line its laid is)) ∙ none in
    let clash : removed_line line ++ differing lines (its ∷ laid) ≡ [] =
    sym (cond-false (is_same_line line its) (differing lines laid) (removed_line line ++ differing lines (its ∷ laid)) found) ∙ first in absurd cc

nothing_differs : (lines laid : List Line) → differing lines laid ≡ [] → SameLines lines laid
nothing_differs [] laid none = none_added laid none
nothing_differs (line ∷ lines) [] none = cc
nothing_differs (line ∷ lines) (its ∷ laid) none =
    let found = step line its lines laid (nat_lt its.before line.before) (is_same_line line its) refl refl none in (found.0, nothing_differs lines laid found.1)

-- A text is what its lines are, one after another.

abbrev line_end : Bool → List ℕ
line_end true = 10 ∷ []
line_end false = []

abbrev text_of : List Line → List ℕ
text_of [] = []
text_of (line ∷ lines) = line.bytes ++ (line_end line.ended ++ text_of lines)

ended_alike : (one other : Bool) → (if one then other else not other) ≡ true → one ≡ other
ended_alike true true is = refl
ended_alike true false is = absurd (false≢true is)
ended_alike false true is = absurd (false≢true is)
ended_alike false false is = refl

same_text : (lines laid : List Line) → SameLines lines laid → text_of lines ≡ text_of laid
same_text [] [] same = refl
same_text [] (its ∷ laid) same = absurd same
same_text (line ∷ lines) [] same = absurd same
same_text (line ∷ lines) (its ∷ laid) same =
    let both = and_parts (if line.ended then its.ended else not its.ended) (bytes_eq line.bytes its.bytes) (and_parts (line.before == its.before) _ same.0).1 in
    let bytes = (bytes_eq-Decides line.bytes its.bytes).0 both.1 in
    let ended = ended_alike line.ended its.ended both.0 in
    let rest = same_text lines laid same.1 in
    λ i. bytes i ++ (line_end (ended i) ++ rest i)

no_bytes : (bytes : List ℕ) → (length bytes == 0) ≡ true → bytes ≡ []
no_bytes [] is = refl
no_bytes (code ∷ bytes) is = let none : length (code ∷ bytes) ≡ 0 = eqb-true (length (code ∷ bytes)) 0 is in absurd (omega (arith, none))

last_line : (line : Line) (empty : Bool) → line.ended ≡ false → (length line.bytes == 0) ≡ empty → text_of (lines_from line []) ≡ line.bytes ++ []
last_line line true begun is =
    ap text_of (cond-true (length line.bytes == 0) [] (line ∷ []) is) ∙ sym (no_bytes line.bytes is) ∙ sym (append-nil line.bytes)
last_line line false begun is =
    ap text_of (cond-false (length line.bytes == 0) [] (line ∷ []) is) ∙ (λ i. line.bytes ++ (line_end (begun i) ++ []))

next_byte : (line : Line) (code : ℕ) (text : List ℕ) (ends : Bool) → is_line_end code ≡ ends
    → text_of (lines_from (next_line line) text) ≡ text → text_of (lines_from (longer_line line code) text) ≡ (line.bytes ++ code ∷ []) ++ text
    → text_of (lines_from line (code ∷ text)) ≡ line.bytes ++ code ∷ text
next_byte line code text true is after longer =
    ap text_of (cond-true (is_line_end code) (ended_line line ∷ lines_from (next_line line) text) (lines_from (longer_line line code) text) is)
    ∙ (λ i. line.bytes ++ (sym (eqb-true code 10 is) i ∷ after i))
next_byte line code text false is after longer =
    ap text_of (cond-false (is_line_end code) (ended_line line ∷ lines_from (next_line line) text) (lines_from (longer_line line code) text) is)
    ∙ longer ∙ append_assoc line.bytes (code ∷ []) text

from_line : (line : Line) (text : List ℕ) → line.ended ≡ false → text_of (lines_from line text) ≡ line.bytes ++ text
from_line line [] begun = last_line line (length line.bytes == 0) begun refl
from_line line (code ∷ text) begun =
    next_byte line code text (is_line_end code) refl (from_line (next_line line) text refl) (from_line (longer_line line code) text begun)

whole_text : (text : List ℕ) → text_of (numbered_lines text) ≡ text
whole_text text = from_line first_line text refl

-- A line is the same as itself, and does not stand before itself.

self_before : (n : ℕ) → nat_lt n n ≡ false
self_before n = grind (arith, nat_tests)

self_ended : (ended : Bool) → (if ended then ended else not ended) ≡ true
self_ended true = refl
self_ended false = refl

self_same : (line : Line) → is_same_line line line ≡ true
self_same line =
    and_from (line.before == line.before) _ (eq-eqb line.before line.before refl)
    (and_from (if line.ended then line.ended else not line.ended) (bytes_eq line.bytes line.bytes) (self_ended line.ended) ((bytes_eq-Decides line.bytes line.bytes).1 refl))

no_difference : (lines : List Line) → differing lines lines ≡ []
no_difference [] = refl
no_difference (line ∷ lines) =
    ap (written_of line lines (line ∷ lines)) (none_ahead line line lines (self_before line.before))
    ∙ cond-true (is_same_line line line) (differing lines lines) (removed_line line ++ differing lines (line ∷ lines)) (self_same line)
    ∙ no_difference lines

pub told_apart : (text laid : List ℕ) → (differing_lines text laid ≡ []) ↔ (text ≡ laid)
told_apart text laid = (
  λ none. sym (whole_text text) ∙ same_text (numbered_lines text) (numbered_lines laid) (nothing_differs (numbered_lines text) (numbered_lines laid) none) ∙ whole_text laid,
  λ same. ap (λ (its : List ℕ). differing_lines text its) (sym same) ∙ no_difference (numbered_lines text),
)
