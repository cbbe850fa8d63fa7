-- The first bad line of a text.
use Rattle.std.proofs.Common.{◌≡◌, ◌≢◌, ℕ, ◌+◌, List, [], ◌∷◌, ◌++◌, length, map, Option, None, Some, IfSome, IsNone, sym, ap, ◌∙◌, refl, subst, arith, inl, inr, append-nil, append_assoc, length-append}
use Rattle.std.proofs.lemmas.List.{length-map}
use Rattle.std.specs.List.{AllByRecursion, flat_map}
use Rattle.twe_base.specs.Limits.{Bounds}
use Rattle.seg_journal.specs.declared.moves.Move.{Move}
use Rattle.seg_journal.specs.Spelling.{Spells, move_line, head_line, head_part, head_lines, HasTask, AreLimits}
use Rattle.seg_journal.specs.Lines.{lines_of, IsGoodLine, AreGoodLines, IsFirstBadLine}
use Rattle.seg_journal.specs.inner.Stops.{StopsAt}
use Rattle.seg_journal.proofs.FirstLines.{lines_of-head, lines_of-moves, AreGoodLines-moves, begins, rest_of}

-- the lines of a head and of what stands after it
pub lines_of-head_part : (head : Option Bounds) (rest : List ℕ) → IfSome head AreLimits → lines_of (head_part head ++ rest) ≡ head_lines head ++ lines_of rest
lines_of-head_part None rest within = refl
lines_of-head_part (Some limits) rest within = lines_of-head limits rest within

-- a head and moves are good lines
pub AreGoodLines-journal : (head : Option Bounds) (moves : List Move) → IfSome head AreLimits → AllByRecursion HasTask moves
    → AreGoodLines 1 (head_lines head ++ map move_line moves)
AreGoodLines-journal None moves within tasks = AreGoodLines-moves 1 moves tasks
AreGoodLines-journal (Some limits) moves within tasks = (inl (refl, (limits, within, refl)), AreGoodLines-moves (1 + 1) moves tasks)

-- no line is after the first where its number is 1
no_lines : (head : Option Bounds) (moves : List Move) (number : ℕ) → number ≡ (length (head_lines head) + 1) + length moves → number ≡ 1
    → (head ≡ None) × (moves ≡ [])
no_lines None [] number e one = (refl, refl)
no_lines None (mv ∷ moves) number e one = absurd (omega (arith, e, one))
no_lines (Some limits) moves number e one = absurd (omega (arith, e, one))

IsNone-of : (head : Option Bounds) → head ≡ None → IsNone head
IsNone-of None e = refl
IsNone-of (Some limits) e = cc

-- where the moves stop, the first line that is left is bad
pub first_bad : (text rest : List ℕ) (head : Option Bounds) (first number : ℕ) → text ≡ head_part head ++ rest → IfSome head AreLimits
    → (IsNone head → (limits : Bounds) (after : List ℕ) → AreLimits limits → text ≢ head_line limits ++ after)
    → first ≡ length (head_lines head) + 1 → StopsAt rest first number → IsFirstBadLine text number
first_bad text rest head first number split within headless at stops =
    let start = begins stops.rest stops.more in
    let before = head_lines head ++ map move_line stops.moves in
    let lines : lines_of text ≡ before ++ start.line ∷ start.after =
    ap lines_of split ∙ lines_of-head_part head rest within
    ∙ ap (λ (xs : List (List ℕ)). head_lines head ++ xs)
    (ap lines_of stops.split ∙ lines_of-moves stops.moves stops.rest stops.tasks ∙ ap (λ (xs : List (List ℕ)). map move_line stops.moves ++ xs) start.split)
    ∙ sym (append_assoc (head_lines head) (map move_line stops.moves) (start.line ∷ start.after)) in
    let counted : number ≡ (length (head_lines head) + 1) + length stops.moves = stops.counted ∙ ap (λ (n : ℕ). n + length stops.moves) at in
    let size : length before ≡ length (head_lines head) + length stops.moves =
    length-append (head_lines head) (map move_line stops.moves) ∙ ap (λ (n : ℕ). length (head_lines head) + n) (length-map stops.moves move_line) in
    let left = rest_of stops.rest start.line start.after start.split in
    record {
      before = before;
      line = start.line;
      after = start.after;
      split = lines;
      counted = omega (arith, counted, size);
      good = AreGoodLines-journal head stops.moves within stops.tasks;
      bad = λ good. elim good [
        | inl head_good ↦
            let (one, (limits, ok, e)) = head_good in
            let (none, nothing) = no_lines head stops.moves number counted one in
            let whole : text ≡ stops.rest = split ∙ ap (λ (h : Option Bounds). head_part h ++ rest) none ∙ stops.split
            ∙ ap (λ (ms : List Move). flat_map move_line ms ++ stops.rest) nothing in
            headless (IsNone-of head none) limits (flat_map (λ line. line) start.after) ok
            (whole ∙ left ∙ ap (λ (xs : List ℕ). xs ++ flat_map (λ line. line) start.after) e)
        | inr move_good ↦
            let (mv, task, e) = move_good in
            stops.no_move mv (flat_map (λ line. line) start.after) task (left ∙ ap (λ (xs : List ℕ). xs ++ flat_map (λ line. line) start.after) e)
      ];
    }

-- a line among good ones is good
good_line : (number : ℕ) (before after : List (List ℕ)) (line : List ℕ) → AreGoodLines number (before ++ line ∷ after) → IsGoodLine (number + length before) line
good_line number [] after line (good, all) = subst (λ (n : ℕ). IsGoodLine n line) (omega arith) good
good_line number (x ∷ before) after line (good, all) =
    subst (λ (n : ℕ). IsGoodLine n line) (omega arith) (good_line (number + 1) before after line all)

-- the lines of a text that spells a journal
pub lines_of-spelled : (text : List ℕ) (head : Option Bounds) (moves : List Move) → Spells text head moves → lines_of text ≡ head_lines head ++ map move_line moves
lines_of-spelled text head moves spells =
    ap lines_of spells.lines ∙ lines_of-head_part head (flat_map move_line moves) spells.limits
    ∙ ap (λ (xs : List (List ℕ)). head_lines head ++ xs)
    (ap lines_of (sym (append-nil (flat_map move_line moves))) ∙ lines_of-moves moves [] spells.tasks ∙ append-nil (map move_line moves))

-- a text that spells a journal has no bad line
pub none_bad : (text : List ℕ) (head : Option Bounds) (moves : List Move) (number : ℕ) → Spells text head moves → IsFirstBadLine text number → ⊥
none_bad text head moves number spells first =
    let good : AreGoodLines 1 (first.before ++ first.line ∷ first.after) =
    subst (AreGoodLines 1) (sym (lines_of-spelled text head moves spells) ∙ first.split) (AreGoodLines-journal head moves spells.limits spells.tasks) in
    let line = good_line 1 first.before first.after first.line good in
    first.bad (subst (λ (n : ℕ). IsGoodLine n first.line) (omega (arith, first.counted)) line)

-- a text has one first bad line
same_place : (number : ℕ) (before others after following : List (List ℕ)) (line other : List ℕ)
    → before ++ line ∷ after ≡ others ++ other ∷ following → AreGoodLines number before → AreGoodLines number others
    → ¬ IsGoodLine (number + length before) line → ¬ IsGoodLine (number + length others) other → length before ≡ length others
same_place number [] [] after following line other e good goods bad worse = refl
same_place number [] (x ∷ others) after following line other e good (here, goods) bad worse =
    let same : x ≡ line = cc in
    absurd (bad (subst (λ (n : ℕ). IsGoodLine n line) (omega arith) (subst (IsGoodLine number) same here)))
same_place number (x ∷ before) [] after following line other e (here, good) goods bad worse =
    let same : x ≡ other = cc in
    absurd (worse (subst (λ (n : ℕ). IsGoodLine n other) (omega arith) (subst (IsGoodLine number) same here)))
same_place number (x ∷ before) (y ∷ others) after following line other e (here, good) (here', goods) bad worse =
    let rest : before ++ line ∷ after ≡ others ++ other ∷ following = cc in
    let more = same_place (number + 1) before others after following line other rest good goods
    (λ g. bad (subst (λ (n : ℕ). IsGoodLine n line) (omega arith) g)) (λ g. worse (subst (λ (n : ℕ). IsGoodLine n other) (omega arith) g)) in
    omega (arith, more)

pub one_first_bad : (text : List ℕ) (m n : ℕ) → IsFirstBadLine text m → IsFirstBadLine text n → m ≡ n
one_first_bad text m n a b =
    let same = same_place 1 a.before b.before a.after b.after a.line b.line (sym a.split ∙ b.split) a.good b.good
    (λ g. a.bad (subst (λ (k : ℕ). IsGoodLine k a.line) (omega (arith, a.counted)) g))
    (λ g. b.bad (subst (λ (k : ℕ). IsGoodLine k b.line) (omega (arith, b.counted)) g)) in
    omega (arith, same, a.counted, b.counted)
