-- Whether a line is good is decided, and so each text spells a journal or has a first bad line.
use Rattle.std.proofs.Common.{◌≡◌, ◌⊎◌, ◌<◌, ◌≤◌, ◌+◌, ◌^◌, ℕ, zero, suc, List, [], ◌∷◌, ◌++◌, length, map, Option, None, Some, IfSome, sym, ap, ◌∙◌, refl, subst, arith, inl, inr}
use Rattle.std.proofs.lemmas.Bool.{cases_eq, cases_lt}
use Rattle.std.specs.List.{AllByRecursion, flat_map}
use Rattle.twe_base.specs.Limits.{Bounds}
use Rattle.seg_journal.specs.declared.moves.Kind.{Kind}
use Rattle.seg_journal.specs.declared.moves.Kind.TheVariants.{Admit, Run}
use Rattle.seg_journal.specs.declared.moves.Move.{Move}
use Rattle.seg_journal.specs.Spelling.{IsJournal, move_line, head_line, head_part, head_lines, HasTask, AreLimits}
use Rattle.seg_journal.specs.Lines.{lines_of, IsMoveLine, IsHeadLine, IsGoodLine, AreGoodLines, HasBadLine}
use Rattle.seg_journal.proofs.FirstLines.{joined-lines_of}

-- it holds, or it doesn't
abbrev Decided : Type 0 → Type 0
Decided P = P ⊎ (¬ P)

-- whether two lists of numbers are the same
same_list : (xs ys : List ℕ) → Decided (xs ≡ ys)
same_list [] [] = inl refl
same_list [] (y ∷ ys) = inr (λ e. cc)
same_list (x ∷ xs) [] = inr (λ e. cc)
same_list (x ∷ xs) (y ∷ ys) =
    elim (cases_eq x y) [
      | inr differs ↦ inr (λ e. let same : x ≡ y = cc in differs same)
      | inl same ↦
          elim (same_list xs ys) [
            | inl rest ↦ inl cc
            | inr other ↦ inr (λ e. let rest : xs ≡ ys = cc in other rest)
          ]
    ]

-- whether some number below a bound is as wanted
some_below : (P : ℕ → Type 0) → ((n : ℕ) → Decided (P n)) → (bound : ℕ) → Decided ((n : ℕ) × (n < bound) × P n)
some_below P decide zero = inr (λ found. let (n, small, wanted) = found in omega arith)
some_below P decide (suc bound) =
    elim (decide bound) [
      | inl wanted ↦ inl (bound, omega arith, wanted)
      | inr fails ↦
          elim (some_below P decide bound) [
            | inl found ↦ let (n, small, wanted) = found in inl (n, omega arith, wanted)
            | inr none ↦
                inr (λ found.
                let (n, small, wanted) = found in
                elim (cases_eq n bound) [ inl same ↦ fails (subst P same wanted) | inr other ↦ none (n, omega arith, wanted) ])
          ]
    ]

abbrev move_with : Kind → ℕ → Move
move_with kind task = record { kind = kind; task = task }

-- the line is that of a move of this kind
abbrev IsLineOf : Kind → List ℕ → Type 0
IsLineOf kind line = (task : ℕ) × (task < 2 ^ 32) × (line ≡ move_line (move_with kind task))

decide_kind : (kind : Kind) (line : List ℕ) → Decided (IsLineOf kind line)
decide_kind kind line = some_below (λ task. line ≡ move_line (move_with kind task)) (λ task. same_list line (move_line (move_with kind task))) (2 ^ 32)

neither : (line : List ℕ) (kind : Kind) (task : ℕ) → ¬ IsLineOf Admit line → ¬ IsLineOf Run line → task < 2 ^ 32
    → line ≡ move_line (move_with kind task) → ⊥
neither line Admit task no_admit no_run small e = no_admit (task, small, e)
neither line Run task no_admit no_run small e = no_run (task, small, e)

decide_move : (line : List ℕ) → Decided (IsMoveLine line)
decide_move line =
    elim (decide_kind Admit line) [
      | inl found ↦ let (task, small, e) = found in inl (move_with Admit task, small, e)
      | inr no_admit ↦
          elim (decide_kind Run line) [
            | inl found ↦ let (task, small, e) = found in inl (move_with Run task, small, e)
            | inr no_run ↦ inr (λ found. let (mv, small, e) = found in neither line mv.kind mv.task no_admit no_run small e)
          ]
    ]

abbrev limits_with : ℕ → ℕ → Bounds
limits_with fuel tasks = record { fuel = fuel; tasks = tasks }

-- the line is the head of limits with this fuel, and with these tasks
abbrev IsHeadOf : ℕ → List ℕ → ℕ → Type 0
IsHeadOf fuel line tasks = (1 ≤ tasks) × (line ≡ head_line (limits_with fuel tasks))

decide_tasks : (fuel : ℕ) (line : List ℕ) (tasks : ℕ) → Decided (IsHeadOf fuel line tasks)
decide_tasks fuel line tasks =
    elim (cases_lt 0 tasks) [
      | inr none ↦ inr (λ found. omega (arith, found.0))
      | inl some ↦
          elim (same_list line (head_line (limits_with fuel tasks))) [
            | inl e ↦ inl (omega arith, e)
            | inr other ↦ inr (λ found. other found.1)
          ]
    ]

-- the line is the head of limits with this fuel
abbrev IsHeadWith : List ℕ → ℕ → Type 0
IsHeadWith line fuel = (tasks : ℕ) × (tasks < 100001) × IsHeadOf fuel line tasks

decide_fuel : (line : List ℕ) (fuel : ℕ) → Decided (IsHeadWith line fuel)
decide_fuel line fuel = some_below (IsHeadOf fuel line) (decide_tasks fuel line) 100001

decide_head : (line : List ℕ) → Decided (IsHeadLine line)
decide_head line =
    elim (some_below (IsHeadWith line) (decide_fuel line) 100000001) [
      | inl found ↦
          let (fuel, enough, (tasks, few, (some, e))) = found in
          let within : AreLimits (limits_with fuel tasks) =
          record { fuel_most = omega arith; tasks_least = some; tasks_most = omega arith } in
          inl (limits_with fuel tasks, within, e)
      | inr none ↦
          inr (λ found.
          let (limits, within, e) = found in
          none (limits.fuel, omega (arith, within.fuel_most), (limits.tasks, omega (arith, within.tasks_most), (within.tasks_least, e))))
    ]

-- whether a line is good
decide_good : (number : ℕ) (line : List ℕ) → Decided (IsGoodLine number line)
decide_good number line =
    elim (decide_move line) [
      | inl move ↦ inl (inr move)
      | inr no_move ↦
          elim (cases_eq number 1) [
            | inr later ↦ inr (λ good. elim good [ inl head ↦ later head.0 | inr move ↦ no_move move ])
            | inl first ↦
                elim (decide_head line) [
                  | inl head ↦ inl (inl (first, head))
                  | inr no_head ↦ inr (λ good. elim good [ inl head ↦ no_head head.1 | inr move ↦ no_move move ])
                ]
          ]
    ]

-- the first of some lines that is not good, where their first is the line of this number
record FirstBad (number : ℕ) (lines : List (List ℕ)) : Type 0 where
  before : List (List ℕ)
  line : List ℕ
  after : List (List ℕ)
  split : lines ≡ before ++ line ∷ after
  good : AreGoodLines number before
  bad : ¬ IsGoodLine (number + length before) line

good_or_bad : (number : ℕ) (lines : List (List ℕ)) → AreGoodLines number lines ⊎ FirstBad number lines
good_or_bad number [] = inl tt
good_or_bad number (line ∷ lines) =
    elim (decide_good number line) [
      | inr bad ↦
          inr (record {
            before = [];
            line = line;
            after = lines;
            split = refl;
            good = tt;
            bad = λ good. bad (subst (λ (n : ℕ). IsGoodLine n line) (omega arith) good);
          })
      | inl here ↦
          elim (good_or_bad (number + 1) lines) [
            | inl all ↦ inl (here, all)
            | inr first ↦
                inr (record {
                  before = line ∷ first.before;
                  line = first.line;
                  after = first.after;
                  split = ap (λ (xs : List (List ℕ)). line ∷ xs) first.split;
                  good = (here, first.good);
                  bad = λ good. first.bad (subst (λ (n : ℕ). IsGoodLine n first.line) (omega arith) good);
                })
          ]
    ]

-- these lines are those of a head, if there is one, and of moves
record AreLinesOf (lines : List (List ℕ)) (head : Option Bounds) (moves : List Move) : Type 0 where
  split : lines ≡ head_lines head ++ map move_line moves
  limits : IfSome head AreLimits
  tasks : AllByRecursion HasTask moves

-- good lines after the first are those of moves
moves_of : (number : ℕ) (lines : List (List ℕ)) → 1 < number → AreGoodLines number lines → (moves : List Move) × AreLinesOf lines None moves
moves_of number [] later good = ([], record { split = refl; limits = tt; tasks = tt })
moves_of number (line ∷ lines) later (inl head, good) = absurd (omega (arith, head.0))
moves_of number (line ∷ lines) later (inr (mv, task, e), good) =
    let (moves, are) = moves_of (number + 1) lines (omega arith) good in
    let split : line ∷ lines ≡ move_line mv ∷ map move_line moves = let rest = are.split in cc in
    (mv ∷ moves, record { split = split; limits = tt; tasks = (task, are.tasks) })

-- and good lines from the first on are those of a head, if there is one, and of moves
journal_of : (lines : List (List ℕ)) → AreGoodLines 1 lines → (head : Option Bounds) × (moves : List Move) × AreLinesOf lines head moves
journal_of [] good = (None, [], record { split = refl; limits = tt; tasks = tt })
journal_of (line ∷ lines) (inl (one, (limits, within, e)), good) =
    let (moves, are) = moves_of (1 + 1) lines (omega arith) good in
    let split : line ∷ lines ≡ head_line limits ∷ map move_line moves = let rest = are.split in cc in
    (Some limits, moves, record { split = split; limits = within; tasks = are.tasks })
journal_of (line ∷ lines) (inr (mv, task, e), good) =
    let (moves, are) = moves_of (1 + 1) lines (omega arith) good in
    let split : line ∷ lines ≡ move_line mv ∷ map move_line moves = let rest = are.split in cc in
    (None, mv ∷ moves, record { split = split; limits = tt; tasks = (task, are.tasks) })

-- lines one after another
joined-moves : (moves : List Move) → flat_map (λ line. line) (map move_line moves) ≡ flat_map move_line moves
joined-moves [] = refl
joined-moves (mv ∷ moves) = ap (λ (xs : List ℕ). move_line mv ++ xs) (joined-moves moves)

joined-journal : (head : Option Bounds) (moves : List Move) → flat_map (λ line. line) (head_lines head ++ map move_line moves) ≡ head_part head ++ flat_map move_line moves
joined-journal None moves = joined-moves moves
joined-journal (Some limits) moves = ap (λ (xs : List ℕ). head_line limits ++ xs) (joined-moves moves)

-- a text whose lines are good spells a journal
spelled : (text : List ℕ) → AreGoodLines 1 (lines_of text) → IsJournal text
spelled text good =
    let (head, moves, are) = journal_of (lines_of text) good in (
      head,
      moves,
      record {
        lines = sym (joined-lines_of text) ∙ ap (flat_map (λ line. line)) are.split ∙ joined-journal head moves;
        limits = are.limits;
        tasks = are.tasks;
      },
    )

named : (text : List ℕ) → FirstBad 1 (lines_of text) → HasBadLine text
named text first = (
  1 + length first.before,
  record {
    before = first.before;
    line = first.line;
    after = first.after;
    split = first.split;
    counted = omega arith;
    good = first.good;
    bad = first.bad;
  },
)

-- each text spells a journal or has a first bad line
pub either_way : (text : List ℕ) → IsJournal text ⊎ HasBadLine text
either_way text = elim (good_or_bad 1 (lines_of text)) [ inl good ↦ inl (spelled text good) | inr first ↦ inr (named text first) ]
