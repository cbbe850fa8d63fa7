-- No two journals are spelled alike.
use Rattle.std.proofs.Common.{◌≡◌, ◌≢◌, ◌<◌, ◌^◌, ℕ, List, [], ◌∷◌, ◌++◌, map, Option, None, Some, sym, ap, ◌∙◌, refl, arith, codes, decimal}
use Rattle.std.proofs.lemmas.Fmt.{decimal_injective}
use Rattle.std.proofs.lemmas.List.{append_cancel_left, append_cancel_right}
use Rattle.std.specs.Char.{IsAsciiDigit}
use Rattle.std.specs.List.{AllByRecursion}
use Rattle.twe_base.specs.Limits.{Bounds}
use Rattle.seg_journal.specs.declared.moves.Move.{Move}
use Rattle.seg_journal.specs.declared.moves.Kind.{Kind}
use Rattle.seg_journal.specs.declared.moves.Kind.TheVariants.{Admit, Run}
use Rattle.seg_journal.specs.Spelling.{Spells, kind_word, move_line, head_line, HasTask, AreLimits}
use Rattle.seg_journal.proofs.Decimal.{decimal_avoids}
use Rattle.seg_journal.proofs.BadLines.{lines_of-spelled}

-- what stands before the first byte of a value, and what stands after it
pub one_split : (front other rest following : List ℕ) (byte : ℕ) → AllByRecursion (λ b. b ≢ byte) front → AllByRecursion (λ b. b ≢ byte) other
    → front ++ byte ∷ rest ≡ other ++ byte ∷ following → (front ≡ other) × (rest ≡ following)
one_split [] [] rest following byte none nothing e = (refl, cc)
one_split [] (y ∷ ys) rest following byte none (differs, nothing) e = let same : y ≡ byte = cc in absurd (differs same)
one_split (x ∷ xs) [] rest following byte (differs, none) nothing e = let same : x ≡ byte = cc in absurd (differs same)
one_split (x ∷ xs) (y ∷ ys) rest following byte (differs, none) (differs', nothing) e =
    let tails : xs ++ byte ∷ rest ≡ ys ++ byte ∷ following = cc in
    let head : x ≡ y = cc in
    let (same, after) = one_split xs ys rest following byte none nothing tails in
    (cc, after)

-- a kind and a number
same_move : (kind other : Kind) (task next : ℕ) → task < 2 ^ 32 → next < 2 ^ 32
    → kind_word kind ++ (decimal task ++ 10 ∷ []) ≡ kind_word other ++ (decimal next ++ 10 ∷ []) → (kind ≡ other) × (task ≡ next)
same_move Admit Admit task next small fits e =
    let digits = append_cancel_right (decimal task) (decimal next) (10 ∷ []) (append_cancel_left (codes "admit ") _ _ e) in
    (refl, decimal_injective task next (omega (arith, small)) (omega (arith, fits)) digits)
same_move Admit Run task next small fits e = let no_way : ◌≡◌ {A = ℕ} 97 114 = cc in absurd (omega (arith, no_way))
same_move Run Admit task next small fits e = let no_way : ◌≡◌ {A = ℕ} 114 97 = cc in absurd (omega (arith, no_way))
same_move Run Run task next small fits e =
    let digits = append_cancel_right (decimal task) (decimal next) (10 ∷ []) (append_cancel_left (codes "run ") _ _ e) in
    (refl, decimal_injective task next (omega (arith, small)) (omega (arith, fits)) digits)

move_of_parts : (mv other : Move) → mv.kind ≡ other.kind → mv.task ≡ other.task → mv ≡ other
move_of_parts mv other p q = λ i. record { kind = p i; task = q i }

-- a move is known by its line
pub one_move : (mv other : Move) → HasTask mv → HasTask other → move_line mv ≡ move_line other → mv ≡ other
one_move mv other task task' e =
    let (kind, number) = same_move mv.kind other.kind mv.task other.task task task' e in
    move_of_parts mv other kind number

-- and so are moves
pub one_list : (moves others : List Move) → AllByRecursion HasTask moves → AllByRecursion HasTask others → map move_line moves ≡ map move_line others
    → moves ≡ others
one_list [] [] tasks tasks' e = refl
one_list [] (y ∷ ys) tasks tasks' e = cc
one_list (x ∷ xs) [] tasks tasks' e = cc
one_list (x ∷ xs) (y ∷ ys) (task, tasks) (task', tasks') e =
    let line : move_line x ≡ move_line y = cc in
    let lines : map move_line xs ≡ map move_line ys = cc in
    let same = one_move x y task task' line in
    let rest = one_list xs ys tasks tasks' lines in
    cc

no_blank : IsAsciiDigit 32 → ⊥
no_blank digit = omega arith

no_end : IsAsciiDigit 10 → ⊥
no_end digit = omega arith

limits_of_parts : (limits other : Bounds) → limits.fuel ≡ other.fuel → limits.tasks ≡ other.tasks → limits ≡ other
limits_of_parts limits other p q = λ i. record { fuel = p i; tasks = q i }

-- and so are limits
pub one_head : (limits other : Bounds) → AreLimits limits → AreLimits other → head_line limits ≡ head_line other → limits ≡ other
one_head limits other within within' e =
    let numbers = append_cancel_left (codes "twe-journal 2 fuel ") _ _ e in
    let (fuel, rest) = one_split (decimal limits.fuel) (decimal other.fuel) _ _ 32
    (decimal_avoids 32 limits.fuel (omega (arith, within.fuel_most)) no_blank) (decimal_avoids 32 other.fuel (omega (arith, within'.fuel_most)) no_blank) numbers in
    let tasks = append_cancel_right (decimal limits.tasks) (decimal other.tasks) (10 ∷ []) (append_cancel_left (codes "tasks ") _ _ rest) in
    limits_of_parts limits other
    (decimal_injective limits.fuel other.fuel (omega (arith, within.fuel_most)) (omega (arith, within'.fuel_most)) fuel)
    (decimal_injective limits.tasks other.tasks (omega (arith, within.tasks_most)) (omega (arith, within'.tasks_most)) tasks)

-- no move is a head
no_head : (kind : Kind) (rest other : List ℕ) → kind_word kind ++ rest ≡ 116 ∷ other → ⊥
no_head Admit rest other e = let no_way : ◌≡◌ {A = ℕ} 97 116 = cc in omega (arith, no_way)
no_head Run rest other e = let no_way : ◌≡◌ {A = ℕ} 114 116 = cc in omega (arith, no_way)

no_lines : (moves : List Move) (limits : Bounds) (lines : List (List ℕ)) → map move_line moves ≡ head_line limits ∷ lines → ⊥
no_lines [] limits lines e = cc
no_lines (mv ∷ moves) limits lines e =
    let line : move_line mv ≡ head_line limits = cc in
    no_head mv.kind (decimal mv.task ++ 10 ∷ []) _ line

same_cons : (x y : List ℕ) (xs ys : List (List ℕ)) → x ∷ xs ≡ y ∷ ys → (x ≡ y) × (xs ≡ ys)
same_cons x y xs ys e = (cc, cc)

pub one_journal : (head other : Option Bounds) (moves others : List Move) (text : List ℕ) → Spells text head moves → Spells text other others
    → (head ≡ other) × (moves ≡ others)
one_journal None None moves others text a b =
    (refl, one_list moves others a.tasks b.tasks (sym (lines_of-spelled text None moves a) ∙ lines_of-spelled text None others b))
one_journal None (Some limits) moves others text a b =
    absurd (no_lines moves limits (map move_line others) (sym (lines_of-spelled text None moves a) ∙ lines_of-spelled text (Some limits) others b))
one_journal (Some limits) None moves others text a b =
    absurd (no_lines others limits (map move_line moves) (sym (lines_of-spelled text None others b) ∙ lines_of-spelled text (Some limits) moves a))
one_journal (Some limits) (Some other) moves others text a b =
    let e : head_line limits ∷ map move_line moves ≡ head_line other ∷ map move_line others =
    sym (lines_of-spelled text (Some limits) moves a) ∙ lines_of-spelled text (Some other) others b in
    let (line, lines) = same_cons _ _ _ _ e in
    (ap Some (one_head limits other a.limits b.limits line), one_list moves others a.tasks b.tasks lines)
