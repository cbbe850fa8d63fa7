-- The lines of a journal, before something that follows them.
use Rattle.std.proofs.Common.{◌≡◌, ℕ, List, [], ◌∷◌, ◌++◌, ap, ◌∙◌, append_assoc, codes, decimal}
use Rattle.twe_base.specs.Limits.{Bounds}
use Rattle.seg_journal.specs.declared.moves.Move.{Move}
use Rattle.seg_journal.specs.Spelling.{kind_word, move_line, head_line, tasks_part}

pub move_line-append : (mv : Move) (rest : List ℕ) → move_line mv ++ rest ≡ kind_word mv.kind ++ (decimal mv.task ++ 10 ∷ rest)
move_line-append mv rest =
    append_assoc (kind_word mv.kind) (decimal mv.task ++ 10 ∷ []) rest
    ∙ ap (λ (xs : List ℕ). kind_word mv.kind ++ xs) (append_assoc (decimal mv.task) (10 ∷ []) rest)

pub tasks_part-append : (tasks : ℕ) (rest : List ℕ) → tasks_part tasks ++ rest ≡ codes " tasks " ++ (decimal tasks ++ 10 ∷ rest)
tasks_part-append tasks rest =
    append_assoc (codes " tasks ") (decimal tasks ++ 10 ∷ []) rest
    ∙ ap (λ (xs : List ℕ). codes " tasks " ++ xs) (append_assoc (decimal tasks) (10 ∷ []) rest)

pub head_line-append : (limits : Bounds) (rest : List ℕ) → head_line limits ++ rest
    ≡ codes "twe-journal 2 fuel " ++ (decimal limits.fuel ++ (codes " tasks " ++ (decimal limits.tasks ++ 10 ∷ rest)))
head_line-append limits rest =
    append_assoc (codes "twe-journal 2 fuel ") (decimal limits.fuel ++ tasks_part limits.tasks) rest
    ∙ ap (λ (xs : List ℕ). codes "twe-journal 2 fuel " ++ xs)
    (append_assoc (decimal limits.fuel) (tasks_part limits.tasks) rest
    ∙ ap (λ (xs : List ℕ). decimal limits.fuel ++ xs) (tasks_part-append limits.tasks rest))
