-- Lists of moves and their lines.
use Rattle.std.proofs.Common.{◌≡◌, ℕ, ◌+◌, ◌<◌, List, [], ◌∷◌, ◌++◌, length, map, take, get_or, ap, ◌∙◌, sym, subst, append-nil, append_assoc}
use Rattle.std.proofs.lemmas.List.{map_more}
use Rattle.std.proofs.lemmas.List.Concat.{flat_map-append}
use Rattle.std.specs.List.{AllByRecursion, flat_map}
use Rattle.seg_journal.specs.declared.journal.Entry.{Entry}
use Rattle.seg_journal.specs.declared.moves.Move.{Move}
use Rattle.seg_journal.specs.Spelling.{move_line, move_of, HasTask}

-- what holds of each of two lists
pub all-append : {X : Type 0} (P : X → Type 0) (xs ys : List X) → AllByRecursion P xs → AllByRecursion P ys → AllByRecursion P (xs ++ ys)
all-append P [] ys all others = others
all-append P (x ∷ xs) ys (here, all) others = (here, all-append P xs ys all others)

-- the lines of some moves, and of one more
pub lines_more : (moves : List Move) (mv : Move) → flat_map move_line (moves ++ mv ∷ []) ≡ flat_map move_line moves ++ move_line mv
lines_more moves mv = flat_map-append move_line moves (mv ∷ []) ∙ ap (λ (xs : List ℕ). flat_map move_line moves ++ xs) (append-nil (move_line mv))

-- the lines of the moves of some entries are written after a text
pub record IsWritten (entries : List Entry) (first now : List ℕ) (i : ℕ) : Type 0 where
  pub lines : now ≡ first ++ flat_map move_line (map move_of (take i entries))
  pub tasks : AllByRecursion HasTask (map move_of (take i entries))

-- and that of one entry more
pub written_more : (entries : List Entry) (d : Entry) (first now next : List ℕ) (i : ℕ) → i < length entries → IsWritten entries first now i
    → HasTask (move_of (get_or entries i d)) → next ≡ now ++ move_line (move_of (get_or entries i d)) → IsWritten entries first next (i + 1)
written_more entries d first now next i within written task e =
    let more = map_more move_of entries i d within in
    let lines = ap (flat_map move_line) more ∙ lines_more (map move_of (take i entries)) (move_of (get_or entries i d)) in
    record {
      lines = e ∙ ap (λ (xs : List ℕ). xs ++ move_line (move_of (get_or entries i d))) written.lines
          ∙ append_assoc first (flat_map move_line (map move_of (take i entries))) (move_line (move_of (get_or entries i d)))
          ∙ ap (λ (xs : List ℕ). first ++ xs) (sym lines);
      tasks = subst (AllByRecursion HasTask) (sym more) (all-append HasTask _ _ written.tasks (task, tt));
    }
