use Rattle.std.proofs.Common.{◌≡◌, ◌++◌, ℤ, pos, List, [], ◌∷◌, take, get_or, sym, ap, subst, ◌∙◌, append_assoc, rules, w32, ℕ}
use Rattle.std.proofs.lemmas.Int.{to_z-of_z}
use mir.Val.{SFits}
use Rattle.floor_laws.specs.table.Layout.{value_of_word}
use Rattle.task_floor.specs.steps.inner.Laying.{AreWordsOf, in_lines, unused_words}
use Rattle.task_floor.proofs.steps.Laid.{one_line_more, one_word_more}
use Rattle.task_floor.proofs.steps.Taken.{take_or}
use Rattle.task_floor.proofs.laying.add_cells.Goals as goal

pub loop-value-preserved : goal.loop-value-preserved
loop-value-preserved c =
    let cells = c.args.cells.now in
    let i = c.loop-value.value-index in
    let value : ℤ = get_or cells i (pos 0) in
    let before = c.loop-value.invariant in
    let fits : SFits w32 (get_or c.args.cells.now c.loop-value.value-index (pos 0)) = search rules in
    let means : value_of_word c.word_of_value.result ≡ value = c.word_of_value.ensures.1 ∙ to_z-of_z w32 (get_or c.args.cells.now c.loop-value.value-index (pos 0)) fits in (
      before.0 ++ c.word_of_value.result ∷ [],
      subst (λ (l : List ℤ). AreWordsOf l (before.0 ++ c.word_of_value.result ∷ [])) (sym (take_or cells i (pos 0) c.loop-value-test.true))
          (one_word_more (take i cells) before.0 value c.word_of_value.result before.1 c.word_of_value.ensures.0 means),
      c.in_ok-push_all.ensures.ok
          ∙ (ap (λ (l : List ℕ). l ++ (c.word_of_value.result ∷ unused_words)) before.2
          ∙ (append_assoc c.args.words.now (in_lines before.0) (c.word_of_value.result ∷ unused_words) ∙ ap (λ (l : List ℕ). c.args.words.now ++ l) (sym (one_line_more before.0 c.word_of_value.result)))),
    )
