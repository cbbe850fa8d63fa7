use Rattle.std.proofs.Common.{◌≡◌, ◌<◌, ◌+◌, ◌++◌, ◌||◌, ◌==◌, ℕ, Bool, false, List, [], ◌∷◌, drop, length, take, get_or, rules, sym, ap, ◌∙◌, arith}
use Rattle.std.specs.Prelude.{slice_index_or}
use Rattle.std.specs.List.{list_any}
use Rattle.core.specs.Mem.Slots.{slots_items}
use Rattle.std.specs.Vec.Iter.{into_iter_items}
use Rattle.machine_state.specs.declared.state.TaskRow.{TaskRow}
use Rattle.floor_laws.specs.declared.rule.view.TaskSlot.{TaskSlot}
use Rattle.floor_laws.specs.rule.Shown.{has_child, is_unjoined, row_by}
use Rattle.floor_laws.specs.table.Layout.{phase_of_word, phase_word_at}
use Rattle.task_floor.specs.steps.inner.Reading.{joined_unless, rows_from}
use Rattle.task_floor.proofs.steps.Readings.{drop_more, rows_step, take_more, unjoined_more}
use Rattle.task_floor.proofs.reading.rows_of.Goals as goal

pub loop-task-preserved : goal.loop-task-preserved
loop-task-preserved c =
    let words = slots_items c.args.table.now.words in
    let t = c.len-t.result in
    let before = c.loop-task.invariant in
    let step = c.in-Some.ensures.steps in
    let whole = before.whole in
    let left = ap length step.0 in
    let size = before.size in
    let numbered : c.len-t.result ≡ length c.loop-task.rows.items = search rules in
    let here : c.len-t.result < length c.args.tasks = omega (arith, whole, left, numbered) in
    let before_it : List TaskSlot = take (length c.loop-task.rows.items) c.args.tasks in
    let now : drop (length c.loop-task.rows.items) c.args.tasks ≡ c.in-Some.task ∷ into_iter_items c.next.new.self = before.left ∙ step.0 in
    let pushed : c.push_reserved.new.self.items ≡ c.loop-task.rows.items ++ c.row_of.result ∷ [] =
    c.push_reserved.ensures.items ∙ ap (λ (l : List TaskRow). l ++ c.row_of.result ∷ []) c.reserve.ensures.items in
    let more : length c.push_reserved.new.self.items ≡ length c.loop-task.rows.items + 1 = search rules in
    let mark : Bool = get_or c.as_slice.result.now t false in
    let marked : get_or c.as_slice.result.now t false ≡ is_unjoined t (take t c.args.tasks) =
    ap (λ (l : List Bool). get_or l t false) c.as_slice.ensures
    ∙ (before.marks t here ∙ ap (λ (n : ℕ). is_unjoined t (take n c.args.tasks)) (sym numbered)) in
    let out : c.as_slice-in-loop-task.result.now ≡ c.in-Some.task.frame.out.items = search rules in
    let row : c.row_of.result ≡ row_by c.in-Some.task (phase_of_word c.word-word.result) (joined_unless c.in-Some.task.parent mark) =
    c.row_of.ensures ∙ ap (λ (s : TaskSlot). row_by s (phase_of_word c.word-word.result) (joined_unless s.parent mark)) c.into_slot.ensures in
    record {
      rows =
          rows_step words c.args.first c.args.tasks t c.in-Some.task (into_iter_items c.next.new.self) (phase_of_word c.word-word.result) mark c.loop-task.rows.items c.push_reserved.new.self.items _
          c.row_of.result numbered (sym (ap phase_word_at c.word-word.ensures)) marked row pushed
          (ap (λ (l : List TaskSlot). c.loop-task.rows.items ++ rows_from words c.args.first c.args.tasks (length c.loop-task.rows.items) l) (sym step.0) ∙ before.rows);
      count = search rules;
      whole = search rules;
      left =
          ap (λ (n : ℕ). drop n c.args.tasks) more ∙ drop_more c.args.tasks (length c.loop-task.rows.items) c.in-Some.task (into_iter_items c.next.new.self) now;
      size = c.mark.ensures.size ∙ size;
      marks = λ k below.
          c.mark.ensures.marks k (omega (arith, below, size))
          ∙ (ap (λ (l : List ℕ). slice_index_or c.loop-task.marks k false || list_any (λ (n : ℕ). n == k) l) out
          ∙ (ap (λ (b : Bool). b || has_child k c.in-Some.task) (before.marks k below)
          ∙ (sym (unjoined_more k before_it c.in-Some.task)
          ∙ (ap (is_unjoined k) (sym (take_more c.args.tasks (length c.loop-task.rows.items) c.in-Some.task (into_iter_items c.next.new.self) now))
          ∙ ap (λ (n : ℕ). is_unjoined k (take n c.args.tasks)) (sym more)))));
    }
