use Rattle.std.proofs.Common.{List, rules, arith, sym, ap, ◌∙◌, ◌+◌, ◌++◌, map, take}
use Rattle.core.specs.Mem.Slots.{slots_items}
use Rattle.floor_laws.specs.declared.table.nodes.slot.TreeSlot.{TreeSlot}
use Rattle.task_floor.specs.inner.Emptying.{task_in}
use Rattle.task_floor.specs.steps.inner.Reading.{held_in}
use Rattle.task_floor.proofs.Emptied.{taken_more}
use Rattle.task_floor.proofs.emptying.take_tasks.Goals as goal

pub loop-i-preserved : goal.loop-i-preserved
loop-i-preserved c =
    let before = c.loop-i.invariant in
    let added = c.add_task.ensures in
    let others = c.take.ensures.others in
    let count = before.count in
    let len = added.count in
    record {
      count = omega (arith, count, len);
      room = added.room ∙ before.room;
      same = others.0 ∙ before.same;
      words = others.3 ∙ before.words;
      size = others.2 ∙ before.size;
      items = taken_more _ (slots_items c.loop-i.closed.slots) c.loop-i.i c.take.result _ _ before.items added.items c.take.ensures.value
          ∙ ap (λ (l : List TreeSlot). c.args.tasks.now.items ++ held_in (map task_in (take (c.loop-i.i + 1) l))) (sym others.0);
      full = search rules;
      empty = search rules;
    }
