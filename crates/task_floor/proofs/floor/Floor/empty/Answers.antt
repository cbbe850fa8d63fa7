use Rattle.std.proofs.Common.{◌≡◌, ◌++◌, ℕ, List, map, take, ap, ◌∙◌}
use Rattle.core.specs.Mem.Slots.{slots_items}
use Rattle.floor_laws.specs.declared.rule.view.TaskSlot.{TaskSlot}
use Rattle.task_floor.specs.inner.Emptying.{task_in}
use Rattle.task_floor.specs.steps.inner.Reading.{held_in}
use Rattle.task_floor.proofs.Emptied.{emptied_shows}
use Rattle.task_floor.proofs.floor.Floor.empty.Goals as goal

pub returns-clause-ended : goal.returns-clause-ended
returns-clause-ended g c =
    let closed = c.close-table.result in
    let words : c.drop_nodes.new.closed.words ≡ closed.words = c.drop_nodes.ensures.words ∙ c.take_tasks.ensures.words in
    let tasks : c.from.result ≡ held_in (map task_in (take g.N.Named.lim.tasks (slots_items closed.slots))) =
    c.from.ensures
    ∙ (c.take_tasks.ensures.items
    ∙ (ap (λ (l : List TaskSlot). l ++ held_in (map task_in (take c.self.inside.tasks (slots_items closed.slots)))) c.in_ok-tasks.ensures.items
    ∙ ap (λ (n : ℕ). held_in (map task_in (take n (slots_items closed.slots)))) c.self.invariant.2)) in
    emptied_shows g.N.Planted.nodes g.N.Named.prog g.N.Named.lim c.args.stand.me.0 (slots_items closed.words) (slots_items closed.slots) c.close-table.ensures.ended _ c.from.result
    (ap slots_items words) tasks
