use Rattle.std.proofs.Common.{◌<◌, ◌++◌, ℕ, ℤ, [], ◌∷◌, sym, ap, subst, ◌∙◌, rules, w32}
use Rattle.core.specs.Mem.Slots.{slots_items}
use Rattle.std.specs.Prelude.{◌^◌}
use Rattle.std.proofs.lemmas.Int.{to_z-of_z}
use mathlib.Core.Option as core
use mir.Val.{SFits}
use Rattle.floor_laws.specs.table.Layout.{number_at, value_of_word}
use Rattle.task_floor.proofs.steps.Readings.{cells_step}
use Rattle.task_floor.proofs.reading.cells_of.Goals as goal

pub value_of-requires : goal.value_of-requires
value_of-requires c = subst (λ (o : core.Option ℕ). number_at o < 2 ^ 32) c.word.ensures (c.requires.small c.loop-c.c c.loop-c-test.true)

pub loop-c-preserved : goal.loop-c-preserved
loop-c-preserved c =
    let fits : SFits w32 c.value_of.result = search rules in
    let pushed = c.in_ok-push.ensures.ok ∙ ap (λ (x : ℤ). c.loop-c.cells ++ x ∷ []) (to_z-of_z w32 c.value_of.result fits) in
    cells_step (slots_items c.args.table.now.words) c.loop-c.c c.loop-c.cells c.push.new.self c.value_of.result c.loop-c.invariant pushed
    (c.value_of.ensures ∙ sym (ap (λ (o : core.Option ℕ). value_of_word (number_at o)) c.word.ensures))
