use Rattle.std.proofs.Common.{[], ◌∷◌, ◌++◌, List, sym, subst, take}
use Rattle.std.proofs.lemmas.List.{take_all}
use Rattle.machine_state.specs.declared.state.TaskRow.{TaskRow}
use Rattle.held_span.specs.Gathering.{AreGathered}
use Rattle.held_span.specs.Rivals.{EffectList}
use Rattle.held_span.specs.inner.Spanning.{effect_lists}
use Rattle.held_span.proofs.Marked.{filled_there, lists_more}
use Rattle.held_span.proofs.spanning.gathered_of.Goals as goal

pub add-requires-clause-gathering : goal.add-requires-clause-gathering
add-requires-clause-gathering c = (effect_lists (take c.loop-row.row-index c.args.rows.now), c.loop-row.invariant)

pub add-requires-clause-filled : goal.add-requires-clause-filled
add-requires-clause-filled c =
    filled_there c.args.rows.now c.loop-row.row-index c.row-item.result c.as_slice.result.now c.requires c.loop-row-test.true c.row-item.is c.as_slice.ensures

pub loop-row-preserved : goal.loop-row-preserved
loop-row-preserved c =
    let rows = c.args.rows.now in
    let i = c.loop-row.row-index in
    subst (λ (l : List EffectList). AreGathered l c.add.new.self) (sym (lists_more rows i c.row-item.result c.loop-row-test.true c.row-item.is))
    (subst (λ (e : EffectList). AreGathered (effect_lists (take i rows) ++ e ∷ []) c.add.new.self) c.as_slice.ensures (c.in_ok-add.ensures (effect_lists (take i rows)) c.loop-row.invariant))

pub returns : goal.returns
returns c =
    subst (λ (l : List TaskRow). AreGathered (effect_lists l) c.loop-row.gathered) (take_all c.loop-row.row-index c.args.rows.now c.loop-row-test.false) c.loop-row.invariant
