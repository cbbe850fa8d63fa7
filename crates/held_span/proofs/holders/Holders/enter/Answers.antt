use Rattle.std.proofs.Common.{◌≡◌, ◌↔◌, ◌⊎◌, ◌∙◌, List, subst}
use Rattle.std.specs.List.{Contains}
use Rattle.std.proofs.lemmas.List.{take_all}
use Rattle.held_span.specs.declared.marks.EffectMark.{EffectMark}
use Rattle.held_span.specs.declared.marks.EffectMark.TheVariants.{Own}
use Rattle.held_span.specs.inner.Holding.{Holds}
use Rattle.held_span.proofs.Held.{entered_more}
use Rattle.held_span.proofs.holders.Holders.enter.Goals as goal

pub loop-mark-preserved : goal.loop-mark-preserved
loop-mark-preserved c =
    let before = c.loop-mark.invariant in
    let now = c.in_ok-add.ensures in
    record {
      room = record { own = now.room.own ∙ before.room.own; rival = now.room.rival ∙ before.room.rival };
      entered = entered_more c.args.marks.now c.loop-mark.mark-index (Own 0) c.loop-mark-test.true c.args.task c.args.self.now c.loop-mark.self c.add.new.self before.entered now.added;
    }

pub returns-clause-entered : goal.returns-clause-entered
returns-clause-entered c = λ m t.
    subst (λ (l : List EffectMark). Holds c.loop-mark.self m t ↔ (Holds c.args.self.now m t ⊎ ((t ≡ c.args.task) × Contains l m)))
    (take_all c.loop-mark.mark-index c.args.marks.now c.loop-mark-test.false) (c.loop-mark.invariant.entered m t)
