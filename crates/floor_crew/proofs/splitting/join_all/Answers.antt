use Rattle.std.proofs.Common.{◌≡◌, ◌+◌, ◌++◌, ◌∷◌, [], List, Option, length, ap, sym, subst, ◌∙◌, length-append}
use mathlib.Core.List.{IsPrefix}
use Rattle.seg_journal.specs.declared.numbered.NumberedEntry.{NumberedEntry}
use Rattle.task_floor.specs.Stands.{TreeStand}
use Rattle.twe_rounds.proofs.Beginnings.{prefix_more}
use Rattle.floor_crew.proofs.MainStand.{joined_main, joined_parts}
use Rattle.floor_crew.proofs.splitting.join_all.Goals as goal

pub loop-hand-preserved : goal.loop-hand-preserved
loop-hand-preserved g c =
    let before = c.loop-hand.stand in
    let after = c.join.new.stand in
    let other = c.into_stand-other.result.0 in
    let log = c.into_stand-other.result.1 in
    let parts = c.loop-hand.parts in
    let idle = c.into_stand-other.ensures.idle in
    let more : length c.loop-hand.hands.items ≡ length c.pop.new.self.items + 1 =
    ap (λ (l : List (Option TreeStand)). length l) c.in-Some.ensures.items ∙ length-append c.pop.new.self.items (c.in-Some.hand ∷ []) in
    let pushed : c.push.new.self ≡ parts ++ log.entries ∷ [] = c.in_ok-push.ensures.ok ∙ ap (λ (l : List NumberedEntry). parts ++ l ∷ []) c.into_part.ensures in (
      joined_main g.F.Located.table before after other (length c.loop-hand.hands.items) (length c.pop.new.self.items) c.loop-hand.invariant.0 more c.join.ensures.both c.join.ensures.same.0,
      joined_parts before after other parts c.push.new.self log idle.0 c.loop-hand.invariant.1 c.join.ensures.both idle.1 pushed,
      subst (IsPrefix c.args.parts.now) (sym pushed) (prefix_more c.args.parts.now parts log.entries c.loop-hand.invariant.2),
    )
