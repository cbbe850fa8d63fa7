-- The walk goes up until the node right above is the one that the way begins at. It never comes to the root.
use Rattle.std.proofs.Common.{ℕ, refl, sym, subst}
use Rattle.floor_laws.specs.admission.admission_core.States.{ActivityIsOver}
use Rattle.tree_admit.proofs.ways.WayLemmas.{not_over_root, over_end, still_over, up_above}
use Rattle.tree_admit.proofs.ways.way.next_toward.Goals as goal

pub loop-above-init : goal.loop-above-init
loop-above-init c =
    record { over = c.requires; above = over_end c.args.shape.now c.nodes-count.ensures.tree c.args.node c.args.end c.requires }

pub loop-above-preserved : goal.loop-above-preserved
loop-above-preserved c =
    let nodes = c.args.shape.now in
    let tree = c.nodes-count.ensures.tree in
    let parent = c.in-Some.ensures.parent in
    let loop = c.loop-above in
    record {
      over = still_over nodes tree c.args.node c.in-Some.above loop.at parent loop.invariant.over (λ same. c.if-above-node.false (sym same));
      above = up_above nodes tree c.in-Some.above loop.at c.args.end parent loop.invariant.above;
    }

pub returns-clause-next : goal.returns-clause-next
returns-clause-next c =
    let nodes = c.args.shape.now in
    let at_root = c.in_default.ensures.root.0 refl in
    absurd (not_over_root nodes c.nodes-count.ensures.tree c.args.node (subst (λ (m : ℕ). ActivityIsOver nodes c.args.node m) at_root c.loop-above.invariant.over))
