-- The worker tests the node, and locks the next one on its way or comes back.
use Rattle.std.proofs.Common.{List, None, subst, ◌∙◌}
use Rattle.region_paths.specs.declared.elements.Elem.{Elem}
use Rattle.prefix_tree.specs.Nodes.{IsParent, IsTreeOfPaths}
use Rattle.floor_laws.specs.admission.admission_core.States.{IsAbove}
use Rattle.floor_laws.proofs.admission.admission_core.TreeLemmas.{root_above}
use Rattle.tree_admit.proofs.ways.WayLemmas.{room_shrinks}
use Rattle.tree_admit.specs.Errands.{errand_at}
use Rattle.tree_admit.proofs.Descending.{descent_goes, descent_left, descent_stops}
use Rattle.tree_admit.proofs.Entering.{may_enter}
use Rattle.tree_admit.proofs.Owning.{own_before}
use Rattle.tree_admit.proofs.Steps.{followed_has, locked_has}
use Rattle.tree_admit.proofs.Stepping.{barred_after, in_hand}
use Rattle.tree_admit.proofs.descents.descend.Goals as goal

pub lock_root-content-requires-clause-may : goal.lock_root-content-requires-clause-may
lock_root-content-requires-clause-may g c =
    let e = c.args.effect.now in
    (errand_at c.args.errand e 0, may_enter g.N.Planted.nodes c.args.stand.now.me.0 c.args.errand e c.requires.knows c.requires.outside)

pub loop-node-init : goal.loop-node-init
loop-node-init g c =
    let nodes = g.N.Planted.nodes in
    let e = c.args.effect.now in
    let start = c.args.stand.now.me in
    let tree = subst IsTreeOfPaths c.requires.shape c.nodes-count.ensures.tree in
    let after = c.lock_root-content.new.stand.me in
    record {
      above = root_above nodes tree c.args.errand.place c.requires.knows.place.there;
      has = locked_has g.N.Named.lim start 0 (errand_at c.args.errand e 0) c.lock_root-content.result after
          (c.lock_root-content.ensures.locked (errand_at c.args.errand e 0) (may_enter nodes start.0 c.args.errand e c.requires.knows c.requires.outside));
      own = c.lock_root-content.ensures.own;
      here = c.lock_root-content.ensures.same.0;
      id = c.lock_root-content.ensures.same.1;
    }

pub back_out-requires-clause-may : goal.back_out-requires-clause-may
back_out-requires-clause-may g c =
    let lim = g.N.Named.lim in
    let start = c.args.stand.now.me in
    let e = c.args.effect.now in
    let n = c.loop-node.node in
    let content = c.loop-node.content in
    let me = c.look_at.new.stand.me in
    let has = followed_has lim start.0 start.1 (errand_at c.args.errand e n) n content c.loop-node.stand.me c.loop-node.invariant.has me c.look_at.ensures.only in
    (None, start.1, descent_stops lim start c.requires.outside c.args.errand e n content me has c.loop-node-test.true, in_hand lim start.0 start.1 (errand_at c.args.errand e n) n content me has)

pub returns-in-Err-clause-barred : goal.returns-in-Err-clause-barred
returns-in-Err-clause-barred g c =
    let lim = g.N.Named.lim in
    let start = c.args.stand.now.me in
    let e = c.args.effect.now in
    let n = c.loop-node.node in
    let content = c.loop-node.content in
    let me = c.look_at.new.stand.me in
    let final = c.back_out.new.stand.me in
    let has = followed_has lim start.0 start.1 (errand_at c.args.errand e n) n content c.loop-node.stand.me c.loop-node.invariant.has me c.look_at.ensures.only in
    let gave = c.back_out.ensures.gave None start.1 (descent_stops lim start c.requires.outside c.args.errand e n content me has c.loop-node-test.true)
    (in_hand lim start.0 start.1 (errand_at c.args.errand e n) n content me has) in
    let barred = c.in-Err.ensures.barred in (
      descent_left lim start c.requires.outside c.args.errand e n content me has c.loop-node-test.true final gave,
      barred.0,
      barred_after lim start.0 start.1 (errand_at c.args.errand e n) n content me has g.N.Named.prog c.loop-node.stand.me c.args.errand.task e c.in-Err.bar None final (c.requires.outside.none n) c.loop-node.invariant.has.learned barred.1 barred.2 gave,
    )

pub step_down-content-requires-clause-may : goal.step_down-content-requires-clause-may
step_down-content-requires-clause-may g c =
    let nodes = g.N.Planted.nodes in
    let lim = g.N.Named.lim in
    let start = c.args.stand.now.me in
    let e = c.args.effect.now in
    let n = c.loop-node.node in
    let child = c.next_toward-child.result in
    let content = c.loop-node.content in
    let me = c.look_at.new.stand.me in
    let tree = subst IsTreeOfPaths c.requires.shape c.nodes-count.ensures.tree in
    let has = followed_has lim start.0 start.1 (errand_at c.args.errand e n) n content c.loop-node.stand.me c.loop-node.invariant.has me c.look_at.ensures.only in
    let parent = subst (λ (ns : List (List Elem)). IsParent ns n child) c.requires.shape c.next_toward-child.ensures.next in
    let above = subst (λ (ns : List (List Elem)). IsAbove ns child c.args.errand.place) c.requires.shape c.next_toward-child.ensures.above in
    (start.0, start.1, errand_at c.args.errand e n, c.requires.slots, descent_goes lim start c.requires.outside c.args.errand e n content me has c.loop-node-test.true nodes tree child parent above c.in-Ok.ensures.passes)

pub loop-node-smaller : goal.loop-node-smaller
loop-node-smaller g c =
    let child = c.next_toward-child.result in
    room_shrinks g.N.Planted.nodes c.loop-node.node child (subst (λ (ns : List (List Elem)). IsParent ns c.loop-node.node child) c.requires.shape c.next_toward-child.ensures.next)

pub loop-node-preserved : goal.loop-node-preserved
loop-node-preserved g c =
    let nodes = g.N.Planted.nodes in
    let lim = g.N.Named.lim in
    let start = c.args.stand.now.me in
    let e = c.args.effect.now in
    let n = c.loop-node.node in
    let child = c.next_toward-child.result in
    let content = c.loop-node.content in
    let me = c.look_at.new.stand.me in
    let tree = subst IsTreeOfPaths c.requires.shape c.nodes-count.ensures.tree in
    let has = followed_has lim start.0 start.1 (errand_at c.args.errand e n) n content c.loop-node.stand.me c.loop-node.invariant.has me c.look_at.ensures.only in
    let parent = subst (λ (ns : List (List Elem)). IsParent ns n child) c.requires.shape c.next_toward-child.ensures.next in
    let above = subst (λ (ns : List (List Elem)). IsAbove ns child c.args.errand.place) c.requires.shape c.next_toward-child.ensures.above in
    record {
      above = above;
      has = c.step_down-content.ensures.came start.0 start.1 (errand_at c.args.errand e n) c.requires.slots
          (descent_goes lim start c.requires.outside c.args.errand e n content me has c.loop-node-test.true nodes tree child parent above c.in-Ok.ensures.passes);
      own = own_before start.0 me.0 child c.step_down-content.result has.learned c.step_down-content.ensures.own;
      here = c.step_down-content.ensures.same.0 ∙ (c.look_at.ensures.same.0 ∙ c.loop-node.invariant.here);
      id = c.step_down-content.ensures.same.1 ∙ (c.look_at.ensures.same.1 ∙ c.loop-node.invariant.id);
    }

pub look_at-requires-clause-kept : goal.look_at-requires-clause-kept
look_at-requires-clause-kept g c = c.loop-node.invariant.has.known
