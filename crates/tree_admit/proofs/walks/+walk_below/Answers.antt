-- The node is tested, and then each child is locked, walked below and left.
use Rattle.std.proofs.Common.{◌≡◌, List, ◌∷◌, length, get_or, Some, rules, refl, sym, subst, ◌∙◌, arith}
use Rattle.std.proofs.lemmas.List.Elements.{Contains-get_or}
use Rattle.region_paths.specs.declared.elements.Elem.{Elem}
use Rattle.prefix_tree.specs.Nodes.{IsParent, IsTreeOfPaths}
use Rattle.tree_admit.proofs.ways.WayLemmas.{room_shrinks}
use Rattle.floor_laws.specs.table.nodes.Seats.{TreeSeat, left_to_give}
use Rattle.tree_admit.specs.Descents.{walking}
use Rattle.tree_admit.specs.Going.{HasOnlyLearned}
use Rattle.tree_admit.proofs.Alone.{learned_served}
use Rattle.tree_admit.proofs.Learning.{barred_kept, barred_since, learned_all, learned_refl, learned_trans, live_kept, worker_kept}
use Rattle.tree_admit.proofs.Stepping.{barred_after, in_hand}
use Rattle.tree_admit.proofs.Steps.{locked_has, passed_learned, unlocked_learned}
use Rattle.tree_admit.specs.ways.Ways.{AreReached}
use Rattle.tree_admit.proofs.Wandering.{at_child, back_at_node, back_has, back_left, back_stops, giving, looked_has, looked_left, looked_stops, may_leave_child, may_lock_child, may_pass_child, may_walk_child, none_walked, one_more, one_passed, passed_child, whole_walk}
use Rattle.tree_admit.proofs.walks.+walk_below.Goals as goal

pub back_out-requires-clause-may : goal.back_out-requires-clause-may
back_out-requires-clause-may g t c =
    let nodes = g.N.Planted.nodes in
    let lim = g.N.Named.lim in
    let errand = c.args.errand in
    let e = c.args.effect.now in
    let n = c.args.node in
    let content = c.args.content in
    let start = c.args.stand.now.me in
    let tree = subst IsTreeOfPaths c.requires.shape c.nodes-count.ensures.tree in
    let me = c.look_at.new.stand.me in
    let only = c.look_at.ensures.only in
    let (earlier, rest, stack, done, may) = c.requires.may in
    (left_to_give (walking errand e (n ∷ stack) done) stack, rest, looked_stops nodes tree lim earlier rest errand e n stack done content start may me only, in_hand lim earlier rest (walking errand e (n ∷ stack) done) n content me (looked_has nodes tree lim earlier rest errand e n stack done content start may me only))

pub returns-in-Err-clause-barred : goal.returns-in-Err-clause-barred
returns-in-Err-clause-barred g t c = λ earlier rest stack done may.
    let nodes = g.N.Planted.nodes in
    let lim = g.N.Named.lim in
    let errand = c.args.errand in
    let e = c.args.effect.now in
    let n = c.args.node in
    let content = c.args.content in
    let start = c.args.stand.now.me in
    let tree = subst IsTreeOfPaths c.requires.shape c.nodes-count.ensures.tree in
    let me = c.look_at.new.stand.me in
    let only = c.look_at.ensures.only in
    let final = c.back_out.new.stand.me in
    let next = left_to_give (walking errand e (n ∷ stack) done) stack in
    let hand = in_hand lim earlier rest (walking errand e (n ∷ stack) done) n content me (looked_has nodes tree lim earlier rest errand e n stack done content start may me only) in
    let gave = c.back_out.ensures.gave next rest (looked_stops nodes tree lim earlier rest errand e n stack done content start may me only) hand in
    let barred = c.in-Err.ensures.barred in (
      looked_left nodes tree lim earlier rest errand e n stack done content start may me only final gave,
      barred_after lim earlier rest (walking errand e (n ∷ stack) done) n content me (looked_has nodes tree lim earlier rest errand e n stack done content start may me only) g.N.Named.prog start errand.task e c.in-Err.bar next final may.none may.has.learned barred.1 barred.2 gave,
    )

pub loop-at-init : goal.loop-at-init
loop-at-init g t c =
    let nodes = g.N.Planted.nodes in
    let lim = g.N.Named.lim in
    let errand = c.args.errand in
    let e = c.args.effect.now in
    let n = c.args.node in
    let content = c.args.content in
    let start = c.args.stand.now.me in
    let tree = subst IsTreeOfPaths c.requires.shape c.nodes-count.ensures.tree in
    let me = c.look_at.new.stand.me in
    let only = c.look_at.ensures.only in
    let children = c.reached_below-children.result.now in
    let each = subst (λ (ns : List (List Elem)). AreReached ns e n children) c.requires.shape c.reached_below-children.ensures.reached in
    let rising = c.reached_below-children.ensures.in_order in
    record {
      walk = λ earlier rest stack done may. none_walked nodes tree lim earlier rest errand e n stack done content start may me only children each rising c.in-Ok.ensures.passes;
      learned = only.learned;
      here = c.look_at.ensures.same.0;
      id = c.look_at.ensures.same.1;
    }

pub take_child-requires-clause-node : goal.take_child-requires-clause-node
take_child-requires-clause-node g t c =
    let nodes = g.N.Planted.nodes in
    let lim = g.N.Named.lim in
    let errand = c.args.errand in
    let e = c.args.effect.now in
    let n = c.args.node in
    let content = c.args.content in
    let start = c.args.stand.now.me in
    let tree = subst IsTreeOfPaths c.requires.shape c.nodes-count.ensures.tree in
    let children = c.reached_below-children.result.now in
    let each = subst (λ (ns : List (List Elem)). AreReached ns e n children) c.requires.shape c.reached_below-children.ensures.reached in
    let rising = c.reached_below-children.ensures.in_order in
    let at = c.loop-at.at in
    let within = c.loop-at-test.true in
    let me = c.loop-at.stand.me in
    let child = get_or children at 0 in
    let parent : IsParent nodes n child = (each child).0 (Contains-get_or children at 0 within) in
    parent.1

pub take_child-requires-clause-worker : goal.take_child-requires-clause-worker
take_child-requires-clause-worker g t c =
    c.requires.worker ∙ sym (worker_kept c.args.stand.now.me.0 c.loop-at.stand.me.0 c.loop-at.invariant.learned)

pub take_child-requires-clause-may : goal.take_child-requires-clause-may
take_child-requires-clause-may g t c =
    let nodes = g.N.Planted.nodes in
    let lim = g.N.Named.lim in
    let errand = c.args.errand in
    let e = c.args.effect.now in
    let n = c.args.node in
    let content = c.args.content in
    let start = c.args.stand.now.me in
    let tree = subst IsTreeOfPaths c.requires.shape c.nodes-count.ensures.tree in
    let children = c.reached_below-children.result.now in
    let each = subst (λ (ns : List (List Elem)). AreReached ns e n children) c.requires.shape c.reached_below-children.ensures.reached in
    let rising = c.reached_below-children.ensures.in_order in
    let at = c.loop-at.at in
    let within = c.loop-at-test.true in
    let me = c.loop-at.stand.me in
    let child = get_or children at 0 in
    let parent : IsParent nodes n child = (each child).0 (Contains-get_or children at 0 within) in
    let (earlier, rest, stack, done, may) = c.requires.may in
    let part = c.loop-at.invariant.walk earlier rest stack done may in
    (at_child nodes tree lim earlier rest errand e n stack done content start may children each rising at within me part, may_lock_child nodes tree lim earlier rest errand e n stack done content start may children each rising at within me part c.requires.kind c.requires.wild)

pub take_child-requires-clause-may_pass : goal.take_child-requires-clause-may_pass
take_child-requires-clause-may_pass g t c = λ lowest.
    let nodes = g.N.Planted.nodes in
    let lim = g.N.Named.lim in
    let errand = c.args.errand in
    let e = c.args.effect.now in
    let n = c.args.node in
    let content = c.args.content in
    let start = c.args.stand.now.me in
    let tree = subst IsTreeOfPaths c.requires.shape c.nodes-count.ensures.tree in
    let children = c.reached_below-children.result.now in
    let each = subst (λ (ns : List (List Elem)). AreReached ns e n children) c.requires.shape c.reached_below-children.ensures.reached in
    let rising = c.reached_below-children.ensures.in_order in
    let at = c.loop-at.at in
    let within = c.loop-at-test.true in
    let me = c.loop-at.stand.me in
    let (earlier, rest, stack, done, may) = c.requires.may in
    let part = c.loop-at.invariant.walk earlier rest stack done may in
    (passed_child nodes tree lim earlier rest errand e n stack done content start may children each rising at within me part, may_pass_child nodes tree lim earlier rest errand e n stack done content start may children each rising at within me part lowest)

pub loop-at-preserved-in_default : goal.loop-at-preserved-in_default
loop-at-preserved-in_default g t c =
    let nodes = g.N.Planted.nodes in
    let lim = g.N.Named.lim in
    let errand = c.args.errand in
    let e = c.args.effect.now in
    let n = c.args.node in
    let content = c.args.content in
    let start = c.args.stand.now.me in
    let tree = subst IsTreeOfPaths c.requires.shape c.nodes-count.ensures.tree in
    let children = c.reached_below-children.result.now in
    let each = subst (λ (ns : List (List Elem)). AreReached ns e n children) c.requires.shape c.reached_below-children.ensures.reached in
    let rising = c.reached_below-children.ensures.in_order in
    let at = c.loop-at.at in
    let within = c.loop-at-test.true in
    let me = c.loop-at.stand.me in
    let final = c.take_child.new.stand.me in
    let lowest = c.in_default.ensures.lowest refl in
    record {
      walk = λ earlier rest stack done may.
          let part = c.loop-at.invariant.walk earlier rest stack done may in
          one_passed nodes tree lim earlier rest errand e n stack done content start may children each rising at within me part lowest final
          (c.in_default.ensures.passed refl (passed_child nodes tree lim earlier rest errand e n stack done content start may children each rising at within me part)
          (may_pass_child nodes tree lim earlier rest errand e n stack done content start may children each rising at within me part lowest));
      learned =
          let (earlier, rest, stack, done, may) = c.requires.may in
          let part = c.loop-at.invariant.walk earlier rest stack done may in
          let next = passed_child nodes tree lim earlier rest errand e n stack done content start may children each rising at within me part in
          let passed = c.in_default.ensures.passed refl next (may_pass_child nodes tree lim earlier rest errand e n stack done content start may children each rising at within me part lowest) in
          subst (λ (w : TreeSeat). HasOnlyLearned start.0 w.0) (sym passed) (passed_learned start.0 me.0 next c.loop-at.invariant.learned);
      here = c.take_child.ensures.same.0 ∙ c.loop-at.invariant.here;
      id = c.take_child.ensures.same.1 ∙ c.loop-at.invariant.id;
    }

pub walk_below-requires : goal.walk_below-requires
walk_below-requires g t c κs inside =
    let nodes = g.N.Planted.nodes in
    let lim = g.N.Named.lim in
    let errand = c.args.errand in
    let e = c.args.effect.now in
    let n = c.args.node in
    let content = c.args.content in
    let start = c.args.stand.now.me in
    let tree = subst IsTreeOfPaths c.requires.shape c.nodes-count.ensures.tree in
    let children = c.reached_below-children.result.now in
    let each = subst (λ (ns : List (List Elem)). AreReached ns e n children) c.requires.shape c.reached_below-children.ensures.reached in
    let rising = c.reached_below-children.ensures.in_order in
    let at = c.loop-at.at in
    let within = c.loop-at-test.true in
    let me = c.loop-at.stand.me in
    let child = get_or children at 0 in
    let parent : IsParent nodes n child = (each child).0 (Contains-get_or children at 0 within) in
    let (earlier, rest, stack, done, may) = c.requires.may in
    let part = c.loop-at.invariant.walk earlier rest stack done may in
    let after = c.take_child.new.stand.me in
    let below = c.in-Some.below in
    let locked = c.in-Some.ensures.locked (at_child nodes tree lim earlier rest errand e n stack done content start may children each rising at within me part) (may_lock_child nodes tree lim earlier rest errand e n stack done content start may children each rising at within me part c.requires.kind c.requires.wild) in
    let learned : HasOnlyLearned start.0 after.0 =
    learned_trans start.0 me.0 after.0 c.loop-at.invariant.learned (locked_has lim me child (at_child nodes tree lim earlier rest errand e n stack done content start may children each rising at within me part) below after locked).learned in
    let shrinks = room_shrinks nodes n child parent in
    let was = c.decreases in (
      omega (arith, shrinks, was),
      (search (rules, inside), (search (rules, inside), (c.take_child.ensures.same.0 ∙ (c.loop-at.invariant.here ∙ c.requires.here), (live_kept start.0 after.0 learned c.requires.live, (c.requires.shape, (c.requires.worker ∙ sym (worker_kept start.0 after.0 learned), (c.requires.tasks, (parent.1, (c.requires.kind, (c.requires.wild, ((me.0, me.1, n ∷ stack, part.after, may_walk_child nodes tree lim earlier rest errand e n stack done content start may children each rising at within me part below after locked)))))))))))),
    )

pub leave-requires-clause-node : goal.leave-requires-clause-node
leave-requires-clause-node g t c =
    let nodes = g.N.Planted.nodes in
    let lim = g.N.Named.lim in
    let errand = c.args.errand in
    let e = c.args.effect.now in
    let n = c.args.node in
    let content = c.args.content in
    let start = c.args.stand.now.me in
    let tree = subst IsTreeOfPaths c.requires.shape c.nodes-count.ensures.tree in
    let children = c.reached_below-children.result.now in
    let each = subst (λ (ns : List (List Elem)). AreReached ns e n children) c.requires.shape c.reached_below-children.ensures.reached in
    let rising = c.reached_below-children.ensures.in_order in
    let at = c.loop-at.at in
    let within = c.loop-at-test.true in
    let me = c.loop-at.stand.me in
    let child = get_or children at 0 in
    let parent : IsParent nodes n child = (each child).0 (Contains-get_or children at 0 within) in
    parent.1

pub leave-requires-clause-may : goal.leave-requires-clause-may
leave-requires-clause-may g t c =
    let nodes = g.N.Planted.nodes in
    let lim = g.N.Named.lim in
    let errand = c.args.errand in
    let e = c.args.effect.now in
    let n = c.args.node in
    let content = c.args.content in
    let start = c.args.stand.now.me in
    let tree = subst IsTreeOfPaths c.requires.shape c.nodes-count.ensures.tree in
    let children = c.reached_below-children.result.now in
    let each = subst (λ (ns : List (List Elem)). AreReached ns e n children) c.requires.shape c.reached_below-children.ensures.reached in
    let rising = c.reached_below-children.ensures.in_order in
    let at = c.loop-at.at in
    let within = c.loop-at-test.true in
    let me = c.loop-at.stand.me in
    let child = get_or children at 0 in
    let parent : IsParent nodes n child = (each child).0 (Contains-get_or children at 0 within) in
    let (earlier, rest, stack, done, may) = c.requires.may in
    let part = c.loop-at.invariant.walk earlier rest stack done may in
    let after = c.take_child.new.stand.me in
    let below = c.in-Some.below in
    let locked = c.in-Some.ensures.locked (at_child nodes tree lim earlier rest errand e n stack done content start may children each rising at within me part) (may_lock_child nodes tree lim earlier rest errand e n stack done content start may children each rising at within me part c.requires.kind c.requires.wild) in
    let then = c.walk_below.new.stand.me in
    let goes = may_walk_child nodes tree lim earlier rest errand e n stack done content start may children each rising at within me part below after locked in
    let walk = c.in-Ok-walk_below.ensures.walked me.0 me.1 (n ∷ stack) part.after goes in (
      back_at_node nodes tree lim earlier rest errand e n stack done content start may children each rising at within me part below after locked c.in-Ok-walk_below.below then walk,
      me.1,
      may_leave_child nodes tree lim earlier rest errand e n stack done content start may children each rising at within me part below after locked c.in-Ok-walk_below.below then walk,
      in_hand lim me.0 me.1 (walking errand e (child ∷ n ∷ stack) walk.after) child c.in-Ok-walk_below.below then walk.has,
    )

pub back_out-requires-in-Err-walk_below-clause-may : goal.back_out-requires-in-Err-walk_below-clause-may
back_out-requires-in-Err-walk_below-clause-may g t c =
    let nodes = g.N.Planted.nodes in
    let lim = g.N.Named.lim in
    let errand = c.args.errand in
    let e = c.args.effect.now in
    let n = c.args.node in
    let content = c.args.content in
    let start = c.args.stand.now.me in
    let tree = subst IsTreeOfPaths c.requires.shape c.nodes-count.ensures.tree in
    let children = c.reached_below-children.result.now in
    let each = subst (λ (ns : List (List Elem)). AreReached ns e n children) c.requires.shape c.reached_below-children.ensures.reached in
    let rising = c.reached_below-children.ensures.in_order in
    let at = c.loop-at.at in
    let within = c.loop-at-test.true in
    let me = c.loop-at.stand.me in
    let child = get_or children at 0 in
    let parent : IsParent nodes n child = (each child).0 (Contains-get_or children at 0 within) in
    let (earlier, rest, stack, done, may) = c.requires.may in
    let part = c.loop-at.invariant.walk earlier rest stack done may in
    let after = c.take_child.new.stand.me in
    let below = c.in-Some.below in
    let locked = c.in-Some.ensures.locked (at_child nodes tree lim earlier rest errand e n stack done content start may children each rising at within me part) (may_lock_child nodes tree lim earlier rest errand e n stack done content start may children each rising at within me part c.requires.kind c.requires.wild) in
    let then = c.walk_below.new.stand.me in
    let goes = may_walk_child nodes tree lim earlier rest errand e n stack done content start may children each rising at within me part below after locked in
    let left = (c.in-Err-walk_below.ensures.barred me.0 me.1 (n ∷ stack) part.after goes).0 in
    (left_to_give (walking errand e (n ∷ stack) done) stack, rest, back_stops nodes tree lim earlier rest errand e n stack done content start may children each rising at within me part below after locked then left, in_hand lim earlier rest (giving nodes tree lim earlier rest errand e n stack done content start may children each rising at within me part below after locked then left) n content then (back_has nodes tree lim earlier rest errand e n stack done content start may children each rising at within me part below after locked then left))

pub returns-in-Err-walk_below-clause-barred : goal.returns-in-Err-walk_below-clause-barred
returns-in-Err-walk_below-clause-barred g t c = λ earlier rest stack done may.
    let nodes = g.N.Planted.nodes in
    let lim = g.N.Named.lim in
    let errand = c.args.errand in
    let e = c.args.effect.now in
    let n = c.args.node in
    let content = c.args.content in
    let start = c.args.stand.now.me in
    let tree = subst IsTreeOfPaths c.requires.shape c.nodes-count.ensures.tree in
    let children = c.reached_below-children.result.now in
    let each = subst (λ (ns : List (List Elem)). AreReached ns e n children) c.requires.shape c.reached_below-children.ensures.reached in
    let rising = c.reached_below-children.ensures.in_order in
    let at = c.loop-at.at in
    let within = c.loop-at-test.true in
    let me = c.loop-at.stand.me in
    let child = get_or children at 0 in
    let parent : IsParent nodes n child = (each child).0 (Contains-get_or children at 0 within) in
    let part = c.loop-at.invariant.walk earlier rest stack done may in
    let after = c.take_child.new.stand.me in
    let below = c.in-Some.below in
    let locked = c.in-Some.ensures.locked (at_child nodes tree lim earlier rest errand e n stack done content start may children each rising at within me part) (may_lock_child nodes tree lim earlier rest errand e n stack done content start may children each rising at within me part c.requires.kind c.requires.wild) in
    let then = c.walk_below.new.stand.me in
    let goes = may_walk_child nodes tree lim earlier rest errand e n stack done content start may children each rising at within me part below after locked in
    let barred = c.in-Err-walk_below.ensures.barred me.0 me.1 (n ∷ stack) part.after goes in
    let left = barred.0 in
    let final = c.back_out-in-Err-walk_below.new.stand.me in
    let next = left_to_give (walking errand e (n ∷ stack) done) stack in
    let gave = c.back_out-in-Err-walk_below.ensures.gave next rest (back_stops nodes tree lim earlier rest errand e n stack done content start may children each rising at within me part below after locked then left) (in_hand lim earlier rest (giving nodes tree lim earlier rest errand e n stack done content start may children each rising at within me part below after locked then left) n content then (back_has nodes tree lim earlier rest errand e n stack done content start may children each rising at within me part below after locked then left)) in
    let learned : HasOnlyLearned then.0 final.0 = subst (λ (w : TreeSeat). HasOnlyLearned then.0 w.0) (sym gave) (unlocked_learned then.0 then.0 n next (learned_refl then.0)) in (
      back_left nodes tree lim earlier rest errand e n stack done content start may children each rising at within me part below after locked then left final gave,
      barred_since g.N.Named.prog lim errand.task e earlier me.0 final.0 c.in-Err-walk_below.bar part.has.learned.kept part.has.learned.looks (learned_served errand.task earlier me.0 part.has.learned)
          (barred_kept g.N.Named.prog lim errand.task e me.0 then.0 final.0 c.in-Err-walk_below.bar (learned_all then.0 final.0 learned) barred.1),
    )

pub loop-at-preserved : goal.loop-at-preserved
loop-at-preserved g t c =
    let nodes = g.N.Planted.nodes in
    let lim = g.N.Named.lim in
    let errand = c.args.errand in
    let e = c.args.effect.now in
    let n = c.args.node in
    let content = c.args.content in
    let start = c.args.stand.now.me in
    let tree = subst IsTreeOfPaths c.requires.shape c.nodes-count.ensures.tree in
    let children = c.reached_below-children.result.now in
    let each = subst (λ (ns : List (List Elem)). AreReached ns e n children) c.requires.shape c.reached_below-children.ensures.reached in
    let rising = c.reached_below-children.ensures.in_order in
    let at = c.loop-at.at in
    let within = c.loop-at-test.true in
    let me = c.loop-at.stand.me in
    let child = get_or children at 0 in
    let parent : IsParent nodes n child = (each child).0 (Contains-get_or children at 0 within) in
    let final = c.leave.new.stand.me in
    record {
      walk = λ earlier rest stack done may.
          let part = c.loop-at.invariant.walk earlier rest stack done may in
          let after = c.take_child.new.stand.me in
          let below = c.in-Some.below in
          let locked = c.in-Some.ensures.locked (at_child nodes tree lim earlier rest errand e n stack done content start may children each rising at within me part) (may_lock_child nodes tree lim earlier rest errand e n stack done content start may children each rising at within me part c.requires.kind c.requires.wild) in
          let then = c.walk_below.new.stand.me in
          let goes = may_walk_child nodes tree lim earlier rest errand e n stack done content start may children each rising at within me part below after locked in
          let walk = c.in-Ok-walk_below.ensures.walked me.0 me.1 (n ∷ stack) part.after goes in
          let hand = in_hand lim me.0 me.1 (walking errand e (child ∷ n ∷ stack) walk.after) child c.in-Ok-walk_below.below then walk.has in
          let gave = c.leave.ensures.gave (back_at_node nodes tree lim earlier rest errand e n stack done content start may children each rising at within me part below after locked c.in-Ok-walk_below.below then walk) me.1 (may_leave_child nodes tree lim earlier rest errand e n stack done content start may children each rising at within me part below after locked c.in-Ok-walk_below.below then walk) hand in
          one_more nodes tree lim earlier rest errand e n stack done content start may children each rising at within me part below after locked c.in-Ok-walk_below.below then walk final gave;
      learned =
          let (earlier, rest, stack, done, may) = c.requires.may in
          let part = c.loop-at.invariant.walk earlier rest stack done may in
          let after = c.take_child.new.stand.me in
          let below = c.in-Some.below in
          let locked = c.in-Some.ensures.locked (at_child nodes tree lim earlier rest errand e n stack done content start may children each rising at within me part) (may_lock_child nodes tree lim earlier rest errand e n stack done content start may children each rising at within me part c.requires.kind c.requires.wild) in
          let then = c.walk_below.new.stand.me in
          let goes = may_walk_child nodes tree lim earlier rest errand e n stack done content start may children each rising at within me part below after locked in
          let walk = c.in-Ok-walk_below.ensures.walked me.0 me.1 (n ∷ stack) part.after goes in
          let hand = in_hand lim me.0 me.1 (walking errand e (child ∷ n ∷ stack) walk.after) child c.in-Ok-walk_below.below then walk.has in
          let gave = c.leave.ensures.gave (back_at_node nodes tree lim earlier rest errand e n stack done content start may children each rising at within me part below after locked c.in-Ok-walk_below.below then walk) me.1 (may_leave_child nodes tree lim earlier rest errand e n stack done content start may children each rising at within me part below after locked c.in-Ok-walk_below.below then walk) hand in
          let left : HasOnlyLearned then.0 final.0 = subst (λ (w : TreeSeat). HasOnlyLearned then.0 w.0) (sym gave) (unlocked_learned then.0 then.0 child (Some (back_at_node nodes tree lim earlier rest errand e n stack done content start may children each rising at within me part below after locked c.in-Ok-walk_below.below then walk)) (learned_refl then.0)) in
          learned_trans start.0 me.0 final.0 c.loop-at.invariant.learned (learned_trans me.0 then.0 final.0 walk.has.learned left);
      here = c.leave.ensures.same.0 ∙ (c.walk_below.ensures.same.0 ∙ (c.take_child.ensures.same.0 ∙ c.loop-at.invariant.here));
      id = c.leave.ensures.same.1 ∙ (c.walk_below.ensures.same.1 ∙ (c.take_child.ensures.same.1 ∙ c.loop-at.invariant.id));
    }

pub returns-clause-walked : goal.returns-clause-walked
returns-clause-walked g t c = λ earlier rest stack done may.
    let nodes = g.N.Planted.nodes in
    let lim = g.N.Named.lim in
    let errand = c.args.errand in
    let e = c.args.effect.now in
    let n = c.args.node in
    let content = c.args.content in
    let start = c.args.stand.now.me in
    let tree = subst IsTreeOfPaths c.requires.shape c.nodes-count.ensures.tree in
    let children = c.reached_below-children.result.now in
    let each = subst (λ (ns : List (List Elem)). AreReached ns e n children) c.requires.shape c.reached_below-children.ensures.reached in
    let rising = c.reached_below-children.ensures.in_order in
    let all : c.loop-at.at ≡ length children = omega (arith, c.loop-at-test.false, c.loop-at.auto.at-end) in
    whole_walk nodes tree lim earlier rest errand e n stack done content start may children each rising c.loop-at.at all c.loop-at.stand.me (c.loop-at.invariant.walk earlier rest stack done may)

pub look_at-requires-clause-kept : goal.look_at-requires-clause-kept
look_at-requires-clause-kept g t c = c.requires.may.4.has.known
