-- The walk found a round, whose tasks aren't done and whose turned edges are the stuck cycle.
use Rattle.std.proofs.Common.{ℕ, ◌-◌, List, length, take, drop, sym, ◌∙◌, subst}
use Rattle.std.proofs.lemmas.List.{take_rest}
use Rattle.std.proofs.lemmas.List.Elements.{All-same, All-drop}
use Rattle.std.proofs.lemmas.Result.{IfOk-weaker}
use Rattle.wait_graph.specs.declared.stuck.Edge.{Edge}
use Rattle.wait_graph.specs.StuckCycle.{IsCycle, IsUndone, next_of}
use Rattle.wait_graph.proofs.CycleLemmas.{IsUndone-walk}
use Rattle.wait_graph.proofs.FoundLemmas.{IsFound-from, IsRoundOf, IsRoundOf-found, stuck_cycle-round, IsCycle-round}
use Rattle.wait_graph.proofs.walk.find_cycle.Goals as goal

pub turned_edges-requires-clause-undone : goal.turned_edges-requires-clause-undone
turned_edges-requires-clause-undone c =
    let links = c.args.links.now in
    let tasks = c.deref.result.now in
    let m = c.in_ok-walk.walk.again in
    let walked = c.deref.ensures.value ∙ c.in_ok-walk.ensures.tasks in
    All-same (IsUndone links) (take (length tasks - m) (drop m tasks)) (drop m tasks) (take_rest tasks m)
    (All-drop (IsUndone links) m tasks
    (All-same (IsUndone links) tasks _ walked
    (IsUndone-walk links c.args.held.now _ c.lowest_undone.result c.requires.ordered c.requires.held_up c.lowest_undone.ensures.undone)))

-- the tasks that the edges are made of are the round that was found
found : (c : goal.After-drop-walk) → IsRoundOf (next_of c.args.links.now c.args.held.now) c.lowest_undone.result c.in_ok-walk.walk.again (length c.args.links.now) (take (length c.deref.result.now - c.in_ok-walk.walk.again) (drop c.in_ok-walk.walk.again c.deref.result.now))
found c =
    let next = next_of c.args.links.now c.args.held.now in
    let tasks = c.deref.result.now in
    let m = c.in_ok-walk.walk.again in
    let size = length c.args.links.now in
    let e = c.in_ok-walk.ensures in
    let f = IsFound-from next c.lowest_undone.result m size _ tasks c.deref.ensures.len (c.deref.ensures.value ∙ e.tasks) e.again e.within in
    subst (λ (ts : List ℕ). IsRoundOf next c.lowest_undone.result m size ts) (sym (take_rest tasks m)) (IsRoundOf-found next c.lowest_undone.result m size tasks f)

pub returns-clause-exact : goal.returns-clause-exact
returns-clause-exact c =
    let links = c.args.links.now in
    let held = c.args.held.now in
    let m = c.in_ok-walk.walk.again in
    let round = take (length c.deref.result.now - m) (drop m c.deref.result.now) in
    let r = subst (λ (s : ℕ). IsRoundOf (next_of links held) s m (length links) round) c.lowest_undone.ensures.value (found c) in
    IfOk-weaker c.turned_edges.result _ _ (λ edges e. e ∙ stuck_cycle-round links held m round r) c.turned_edges.ensures

pub returns-clause-cycle : goal.returns-clause-cycle
returns-clause-cycle c =
    let links = c.args.links.now in
    let held = c.args.held.now in
    let m = c.in_ok-walk.walk.again in
    let round = take (length c.deref.result.now - m) (drop m c.deref.result.now) in
    let cycle = IsCycle-round links held c.lowest_undone.result m (length links) round c.requires.ordered c.requires.held_up c.lowest_undone.ensures.undone (found c) in
    IfOk-weaker c.turned_edges.result _ _ (λ edges e. subst (λ (es : List Edge). IsCycle links held es) (sym e) cycle) c.turned_edges.ensures
