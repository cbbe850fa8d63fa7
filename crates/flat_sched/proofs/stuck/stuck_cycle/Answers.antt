use Rattle.std.proofs.Common.{◌≡◌, List, Option, ℕ, ap, sym, subst, length, arith}
use Rattle.std.specs.List.{All}
use Rattle.twe_program.specs.WellFormed.{IsWellFormed}
use Rattle.std.proofs.lemmas.Result.{IfOk-weaker}
use Rattle.wait_graph.specs.declared.stuck.Edge.{Edge}
use Rattle.wait_graph.specs.StuckCycle.{AllAreHeldUp, IsTrueEdge}
use Rattle.flat_sched.specs.Stuck.{IsReason}
use Rattle.flat_sched.proofs.HeldUp.{all_held_up, linked, some_undone}
use Rattle.flat_sched.proofs.Holders.{edge_reasons}
use Rattle.flat_sched.proofs.Sound.{no_fault}
use Rattle.flat_sched.proofs.stuck.stuck_cycle.Goals as goal

-- there are as many holders as links
pub find_cycle-requires-clause-holders : goal.find_cycle-requires-clause-holders
find_cycle-requires-clause-holders c =
    let st = c.args.st.now in
    let agree = c.links_agree.ensures c.args.p.now st c.requires.reachable in
    let same : length c.deref.result.now ≡ length c.in_ok-held.held.items = ap length c.deref.ensures.value in
    let count : length c.in_ok-held.held.items ≡ length st.tasks = c.in_ok-held.ensures.count in
    omega (arith, same, count, linked st agree)

-- some task isn't done
pub find_cycle-requires-clause-some_undone : goal.find_cycle-requires-clause-some_undone
find_cycle-requires-clause-some_undone c =
    let st = c.args.st.now in
    some_undone st (c.links_agree.ensures c.args.p.now st c.requires.reachable) c.requires.stuck.1

-- and each such task is held up
pub find_cycle-requires-clause-all_held_up : goal.find_cycle-requires-clause-all_held_up
find_cycle-requires-clause-all_held_up c =
    let st = c.args.st.now in
    let agree = c.links_agree.ensures c.args.p.now st c.requires.reachable in
    let well = no_fault c.args.p.now st (subst IsWellFormed c.p.view_is c.p.invariant) c.requires.reachable c.requires.stuck.0 in
    subst (λ (held : List (Option ℕ)). AllAreHeldUp st.links held) (sym c.deref.ensures.value)
    (all_held_up st c.in_ok-held.held.items agree c.in_ok-held.ensures c.requires.stuck.2 well)

-- an edge to a holder leads to the lowest bar
pub returns-clause-true_edges : goal.returns-clause-true_edges
returns-clause-true_edges c =
    let st = c.args.st.now in
    IfOk-weaker c.find_cycle.result (λ (cycle : List Edge). All (IsTrueEdge st.links c.deref.result.now) cycle) (λ (cycle : List Edge). All (IsReason st) cycle)
    (λ cycle edges. edge_reasons st c.in_ok-held.held.items cycle c.in_ok-held.ensures (subst (λ (held : List (Option ℕ)). All (IsTrueEdge st.links held) cycle) c.deref.ensures.value edges))
    c.find_cycle.ensures.true_edges
