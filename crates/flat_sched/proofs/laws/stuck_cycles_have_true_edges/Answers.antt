use Rattle.std.proofs.Common.{List, subst, sym}
use Rattle.wait_graph.specs.declared.stuck.Edge.{Edge}
use Rattle.wait_graph.specs.StuckCycle.{IsCycle}
use Rattle.flat_sched.proofs.HeldUp.{all_held_up, some_undone}
use Rattle.flat_sched.proofs.Holders.{edge_reasons}
use Rattle.flat_sched.proofs.Sound.{no_fault}
use Rattle.flat_sched.proofs.laws.stuck_cycles_have_true_edges.Goals as goal

pub returns : goal.returns
returns c p lim st cycle well within reached stuck is =
    let agree = c.links_agree.ensures p st (lim, reached) in
    let ordered = c.links_are_in_order.ensures p lim st well within reached in
    let undone = some_undone st agree stuck.1 in
    let held_up = all_held_up st is.held agree is.holders stuck.2 (no_fault p st well (lim, reached) stuck.0) in
    let round = subst (λ (edges : List Edge). IsCycle st.links is.held edges) (sym is.same) (c.a_stuck_cycle_goes_round.ensures st.links is.held undone.0 ordered held_up undone.1) in
    record {
      some = round.some;
      true_edges = edge_reasons st is.held cycle is.holders round.true_edges;
      closed = round.closed;
      once = round.once;
      begins_lowest = round.begins_lowest;
    }
