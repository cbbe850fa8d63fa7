-- The stand has only followed waits, as its looks say, and they led from the first task, and from those that were known to wait for it, to the one that
-- was reached. The records that were passed over are at ease, or their tasks lead to that one too. The only stand knows that the first one waits for the one that was reached, or that its waits lead elsewhere.
use Rattle.std.proofs.Common.{◌≡◌, ◌≢◌, ◌⊎◌, ◌≤◌, ◌<◌, ◌-◌, ◌++◌, ℕ, List}
use Rattle.wait_graph.specs.Waiting.{WaitsOn}
use Rattle.machine_state.specs.declared.state.State.{State}
use Rattle.floor_laws.specs.table.Alone.{IsAloneAt}
use Rattle.floor_laws.specs.admission.admission_core.States.{IsAmong}
use Rattle.floor_laws.specs.declared.table.nodes.view.Look.{Look}
use Rattle.floor_laws.specs.table.nodes.Chains.{CameTo}
use Rattle.tree_admit.specs.Alone.{HasOnlyTurnOf, LeadsElsewhere}
use Rattle.floor_laws.specs.rule.nodes.FactSteps.{IsKnownToWait}
use Rattle.tree_admit.specs.Going.{HasOnlyFollowed}
use Rattle.tree_admit.specs.Passing.{EachBetween}
use Rattle.tree_admit.proofs.PassedOver.{PassesOrLeads}
use Rattle.tree_admit.proofs.chains.follow_past.Given as goal

abbrev pub invariant-loop-at : goal.invariant-loop-at
invariant-loop-at g l = record {
  chain : l.from < g.N.Named.lim.tasks
      → (looks : List Look) × (l.stand.me.0.looks ≡ looks ++ l.fn.stand.me.0.looks) × CameTo l.from l.at looks × (l.at < g.N.Named.lim.tasks);
  other : l.at ≢ l.to;
  alone : (st : State) → IsAloneAt g.N.Named.prog g.N.Named.lim l.fn.stand.me.0.floor st → HasOnlyTurnOf l.fn.stand.me.0.floor l.to
      → WaitsOn st.links l.from l.at ⊎ LeadsElsewhere st.links l.from l.to;
  led : IsKnownToWait l.stand.me.0.waits l.from l.at;
  further : (s : ℕ) → IsAmong (record { waiter = s; awaited = l.from }) l.fn.stand.me.0.waits → IsKnownToWait l.stand.me.0.waits s l.at;
  fewer : l.rest ≤ l.left;
  passed : EachBetween (PassesOrLeads l.stand.me.0 l.to l.effect l.at) l.content l.rest l.left;
  only : HasOnlyFollowed l.fn.stand.me l.stand.me;
  here : l.stand.table_id ≡ l.fn.stand.table_id;
  id : l.stand.id ≡ l.fn.stand.id;
}

abbrev pub decreases-loop-at : goal.decreases-loop-at
decreases-loop-at g l = l.tasks - l.at
