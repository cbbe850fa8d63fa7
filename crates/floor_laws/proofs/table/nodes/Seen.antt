-- What a seat needs by its view holds of the nodes that the table shows.
use Rattle.std.proofs.Common.{◌≡◌, ℕ, List, map, sym, ap, subst, ◌∙◌}
use mathlib.Core.Option as core
use lib.ListN.{get_elem?}
use Rattle.atomic_table.proofs.Lists.{at_map}
use Rattle.region_paths.specs.declared.elements.Elem.{Elem}
use Rattle.effect_sets.specs.declared.effects.Effect.{Effect}
use Rattle.twe_base.specs.Limits.{Bounds}
use Rattle.twe_program.specs.Program.{Program}
use Rattle.floor_laws.specs.rule.Floors.{Floor}
use Rattle.floor_laws.specs.declared.table.view.View.{View}
use Rattle.floor_laws.specs.table.FloorOf.{turn_in, turns_at, worker_at}
use Rattle.floor_laws.specs.admission.admission_core.States.{Activity, Admit, Child, Purpose, Record, Remove, Stage}
use Rattle.floor_laws.specs.rule.nodes.LockSteps.{MayEnter, MayGiveParent, MayGoDown, MaySetOut, MayWalkDown, MayWalkUp, PassesHere, SeesPass}
use Rattle.floor_laws.specs.rule.nodes.Trees.{Tree, WaitFact}
use Rattle.floor_laws.specs.declared.table.nodes.view.TreeView.{TreeView}
use Rattle.floor_laws.specs.table.nodes.Seats.{tree_seen, turns_seen}
use Rattle.floor_laws.specs.table.nodes.TreeOf.{TreeTable, activity_at, clear_at, content_in, floor_shown, floor_view, fresh_at, kept_at, tree_of, waits_at}

module _ (nodes : List (List Elem)) (p : Program) (lim : Bounds) (s : TreeTable) (id : ℕ) (v : TreeView) (at : get_elem? s.views id ≡ core.some v) where
  abbrev tree : Tree
  tree = tree_of p lim s

  abbrev f : Floor
  f = floor_shown p lim s

  floor_is_at : get_elem? (map floor_view s.views) id ≡ core.some v.floor
  floor_is_at = at_map floor_view s.views id v at

  pub held_id : (t : ℕ) → f.held id t ≡ turn_in v.floor.turns t
  held_id t = ap (λ (o : core.Option View). turns_at o t) floor_is_at

  pub worker_id : f.workers id ≡ v.floor.worker
  worker_id = ap worker_at floor_is_at

  pub activity_id : tree.activities id ≡ v.activity
  activity_id = ap activity_at at

  pub kept_id : tree.kept id ≡ content_in v.kept
  kept_id = ap kept_at at

  pub kept_node : (n : ℕ) → tree.kept id n ≡ content_in v.kept n
  kept_node n = ap (λ (o : core.Option TreeView). kept_at o n) at

  pub waits_id : tree.waits id ≡ v.waits
  waits_id = ap waits_at at

  pub fresh_id : tree.fresh id ≡ v.fresh
  fresh_id = ap fresh_at at

  pub clear_id : tree.clear id ≡ v.clear
  clear_id = ap clear_at at

  set_out : (purpose : Purpose) → MaySetOut (turns_seen v) 0 purpose → MaySetOut f.held id purpose
  set_out (Admit t e) may = record { turn = may.turn; has = held_id t ∙ may.has; taken = may.taken; made = may.made; effect = may.effect }
  set_out (Child t e) may = tt
  set_out (Remove t e) may = tt

  pub passes : (purpose : Purpose) (r : Record) → PassesHere v.waits purpose r → PassesHere (tree.waits id) purpose r
  passes purpose r = subst (λ (waits : List WaitFact). PassesHere waits purpose r) (sym waits_id)

  sees : (purpose : Purpose) (n : ℕ) → SeesPass (tree_seen v) 0 purpose n → SeesPass tree id purpose n
  sees purpose n may = record { records = may.records; has = kept_node n ∙ may.has; pass = λ r among. passes purpose r (may.pass r among) }

  pub enter_seen : (a : Activity) → MayEnter nodes (turns_seen v) (tree_seen v) 0 a → MayEnter nodes f.held tree id a
  enter_seen a may = record { idle = activity_id ∙ may.idle; purpose = set_out a.purpose may.purpose; place = may.place; stage = may.stage }

  pub down_seen : (a : Activity) (n c : ℕ) → MayGoDown nodes (tree_seen v) 0 a n c → MayGoDown nodes tree id a n c
  down_seen a n c may = record { active = activity_id ∙ may.active; stage = may.stage; child = may.child; way = may.way; pass = sees a.purpose n may.pass }

  pub walk_seen : (a : Activity) (t : ℕ) (e : Effect) (n c : ℕ) (stack done : List ℕ) → MayWalkDown nodes (tree_seen v) 0 a t e n c stack done → MayWalkDown nodes tree id a t e n c stack done
  walk_seen a t e n c stack done may = record {
    active = activity_id ∙ may.active;
    purpose = may.purpose;
    stage = may.stage;
    wild = may.wild;
    child = may.child;
    unfinished = may.unfinished;
    pass = sees a.purpose n may.pass;
  }

  pub parent_seen : (a : Activity) (n c : ℕ) (stage : Stage) → MayGiveParent (tree_seen v) 0 a n c stage → MayGiveParent tree id a n c stage
  parent_seen a n c stage may = record { active = activity_id ∙ may.active; at = may.at; come = may.come }

  pub up_seen : (a : Activity) (c n : ℕ) (stack done : List ℕ) → MayWalkUp nodes (tree_seen v) 0 a c n stack done → MayWalkUp nodes tree id a c n stack done
  up_seen a c n stack done may = record { active = activity_id ∙ may.active; stage = may.stage; pass = sees a.purpose c may.pass; below = may.below }
