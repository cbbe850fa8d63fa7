-- Storing a phase, on a table with nodes.
use Rattle.std.proofs.Common.{◌≡◌, ◌≢◌, ◌<◌, ℕ, List, Option, Some, refl, sym, ap, ◌∙◌, arith}
use mathlib.Core.Option as core
use lib.ListN.{get_elem?}
use Rattle.atomic_table.specs.Table.{Allows, step}
use Rattle.region_paths.specs.declared.elements.Elem.{Elem}
use Rattle.twe_base.specs.Limits.{Bounds}
use Rattle.twe_program.specs.Program.{Program}
use Rattle.floor_laws.specs.declared.rule.view.HeldTurn.{HeldTurn}
use Rattle.floor_laws.specs.declared.rule.view.Phase.{Phase}
use Rattle.floor_laws.specs.rule.Floors.{Floor, put}
use Rattle.floor_laws.specs.rule.Steps.{after_phase}
use Rattle.floor_laws.specs.declared.table.view.SeatKind.TheVariants.{Spent}
use Rattle.floor_laws.specs.declared.table.view.View.{View}
use Rattle.floor_laws.specs.table.FloorOf.{turn_in, turns_at, worker_at}
use Rattle.floor_laws.specs.table.Layout.{phase_place, word_of_phase}
use Rattle.floor_laws.specs.table.Plays.{StoresPhase}
use Rattle.floor_laws.specs.table.Tells.{MayStore, Seat, with_turn}
use Rattle.floor_laws.proofs.table.Calls.{put_phase}
use Rattle.floor_laws.proofs.table.Views.{seats_kept, seats_put}
use Rattle.floor_laws.proofs.rule.nodes.TurnEvents.{floor_same, phase_stored}
use Rattle.floor_laws.specs.declared.table.nodes.slot.TreeSlot.{TreeSlot}
use Rattle.floor_laws.specs.declared.table.nodes.view.TreeView.{TreeView}
use Rattle.floor_laws.specs.table.nodes.FloorSeats.{HasTaskSlots, StoresTreePhase, floor_seat, tasks_out}
use Rattle.floor_laws.specs.table.nodes.Holds.{TreeKeeps}
use Rattle.floor_laws.specs.table.nodes.Layout.{tree_slot_count}
use Rattle.floor_laws.specs.table.nodes.TreeOf.{TreeTable, floor_shown}
use Rattle.floor_laws.proofs.table.nodes.FloorCalls.{lift_allowed}
use Rattle.floor_laws.proofs.table.nodes.FloorSteps.{KeepsBeside, at_floor, fs, log, tree, viewed}

module _ (nodes : List (List Elem)) (p : Program) (lim : Bounds) (id : ℕ) (v : TreeView) (mine : List (ℕ × TreeSlot)) (has : HasTaskSlots lim.tasks mine) where
  abbrev out : Seat
  out = floor_seat (v, mine)

  module _ (s : TreeTable) (kept : TreeKeeps nodes p lim s) (at : get_elem? s.views id ≡ core.some v) where
    abbrev f : Floor
    f = floor_shown p lim s

    here : get_elem? (fs nodes p lim s kept id v at).views id ≡ core.some v.floor
    here = at_floor nodes p lim s kept id v at

    -- the turns that the seats have once this one has that of task t so
    pub held_put : (t : ℕ) (turn : Option HeldTurn) (w : View) → turn_in w.turns ≡ turn_in (with_turn v.floor t turn).turns → (viewed nodes p lim s kept id v at w).held ≡ put f.held id (put (f.held id) t turn)
    held_put t turn w turns =
        seats_put turns_at (fs nodes p lim s kept id v at).views id v.floor w here (put (f.held id) t turn) (turns ∙ ap (λ (o : core.Option View). put (turns_at o) t turn) (sym here))

    pub worker_kept : (w : View) → w.worker ≡ v.floor.worker → (viewed nodes p lim s kept id v at w).workers ≡ f.workers
    worker_kept w worker = seats_kept worker_at (fs nodes p lim s kept id v at).views id v.floor w here worker

    phase_beside : (t : ℕ) (turn : HeldTurn) (phase : Phase) (w : View) → turn_in v.floor.turns t ≡ Some turn
        → turn_in w.turns ≡ turn_in (with_turn v.floor t (Some (record turn { phase = phase }))).turns → w.worker ≡ v.floor.worker → KeepsBeside nodes p lim s kept id v at w
    phase_beside t turn phase w is turns worker =
        let holds : f.held id t ≡ Some turn = ap (λ (o : core.Option View). turns_at o t) here ∙ is in
        let after = phase_stored nodes p lim (log nodes p lim s kept id v at) f (tree nodes p lim s kept id v at) kept.core kept.both.nodes_keep id t turn phase holds in (
          kept.core,
          floor_same nodes p lim (log nodes p lim s kept id v at) (after_phase f id t turn phase) (tree nodes p lim s kept id v at) kept.core after (viewed nodes p lim s kept id v at w)
              (held_put t (Some (record turn { phase = phase })) w turns) (worker_kept w worker),
        )

  pub store_phase : (t : ℕ) (turn : HeldTurn) (phase : Phase) → v.floor.kind ≢ Spent → t < lim.tasks → MayStore out t turn phase
      → Allows (TreeKeeps nodes p lim) (tree_slot_count nodes lim) id (v, mine) (phase_place p t) (λ n. word_of_phase phase)
      (λ n. StoresTreePhase p lim (step (tree_slot_count nodes lim) (phase_place p t) (word_of_phase phase) 0 core.none) (v, mine) (word_of_phase phase))
  store_phase t turn phase live below may =
      lift_allowed nodes p lim id v mine has (tree_slot_count nodes lim) (phase_place p t) (λ n. word_of_phase phase)
      (λ n. StoresPhase p (step lim.tasks (phase_place p t) (word_of_phase phase) 0 core.none) out (word_of_phase phase)) (omega (arith, below)) (λ same. omega (arith, same))
      (put_phase p lim id t v.floor (tasks_out mine) turn phase live below may)
      (λ n me tell. ap (λ (x : Seat). x.0.part) (tell t turn phase refl refl may))
      (λ s kept at me tell.
      let stored = tell t turn phase refl refl may in
      phase_beside s kept at t turn phase me.0 may.has (ap (λ (x : Seat). turn_in x.0.turns) stored) (ap (λ (x : Seat). x.0.worker) stored))
