-- A step of the floor that draws an entry and changes nothing of the nodes keeps their rule, with the log that has the entry.
use Rattle.std.proofs.Common.{◌≡◌, ◌++◌, ℕ, List, [], ◌∷◌, length, Option, refl, sym, ap, subst, ◌∙◌}
use mathlib.Core.Option as core
use lib.ListN.{get_elem?}
use Rattle.atomic_table.specs.Table.{Act, stepped}
use Rattle.region_paths.specs.declared.elements.Elem.{Elem}
use Rattle.twe_base.specs.Limits.{Bounds}
use Rattle.twe_program.specs.Program.{Program}
use Rattle.machine_state.specs.Runs.{Legal}
use Rattle.seg_journal.specs.declared.numbered.NumberedEntry.{NumberedEntry}
use Rattle.seg_journal.specs.Merging.{journal_of}
use Rattle.floor_laws.specs.declared.rule.view.TaskSlot.{TaskSlot}
use Rattle.floor_laws.specs.rule.Floors.{Floor}
use Rattle.floor_laws.specs.rule.Rule.{LiesInParts}
use Rattle.floor_laws.specs.declared.table.view.View.{View}
use Rattle.floor_laws.specs.table.Holds.{TableKeeps}
use Rattle.floor_laws.specs.table.Layout.{clock_place}
use Rattle.floor_laws.specs.admission.admission_core.States.{State}
use Rattle.floor_laws.specs.rule.nodes.Rule.{KeepsNodes}
use Rattle.floor_laws.specs.rule.nodes.Trees.{Tree}
use Rattle.floor_laws.proofs.rule.nodes.TurnEvents.{floor_same}
use Rattle.floor_laws.specs.declared.table.nodes.view.TreeView.{TreeView}
use Rattle.floor_laws.specs.table.nodes.Holds.{TreeKeeps}
use Rattle.floor_laws.specs.table.nodes.TreeOf.{TreeTable, floor_part, tree_of}
use Rattle.floor_laws.proofs.table.nodes.FloorSteps.{GoesOn, StepsBeside, log, unseated, viewed}
use Rattle.floor_laws.proofs.table.nodes.Onward.{waits_go_on}
use Rattle.floor_laws.proofs.table.nodes.SameParts.{same_parts}

module _ (nodes : List (List Elem)) (p : Program) (lim : Bounds) (s : TreeTable) (kept : TreeKeeps nodes p lim s) (id : ℕ) (v : TreeView)
    (at : get_elem? s.views id ≡ core.some v) where
  -- the floor has the parts, turns and workers of one beside which the nodes keep their rule with this log
  pub grows_beside : (x : ℕ) (mine : List (ℕ × Option TaskSlot)) (w : View) (a : Act (Option TaskSlot))
      → TableKeeps p lim (stepped (floor_part p lim s) clock_place x id mine w a)
      → (more : List NumberedEntry) (new : NumberedEntry) → more ≡ log nodes p lim s kept id v at ++ new ∷ [] → (g : Floor) (core_after : State) → LiesInParts more g.parts
      → KeepsNodes nodes p lim more g (tree_of p lim s) core_after → (viewed nodes p lim s kept id v at w).parts ≡ g.parts
      → (viewed nodes p lim s kept id v at w).held ≡ g.held → (viewed nodes p lim s kept id v at w).workers ≡ g.workers
      → StepsBeside nodes p lim s kept id v at clock_place x (record v { floor = w })
  grows_beside x mine w a keep more new longer g core_after lies nodes_keep parts held workers =
      let then_floor : Floor = viewed nodes p lim s kept id v at w in
      let lies_then : LiesInParts more then_floor.parts = subst (LiesInParts more) (sym parts) lies in
      let same : keep.log ≡ more = same_parts keep.log more then_floor.parts keep.rule.parts lies_then in (
        more,
        (keep.rule.entries ∙ ap length same, lies_then.entries),
        core_after,
        subst (λ (t : Tree). KeepsNodes nodes p lim more then_floor t core_after) (sym (unseated nodes p lim s kept id v at w))
            (floor_same nodes p lim more g (tree_of p lim s) core_after nodes_keep then_floor held workers),
        subst (GoesOn nodes p lim s kept id v at) (sym longer)
            (waits_go_on p lim kept.floor.well (log nodes p lim s kept id v at) new (subst (λ (l : List NumberedEntry). Legal p lim (journal_of l)) (same ∙ longer) keep.rule.legal)),
        refl,
      )
