-- The first turn of a task that an entry made, beside the nodes.
use Rattle.std.proofs.Common.{◌≡◌, ◌<◌, ℕ, List, Option, None, Some, true, false, refl, sym, ap, subst, ◌∙◌}
use Rattle.std.specs.Prelude.{is_some}
use Rattle.region_paths.specs.declared.elements.Elem.{Elem}
use Rattle.twe_base.specs.Limits.{Bounds}
use Rattle.machine_state.specs.declared.state.TaskRow.{TaskRow}
use Rattle.machine_state.specs.declared.state.TaskStatus.TheVariants as status
use Rattle.machine_state.specs.Moves.{status_at_start}
use Rattle.floor_laws.specs.declared.rule.view.TaskSlot.{TaskSlot}
use Rattle.floor_laws.specs.rule.Rows.{slot_of}
use Rattle.floor_laws.specs.rule.Steps.{first_turn}
use Rattle.floor_laws.proofs.rule.Puts.{none_some, put_here, some_one}
use Rattle.floor_laws.specs.table.FloorOf.{turn_in}
use Rattle.task_floor.specs.steps.Leaving.{MayLeave}
use Rattle.floor_laws.specs.rule.nodes.TurnSteps.{LeavesNone}
use Rattle.floor_laws.specs.declared.table.nodes.view.TreeView.{TreeView}
use Rattle.floor_laws.specs.table.nodes.FloorSeats.{HasTaskSlots, floor_seat, tasks_out}
use Rattle.floor_laws.specs.table.nodes.Seats.{TreeSeat, tree_seen}
use Rattle.floor_laws.specs.table.nodes.TurnSeats.{MayLeaveTask, given_tree_view, gives_first}
use Rattle.task_floor.specs.Committing.{left_to_place, made_in, spawned_slot, with_first, with_made}
use Rattle.task_floor.specs.Leaving.{HasLeftTask, MayGiveNew, stored_view}
use Rattle.task_floor.specs.inner.Bringing.{MayBringBeside}

true_false : false ≡ true → ⊥
true_false is = cc (is)

module _ (nodes : List (List Elem)) (lim : Bounds) (me : TreeSeat) (child : ℕ) (slot : TaskSlot) (drawn : TreeSeat) (row : TaskRow) (may : MayBringBeside lim me child (Some slot) drawn (Some row)) where
  slot_same : slot ≡ slot_of row
  slot_same = some_one may.slot_is

  parent_same : slot.parent ≡ row.parent
  parent_same = ap (λ (s : TaskSlot). s.parent) slot_same

  pub below_made : child < lim.tasks
  below_made = may.below row refl

  pub slots_made : HasTaskSlots lim.tasks me.1
  slots_made = subst (λ (m : TreeSeat). HasTaskSlots lim.tasks m.1) (sym may.is) (below_made, may.slots)

  floor_leaves : MayLeave (floor_seat me) child slot (first_turn row) (tasks_out drawn.1)
  floor_leaves =
      subst (λ (m : TreeSeat). MayLeave (floor_seat m) child slot (first_turn row) (tasks_out drawn.1)) (sym may.is)
      (record {
        has = put_here (turn_in drawn.0.floor.turns) child (Some (first_turn row));
        closed = λ s is. absurd (none_some (sym may.closed ∙ is));
        is = slot_same;
        out = refl;
      })

  -- The task was not spawned.
  module _ (none : slot.parent ≡ None) where
    no_parent : row.parent ≡ None
    no_parent = sym parent_same ∙ none

    made : row.status ≡ status.Made
    made = may.new row refl ∙ ap status_at_start no_parent

    abbrev v : TreeView
    v = (with_first drawn child row).0

    node_leaves : MayLeaveTask nodes v child (first_turn row)
    node_leaves =
        gives_first (record {
          has = put_here (turn_in drawn.0.floor.turns) child (Some (first_turn row));
          first = refl;
          placed = λ spawned. absurd (true_false (sym (ap is_some no_parent) ∙ spawned));
          leaves = subst (LeavesNone nodes (tree_seen v) 0 child row.effects.effects) (sym made) (may.unplaced row refl);
        })

    pub may_give_new : MayGiveNew nodes me child slot (first_turn row) drawn.1
    may_give_new = record {
      may = record {
        floor = floor_leaves;
        out = ap (λ (m : TreeSeat). m.1) may.is;
        leaves = subst (λ (m : TreeSeat). MayLeaveTask nodes m.0 child (first_turn row)) (sym may.is) node_leaves;
      };
      new = may.new row refl;
    }

    pub given_made : (after : TreeSeat) → HasLeftTask me child (first_turn row) drawn.1 after → after ≡ with_made drawn child (Some row)
    given_made after left =
        left
        ∙ (ap (λ (m : TreeSeat). (given_tree_view (stored_view m.0 child (first_turn row)) child (first_turn row), drawn.1)) may.is
        ∙ ap (λ (o : Option ℕ). made_in o drawn child row) (sym no_parent))

    pub none_to_place : None ≡ left_to_place (Some row)
    none_to_place = ap (λ (o : Option ℕ). spawned_slot o row) (sym no_parent)

  -- It was spawned.
  module _ (parent : ℕ) (some : slot.parent ≡ Some parent) where
    the_parent : row.parent ≡ Some parent
    the_parent = sym parent_same ∙ some

    pub kept_made : me ≡ with_made drawn child (Some row)
    kept_made = may.is ∙ ap (λ (o : Option ℕ). made_in o drawn child row) (sym the_parent)

    pub some_to_place : Some slot ≡ left_to_place (Some row)
    some_to_place = ap Some slot_same ∙ ap (λ (o : Option ℕ). spawned_slot o row) (sym the_parent)

-- No task was made, or one was.
pub brings_none : (lim : Bounds) (me : TreeSeat) (child : ℕ) (held : Option TaskSlot) (drawn : TreeSeat) (row : Option TaskRow) → held ≡ None → MayBringBeside lim me child held drawn row
    → (me ≡ with_made drawn child row) × (None ≡ left_to_place row)
brings_none lim me child held drawn None there may = (may.is, refl)
brings_none lim me child held drawn (Some now) there may = absurd (none_some (sym there ∙ may.slot_is))

pub record BringsOne (lim : Bounds) (me : TreeSeat) (child : ℕ) (slot : TaskSlot) (drawn : TreeSeat) (row : Option TaskRow) : Type 0 where
  pub now : TaskRow
  pub is : row ≡ Some now
  pub may : MayBringBeside lim me child (Some slot) drawn (Some now)

pub brings_one : (lim : Bounds) (me : TreeSeat) (child : ℕ) (held : Option TaskSlot) (slot : TaskSlot) (drawn : TreeSeat) (row : Option TaskRow) → held ≡ Some slot → MayBringBeside lim me child held drawn row
    → BringsOne lim me child slot drawn row
brings_one lim me child held slot drawn None there may = absurd (none_some (sym may.slot_is ∙ there))
brings_one lim me child held slot drawn (Some now) there may = record { now = now; is = refl; may = subst (λ (h : Option TaskSlot). MayBringBeside lim me child h drawn (Some now)) there may }
