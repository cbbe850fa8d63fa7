-- A turn that was taken beside the nodes, and one that is given.
use Rattle.std.proofs.Common.{◌≡◌, ◌≢◌, ℕ, List, [], ◌∷◌, Option, None, Some, sym, ap, subst, ◌∙◌, ⊎_elim}
use Rattle.atomic_table.specs.Table.{rest}
use Rattle.region_paths.specs.declared.elements.Elem.{Elem}
use Rattle.floor_laws.specs.declared.rule.view.HeldTurn.{HeldTurn}
use Rattle.floor_laws.specs.declared.rule.view.TaskSlot.{TaskSlot}
use Rattle.floor_laws.specs.rule.Rows.{slot_of}
use Rattle.floor_laws.specs.declared.table.view.View.{View}
use Rattle.floor_laws.specs.table.Layout.{free_word}
use Rattle.task_floor.proofs.steps.LeavingTurns.{may_give}
use Rattle.floor_laws.specs.rule.nodes.Taking.{clear_after_taking}
use Rattle.floor_laws.specs.declared.table.nodes.slot.TreeSlot.{TreeSlot}
use Rattle.floor_laws.specs.declared.table.nodes.slot.TreeSlot.TheVariants as kinds
use Rattle.floor_laws.specs.declared.table.nodes.view.TreeView.{TreeView}
use Rattle.floor_laws.specs.table.nodes.FloorSeats.{HasTaskSlots, floor_seat, tasks_out}
use Rattle.floor_laws.specs.declared.table.nodes.view.Look.TheVariants.{AtTurn}
use Rattle.floor_laws.specs.table.nodes.Looks.{looked_seat}
use Rattle.floor_laws.specs.table.nodes.Seats.{TreeSeat}
use Rattle.floor_laws.specs.table.nodes.TurnSeats.{MayGiveTreeTurn, MayLeaveTask, TookTreeTurn, TriedTreeTurn}
use Rattle.task_floor.specs.Turns.{HasTakenTask, MayGiveTask}

pub took_of : (nodes : List (List Elem)) (me after : TreeSeat) (t found : ℕ) → found ≡ free_word → TriedTreeTurn nodes me t found after → TookTreeTurn nodes me t after
took_of nodes me after t found free tried =
    ⊎_elim (λ (took : (found ≡ free_word) × TookTreeTurn nodes me t after). took.1) (λ (missed : (found ≢ free_word) × (after ≡ looked_seat me (AtTurn t found))). absurd (missed.0 free)) tried

abbrev slot_first : List (ℕ × TreeSlot) → TreeSlot
slot_first [] = kinds.Task None
slot_first (z ∷ zs) = z.1

abbrev held_in : TreeSlot → Option TaskSlot
held_in (kinds.Task held) = held
held_in (kinds.Node records) = None
held_in (kinds.Errand errand) = None

-- the slot that comes with the turn
pub out_first : (nodes : List (List Elem)) (me after : TreeSeat) (t : ℕ) (took : TookTreeTurn nodes me t after) → after.1 ≡ (t, kinds.Task (Some (slot_of took.turn.row))) ∷ rest after.1
out_first nodes me after t took =
    let out = ap (λ (m : TreeSeat). m.1) took.seat in
    out ∙ ap (λ (l : List (ℕ × TreeSlot)). (t, kinds.Task (Some (slot_of took.turn.row))) ∷ l) (sym (ap (λ (m : TreeSeat). rest m.1) took.seat))

pub home_is : (nodes : List (List Elem)) (me after : TreeSeat) (t : ℕ) (x : TreeSlot) (took : TookTreeTurn nodes me t after) → after.1 ≡ (t, x) ∷ rest after.1 → x ≡ kinds.Task (Some (slot_of took.turn.row))
home_is nodes me after t x took is = ap slot_first (sym is ∙ ap (λ (m : TreeSeat). m.1) took.seat)

-- what lay in it
pub held_is : (nodes : List (List Elem)) (me after : TreeSeat) (t : ℕ) (x : TreeSlot) (held : Option TaskSlot) (took : TookTreeTurn nodes me t after) → after.1 ≡ (t, x) ∷ rest after.1 → x ≡ kinds.Task held
    → held ≡ Some (slot_of took.turn.row)
held_is nodes me after t x held took is task = ap held_in (sym task ∙ home_is nodes me after t x took is)

pub has_taken_task : (nodes : List (List Elem)) (me mid after : TreeSeat) (t : ℕ) (slot : TaskSlot) (took : TookTreeTurn nodes me t mid) → slot ≡ slot_of took.turn.row
    → after ≡ (mid.0, (t, kinds.Task None) ∷ rest mid.1) → HasTakenTask nodes me after t slot
has_taken_task nodes me mid after t slot took is seat =
    let whole = seat ∙ ap (λ (m : TreeSeat). (m.0, (t, kinds.Task None) ∷ rest m.1)) took.seat in
    record {
      floor = record {
        had_none = took.had_none;
        turn = took.turn;
        taken = took.taken;
        phase = took.phase;
        value = took.value;
        is = is;
        seat = ap floor_seat whole;
      };
      fresh = took.fresh;
      children = took.children;
      view = ap (λ (m : TreeSeat). m.0) whole
          ∙ ap (λ (w : View). record me.0 { floor = w; clear = clear_after_taking nodes t took.turn.row.status took.turn.row.effects.effects me.0.clear }) (sym (ap (λ (m : TreeSeat). m.0.floor) whole));
      out = ap (λ (m : TreeSeat). m.1) whole;
    }

-- Giving: the slot is full, and the rest is as it was.
module _ (nodes : List (List Elem)) (me mid : TreeSeat) (t : ℕ) (slot : TaskSlot) (turn : HeldTurn) (others : List (ℕ × TreeSlot)) (may : MayGiveTask nodes me t slot turn others)
    (is : mid ≡ (me.0, (t, kinds.Task (Some slot)) ∷ rest me.1)) where
  rests : rest me.1 ≡ others
  rests = ap rest may.out

  full : mid ≡ (me.0, (t, kinds.Task (Some slot)) ∷ others)
  full = is ∙ ap (λ (l : List (ℕ × TreeSlot)). (me.0, (t, kinds.Task (Some slot)) ∷ l)) rests

  floor_full : floor_seat mid ≡ ((floor_seat me).0, (t, Some slot) ∷ rest (floor_seat me).1)
  floor_full = ap floor_seat full ∙ ap (λ (l : List (ℕ × Option TaskSlot)). ((floor_seat me).0, (t, Some slot) ∷ rest l)) (sym (ap tasks_out may.out))

  pub may_give_tree : MayGiveTreeTurn nodes mid t turn others
  may_give_tree = record {
    floor = may_give (floor_seat me) (floor_seat mid) t slot turn (tasks_out others) may.floor floor_full;
    slot = ap (λ (m : TreeSeat). m.1) full ∙ ap (λ (s : TaskSlot). (t, kinds.Task (Some s)) ∷ others) may.floor.is;
    leaves = subst (λ (v : TreeView). MayLeaveTask nodes v t turn) (sym (ap (λ (m : TreeSeat). m.0) full)) may.leaves;
  }

  pub has_full : (n : ℕ) → HasTaskSlots n me.1 → HasTaskSlots n mid.1
  has_full n has =
      let was : HasTaskSlots n ((t, kinds.Task None) ∷ others) = subst (HasTaskSlots n) may.out has in
      subst (λ (m : TreeSeat). HasTaskSlots n m.1) (sym full) was
