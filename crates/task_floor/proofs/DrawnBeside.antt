-- An entry that was drawn beside the nodes: what the seat knows then, and what it may do with the task that was made.
use Rattle.std.proofs.Common.{◌≡◌, ◌≢◌, ◌+◌, ◌<◌, ℕ, List, Option, None, Some, map, refl, sym, ap, ◌∙◌}
use Rattle.std.specs.Prelude.{option_map}
use Rattle.std.specs.Option.{ForSome}
use Rattle.twe_base.specs.Limits.{Bounds}
use Rattle.twe_program.specs.Program.{Program}
use Rattle.seg_meaning.specs.declared.stop.Stop.{Stop}
use Rattle.machine_state.specs.declared.state.TaskRow.{TaskRow}
use Rattle.floor_laws.specs.declared.rule.view.HeldTurn.{HeldTurn}
use Rattle.floor_laws.specs.declared.rule.view.TaskSlot.{TaskSlot}
use Rattle.floor_laws.specs.rule.Rows.{slot_of}
use Rattle.floor_laws.specs.declared.table.view.SeatKind.TheVariants.{Spent}
use Rattle.floor_laws.specs.declared.table.view.View.{View}
use Rattle.floor_laws.specs.table.FloorOf.{turn_in}
use Rattle.floor_laws.specs.table.Layout.{asked_of_clock}
use Rattle.floor_laws.specs.table.Tells.{DrewOne, Seat, drawn_seat, drawn_view}
use Rattle.task_floor.specs.steps.Committing.{child_row}
use Rattle.task_floor.specs.steps.inner.Bringing.{MayBring, seat_with}
use Rattle.task_floor.proofs.steps.CommittedEntries.{drawn_is, drawn_kind, may_bring}
use Rattle.floor_laws.specs.declared.table.nodes.slot.TreeSlot.{TreeSlot}
use Rattle.floor_laws.specs.declared.table.nodes.view.TreeView.{TreeView}
use Rattle.floor_laws.specs.table.nodes.EntrySeats.{DrewTreeEntry}
use Rattle.floor_laws.specs.table.nodes.FloorSeats.{HasTaskSlots, TellsFloor, as_slot, floor_seat, tasks_out}
use Rattle.floor_laws.specs.table.nodes.Seats.{TreeSeat}
use Rattle.floor_laws.proofs.table.nodes.Lifts.{out_again}
use Rattle.task_floor.specs.Committing.{MayCommitBeside, made_in, with_first, with_made}
use Rattle.task_floor.specs.inner.Bringing.{MayBringBeside, tree_seat_with}
use Rattle.task_floor.proofs.Told.{floor_after, told}

-- the seat whose floor's seat is this one, and which holds no node
abbrev lifted_seat : TreeView → Seat → TreeSeat
lifted_seat v me = (record v { floor = me.0 }, map as_slot me.1)

-- A seat of which a step told the floor's seat alone.
told_whole : (tells : ℕ → Seat → Type 0) (before : TreeSeat) (found : ℕ) (after : TreeSeat) → TellsFloor tells before found after
    → after ≡ lifted_seat before.0 (floor_seat after)
told_whole tells before found after (me, tell, is) = is ∙ ap (lifted_seat before.0) (sym (floor_after before me after is))

lifted_with : (v : TreeView) (w : View) (mine : List (ℕ × TreeSlot)) (n child : ℕ) (row : Option TaskRow) → HasTaskSlots n mine
    → lifted_seat v (seat_with (w, tasks_out mine) child row) ≡ tree_seat_with (record v { floor = w }, mine) child row
lifted_with v w mine n child None has = ap (λ (l : List (ℕ × TreeSlot)). (record v { floor = w }, l)) (sym (out_again n mine has))
lifted_with v w mine n child (Some row) has = ap (λ (l : List (ℕ × TreeSlot)). with_first (record v { floor = w }, l) child row) (sym (out_again n mine has))

module _ (p : Program) (lim : Bounds) (me mid : TreeSeat) (clock t : ℕ) (turn : HeldTurn) (slot : TaskSlot) (stop : Stop) (may : MayCommitBeside p me t slot stop turn) (has : HasTaskSlots lim.tasks me.1)
    (drew : DrewTreeEntry p lim me clock mid) where
  abbrev pub drawn : TreeSeat
  drawn = (record me.0 { floor = drawn_view lim clock me.0.floor t turn slot.frame stop }, me.1)

  abbrev pub row : Option TaskRow
  row = child_row lim (asked_of_clock clock) t stop

  told_entry : DrewOne p lim (floor_seat me) clock (floor_seat mid)
  told_entry = told (DrewOne p lim (floor_seat me)) me clock mid drew.0

  pub drew_floor : floor_seat mid ≡ drawn_seat lim clock (floor_seat me) t turn slot.frame stop
  drew_floor = told_entry.0 t turn slot.frame stop may.floor.latest may.floor.may

  pub had_none_next : asked_of_clock clock + 1 < lim.tasks → turn_in me.0.floor.turns (asked_of_clock clock + 1) ≡ None
  had_none_next = told_entry.1

  mid_is : mid ≡ tree_seat_with drawn (asked_of_clock clock + 1) row
  mid_is =
      told_whole (DrewOne p lim (floor_seat me)) me clock mid drew.0
      ∙ (ap (lifted_seat me.0) (drew_floor ∙ drawn_is lim clock (floor_seat me) t turn slot.frame stop)
      ∙ lifted_with me.0 (drawn_view lim clock me.0.floor t turn slot.frame stop) me.1 lim.tasks (asked_of_clock clock + 1) row has)

  pub drawn_live : me.0.floor.kind ≢ Spent → mid.0.floor.kind ≢ Spent
  drawn_live live spent = live (sym (ap (λ (m : Seat). m.0.kind) drew_floor ∙ drawn_kind lim clock (floor_seat me) t turn slot.frame stop) ∙ spent)

  module _ (held : Option TaskSlot) (holds : held ≡ option_map slot_of row) where
    floor_brings : MayBring lim (floor_seat mid) (asked_of_clock clock + 1) held (drawn_view lim clock (floor_seat me).0 t turn slot.frame stop, (floor_seat me).1) row
    floor_brings = may_bring lim (floor_seat me) (floor_seat mid) clock t turn slot.frame stop held drew_floor holds

    pub may_bring_beside : MayBringBeside lim mid (asked_of_clock clock + 1) held drawn row
    may_bring_beside = record {
      is = mid_is;
      slots = has;
      closed = refl;
      slot_is = holds;
      below = floor_brings.below;
      new = floor_brings.new;
      unplaced = λ made is. drew.1 (floor_brings.below made is);
    }

    pub child_is_below : ForSome row (λ _. asked_of_clock clock + 1 < lim.tasks)
    child_is_below = floor_brings.below

-- The slots that are out once the task was made.
made_slots : (n : ℕ) (me : TreeSeat) (child : ℕ) (made : TaskRow) (parent : Option ℕ) → child < n → HasTaskSlots n me.1 → HasTaskSlots n (made_in parent me child made).1
made_slots n me child made None below has = has
made_slots n me child made (Some parent) below has = (below, has)

pub with_made_slots : (n : ℕ) (me : TreeSeat) (child : ℕ) (made : Option TaskRow) → ForSome made (λ _. child < n) → HasTaskSlots n me.1 → HasTaskSlots n (with_made me child made).1
with_made_slots n me child None below has = has
with_made_slots n me child (Some made) below has = made_slots n me child made made.parent (below made refl) has
