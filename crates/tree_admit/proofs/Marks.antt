-- What a seat has once it has marked a record as placed or removed, or a node as clear.
use Rattle.std.proofs.Common.{◌≡◌, ◌≢◌, ◌⊎◌, ℕ, true, false, List, [], ◌∷◌, Some, refl, sym, ap, subst, ◌∙◌}
use Rattle.std.specs.Prelude.{Contains, is_some}
use Rattle.region_paths.specs.declared.elements.Elem.{Elem}
use Rattle.effect_sets.specs.declared.effects.Effect.{Effect}
use Rattle.effect_tree.specs.Place.{IsSolid}
use Rattle.twe_base.specs.Limits.{Bounds}
use Rattle.machine_state.specs.declared.state.TaskStatus.TheVariants as status
use Rattle.floor_laws.specs.declared.rule.view.HeldTurn.{HeldTurn}
use Rattle.floor_laws.specs.table.FloorOf.{turn_in}
use Rattle.floor_laws.specs.declared.table.view.View.{View}
use Rattle.floor_laws.specs.admission.admission_core.States.{Activity, Admit, Child, IsAmong, Record, Remove, Walks}
use Rattle.floor_laws.specs.admission.admission_core.Events.{AllFinishedOrApart}
use Rattle.floor_laws.specs.rule.nodes.FactSteps.{FindsClear}
use Rattle.floor_laws.specs.rule.nodes.LockSteps.{stopped}
use Rattle.floor_laws.specs.rule.nodes.RecordSteps.{IsWithout, not_clear, record_here}
use Rattle.floor_laws.specs.declared.table.nodes.slot.TreeSlot.{TreeSlot}
use Rattle.floor_laws.specs.declared.table.nodes.view.TreeView.{TreeView}
use Rattle.floor_laws.proofs.table.Added.{grown_by, grown_then}
use Rattle.floor_laws.specs.table.nodes.RecordSeats.{MayMark, MayUnmark, clear_view, marked_view, marks, marks_child, record_about, record_task, unmarked_view}
use Rattle.floor_laws.specs.table.nodes.Seats.{TreeSeat, tree_seen, turns_seen}
use Rattle.floor_laws.specs.table.nodes.Without.{without_record}
use Rattle.floor_laws.proofs.table.nodes.Withouts.{without_is}
use Rattle.tree_admit.specs.Going.{HasNode, HasOnlyLearned}
use Rattle.tree_admit.specs.Errands.{AllPass, with_clear, with_placed, with_removed}
use Rattle.tree_admit.proofs.Contents.{content_else, content_here}

-- a turn that was known is known
pub turn_known : (v w : TreeView) (t : ℕ) (turn : HeldTurn) → HasOnlyLearned v w → turn_in v.floor.turns t ≡ Some turn → turn_in w.floor.turns t ≡ Some turn
turn_known v w t turn h has = ap (λ (f : View). turn_in f.turns t) h.floor ∙ has

module _ (lim : Bounds) (earlier : TreeView) (rest : List (ℕ × TreeSlot)) (a : Activity) (content : List Record) (me : TreeSeat)
    (h : HasNode lim earlier rest a a.place content me) where
  -- Placing.
  module _ (nodes : List (List Elem)) (e : Effect) (done : List ℕ) (stage : a.stage ≡ Walks (a.place ∷ []) done) where
    pub may_place : (t : ℕ) → a.purpose ≡ Admit t e → ¬ IsAmong (record_here t e a) content → AllPass me.0.waits a.purpose content → IsSolid e.path ⊎ AllFinishedOrApart nodes e a.place done
        → MayMark nodes me.0 a content
    may_place t purpose missing pass below =
        marks t e done (record { active = h.active; purpose = purpose; stage = stage; has = h.known; missing = missing; pass = pass; below = below })

    pub may_place_child : (c : ℕ) (turn : HeldTurn) → a.purpose ≡ Child c e → ¬ IsAmong (record_here c e a) content → turn_in earlier.floor.turns c ≡ Some turn → turn.first ≡ true
        → is_some turn.row.parent ≡ true → Contains turn.row.effects.effects e → MayMark nodes me.0 a content
    may_place_child c turn purpose missing has first spawned effect =
        marks_child c e done
        (record {
          active = h.active;
          purpose = purpose;
          stage = stage;
          has = h.known;
          missing = missing;
          turn = turn;
          holds = turn_known earlier me.0 c turn h.learned has;
          first = first;
          spawned = spawned;
          effect = effect;
        })

  pub placed_has : (after : TreeSeat) → after ≡ (marked_view me.0 a content, me.1)
      → HasNode lim (with_placed (record_about a) earlier) rest (stopped a) a.place (record_about a ∷ content) after
  placed_has after is =
      let r = record_about a in
      subst (HasNode lim (with_placed r earlier) rest (stopped a) a.place (r ∷ content)) (sym is)
      (record {
        active = refl;
        known = content_here a.place (Some (r ∷ content)) me.0.kept;
        others = λ m other. content_else m a.place (Some (r ∷ content)) me.0.kept other ∙ h.others m other;
        slots = h.slots;
        learned = record {
          floor = h.learned.floor;
          done = h.learned.done;
          waits = h.learned.waits;
          placed = ap (λ (l : List Record). r ∷ l) h.learned.placed;
          removed = h.learned.removed;
          fresh = ap (λ (l : List Record). r ∷ l) h.learned.fresh;
          clear = ap (λ (l : List Record). not_clear r.task r.node l) h.learned.clear;
          kept = grown_then earlier.kept me.0.kept (marked_view me.0 a content).kept h.learned.kept
              (grown_by (record { node = a.place; content = Some (r ∷ content) }) me.0.kept (marked_view me.0 a content).kept refl);
          looks = h.learned.looks;
        };
      })

  -- Removing.
  pub may_remove : (t : ℕ) (e : Effect) (done : List ℕ) (turn : HeldTurn) → a.purpose ≡ Remove t e → a.stage ≡ Walks (a.place ∷ []) done → IsAmong (record_about a) content
      → turn_in earlier.floor.turns t ≡ Some turn → turn.first ≡ false → turn.row.status ≢ status.Enabled → MayUnmark me.0 a content
  may_remove t e done turn purpose stage there has taken inactive =
      let same : record_about a ≡ record_here t e a = ap (λ p. record_about (record { purpose = p; place = a.place; stage = a.stage })) purpose in
      record {
        task = t;
        effect = e;
        done = done;
        may = record {
          active = h.active;
          purpose = purpose;
          stage = stage;
          has = h.known;
          there = subst (λ (r : Record). IsAmong r content) same there;
          others = subst (λ (r : Record). IsWithout r content (without_record (record_about a) content)) same (without_is (record_about a) content);
          fresh_others = subst (λ (r : Record). IsWithout r me.0.fresh (without_record (record_about a) me.0.fresh)) same (without_is (record_about a) me.0.fresh);
          turn = turn;
          holds = turn_known earlier me.0 t turn h.learned has;
          taken = taken;
          inactive = inactive;
        };
      }

  pub removed_has : (after : TreeSeat) → after ≡ (unmarked_view me.0 a content, me.1)
      → HasNode lim (with_removed (record_about a) earlier) rest (stopped a) a.place (without_record (record_about a) content) after
  removed_has after is =
      let r = record_about a in
      subst (HasNode lim (with_removed r earlier) rest (stopped a) a.place (without_record r content)) (sym is)
      (record {
        active = refl;
        known = content_here a.place (Some (without_record r content)) me.0.kept;
        others = λ m other. content_else m a.place (Some (without_record r content)) me.0.kept other ∙ h.others m other;
        slots = h.slots;
        learned = record {
          floor = h.learned.floor;
          done = h.learned.done;
          waits = h.learned.waits;
          placed = h.learned.placed;
          removed = ap (λ (l : List Record). r ∷ l) h.learned.removed;
          fresh = ap (λ (l : List Record). without_record r l) h.learned.fresh;
          clear = ap (λ (l : List Record). r ∷ l) h.learned.clear;
          kept = grown_then earlier.kept me.0.kept (unmarked_view me.0 a content).kept h.learned.kept
              (grown_by (record { node = a.place; content = Some (without_record r content) }) me.0.kept (unmarked_view me.0 a content).kept refl);
          looks = h.learned.looks;
        };
      })

-- Not finding the record.
module _ (lim : Bounds) (earlier : TreeView) (rest : List (ℕ × TreeSlot)) (a : Activity) (content : List Record) (me : TreeSeat)
    (h : HasNode lim earlier rest a a.place content me) where
  pub may_clear : (turn : HeldTurn) → turn_in earlier.floor.turns (record_task a.purpose) ≡ Some turn → ¬ IsAmong (record_about a) content
      → FindsClear (turns_seen me.0) (tree_seen me.0) 0 (record_about a)
  may_clear turn has none = record { turn = (turn, turn_known earlier me.0 (record_task a.purpose) turn h.learned has); content = content; has = h.known; none = none }

  pub clear_has : (after : TreeSeat) → after ≡ (clear_view me.0 (record_about a), me.1) → HasNode lim (with_clear (record_about a) earlier) rest a a.place content after
  clear_has after is =
      subst (HasNode lim (with_clear (record_about a) earlier) rest a a.place content) (sym is)
      (record {
        active = h.active;
        known = h.known;
        others = h.others;
        slots = h.slots;
        learned = record {
          floor = h.learned.floor;
          done = h.learned.done;
          waits = h.learned.waits;
          placed = h.learned.placed;
          removed = h.learned.removed;
          fresh = h.learned.fresh;
          clear = ap (λ (l : List Record). record_about a ∷ l) h.learned.clear;
          kept = h.learned.kept;
          looks = h.learned.looks;
        };
      })
