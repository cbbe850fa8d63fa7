-- What a worker may do at its place, and what it has then.
use Rattle.std.proofs.Common.{◌≡◌, ◌↔◌, ℕ, Bool, true, false, List, [], ◌∷◌, Some, None, refl, sym, ap, subst, ◌∙◌}
use Rattle.std.specs.List.{list_any}
use Rattle.region_paths.specs.declared.elements.Elem.{Elem}
use Rattle.effect_sets.specs.declared.effects.Effect.{Effect}
use Rattle.twe_base.specs.Limits.{Bounds}
use Rattle.floor_laws.specs.admission.admission_core.States.{Activity, IsAmong, Purpose, Record, Stage}
use Rattle.floor_laws.specs.rule.nodes.FactSteps.{FindsClear}
use Rattle.floor_laws.specs.rule.nodes.LockSteps.{stopped}
use Rattle.floor_laws.specs.declared.table.nodes.slot.Errand.{Errand}
use Rattle.floor_laws.specs.declared.table.nodes.slot.ErrandKind.{ErrandKind}
use Rattle.floor_laws.specs.declared.table.nodes.slot.ErrandKind.TheVariants.{Admission, Placing, Removal}
use Rattle.floor_laws.specs.declared.table.nodes.slot.TreeSlot.{TreeSlot}
use Rattle.floor_laws.specs.declared.table.nodes.view.TreeView.{TreeView}
use Rattle.floor_laws.specs.table.nodes.RecordSeats.{MayMark, MayUnmark, clear_view, marked_view, record_about, record_task, unmarked_view}
use Rattle.floor_laws.specs.table.nodes.Seats.{MayStop, TreeSeat, purpose_for, tree_seen, turns_seen}
use Rattle.floor_laws.specs.table.nodes.Without.{same_record, without_record}
use Rattle.floor_laws.proofs.table.nodes.Contents.{found_among}
use Rattle.tree_admit.specs.Going.{HasNode}
use Rattle.tree_admit.specs.Errands.{AllPass, KnowsErrand, errand_at, record_of, with_clear, with_placed, with_removed}
use Rattle.tree_admit.specs.Descents.{MayPutFor, MayTakeOutOf, walking}
use Rattle.tree_admit.proofs.Entering.{come_there, effect_is, has_effect}
use Rattle.tree_admit.proofs.Marks.{clear_has, may_clear, may_place, may_place_child, may_remove, placed_has, removed_has}
use Rattle.tree_admit.proofs.Steps.{may_stop}

-- the task of an errand is the one that its purpose is about
pub task_is : (kind : ErrandKind) (t : ℕ) (e : Effect) → record_task (purpose_for kind t e) ≡ t
task_is Admission t e = refl
task_is Placing t e = refl
task_is Removal t e = refl

module _ (errand : Errand) (e : Effect) (done : List ℕ) where
  -- at its place, alone
  abbrev pub at_place : Activity
  at_place = walking errand e (errand.place ∷ []) done

  pub about_is : record_about at_place ≡ record_of errand e
  about_is =
      let t = task_is errand.kind errand.task e in
      let f = effect_is errand.kind errand.task e in
      λ k. record { task = t k; effect = f k; node = errand.place }

  module _ (lim : Bounds) (earlier : TreeView) (rest : List (ℕ × TreeSlot)) (content : List Record) (me : TreeSeat) (has : HasNode lim earlier rest at_place errand.place content me) where
    pub place_stops : MayStop me.0 errand.place None
    place_stops = may_stop lim earlier rest at_place errand.place content me has [] refl

    -- Placing.
    mark_for : (nodes : List (List Elem)) (knows : KnowsErrand nodes earlier errand e) (kind : ErrandKind) → errand.kind ≡ kind
        → MayPutFor nodes kind me.0 errand.task e knows.turn errand.place done content → ¬ IsAmong (record_of errand e) content → MayMark nodes me.0 at_place content
    mark_for nodes knows Admission is may missing =
        let purpose = ap (λ (k : ErrandKind). purpose_for k errand.task e) is in
        may_place lim earlier rest at_place content me has nodes e done refl errand.task purpose missing (subst (λ (p : Purpose). AllPass me.0.waits p content) (sym purpose) may.0) may.1
    mark_for nodes knows Placing is may missing =
        may_place_child lim earlier rest at_place content me has nodes e done refl errand.task knows.turn (ap (λ (k : ErrandKind). purpose_for k errand.task e) is) missing knows.has may.0 may.1
        (has_effect knows.turn.row.effects.effects errand.effect e knows.effect)
    mark_for nodes knows Removal is may missing = absurd may

    pub may_mark : (nodes : List (List Elem)) (knows : KnowsErrand nodes earlier errand e) → MayPutFor nodes errand.kind me.0 errand.task e knows.turn errand.place done content
        → ¬ IsAmong (record_of errand e) content → MayMark nodes me.0 at_place content
    may_mark nodes knows may missing = mark_for nodes knows errand.kind refl may missing

    pub marked_has : (after : TreeSeat) → after ≡ (marked_view me.0 at_place content, me.1)
        → HasNode lim (with_placed (record_of errand e) earlier) rest (stopped at_place) errand.place (record_of errand e ∷ content) after
    marked_has after is =
        subst (λ (r : Record). HasNode lim (with_placed r earlier) rest (stopped at_place) errand.place (r ∷ content) after) about_is
        (placed_has lim earlier rest at_place content me has after is)

    -- Taking out.
    pub may_unmark : (nodes : List (List Elem)) (knows : KnowsErrand nodes earlier errand e) → errand.kind ≡ Removal → MayTakeOutOf knows.turn → IsAmong (record_of errand e) content
        → MayUnmark me.0 at_place content
    may_unmark nodes knows is may there =
        may_remove lim earlier rest at_place content me has errand.task e done knows.turn (ap (λ (k : ErrandKind). purpose_for k errand.task e) is) refl
        (subst (λ (r : Record). IsAmong r content) (sym about_is) there) knows.has may.0 may.1

    pub unmarked_has : (after : TreeSeat) → after ≡ (unmarked_view me.0 at_place content, me.1)
        → HasNode lim (with_removed (record_of errand e) earlier) rest (stopped at_place) errand.place (without_record (record_of errand e) content) after
    unmarked_has after is =
        subst (λ (r : Record). HasNode lim (with_removed r earlier) rest (stopped at_place) errand.place (without_record r content) after) about_is
        (removed_has lim earlier rest at_place content me has after is)

    pub may_find_clear : (nodes : List (List Elem)) (knows : KnowsErrand nodes earlier errand e) → ¬ IsAmong (record_of errand e) content
        → FindsClear (turns_seen me.0) (tree_seen me.0) 0 (record_about at_place)
    may_find_clear nodes knows none =
        may_clear lim earlier rest at_place content me has knows.turn (subst (λ (t : ℕ). turns_seen earlier 0 t ≡ Some knows.turn) (sym (task_is errand.kind errand.task e)) knows.has)
        (subst (λ (r : Record). ¬ IsAmong r content) (sym about_is) none)

    pub found_clear : (after : TreeSeat) → after ≡ (clear_view me.0 (record_about at_place), me.1)
        → HasNode lim (with_clear (record_of errand e) earlier) rest at_place errand.place content after
    found_clear after is =
        subst (λ (r : Record). HasNode lim (with_clear r earlier) rest at_place errand.place content after) about_is (clear_has lim earlier rest at_place content me has after is)

  -- Coming back.
  module _ (lim : Bounds) (earlier : TreeView) (rest : List (ℕ × TreeSlot)) (content : List Record) (me : TreeSeat) (has : HasNode lim earlier rest (stopped at_place) errand.place content me) where
    pub stopped_stops : MayStop me.0 errand.place None
    stopped_stops = may_stop lim earlier rest (stopped at_place) errand.place content me has [] refl

-- who has come to its place is there alone
pub arrived : (lim : Bounds) (earlier : TreeView) (rest : List (ℕ × TreeSlot)) (errand : Errand) (e : Effect) (content : List Record) (me : TreeSeat)
    → HasNode lim earlier rest (errand_at errand e errand.place) errand.place content me → HasNode lim earlier rest (walking errand e (errand.place ∷ []) []) errand.place content me
arrived lim earlier rest errand e content me has =
    subst (λ (s : Stage). HasNode lim earlier rest (record { purpose = purpose_for errand.kind errand.task e; place = errand.place; stage = s }) errand.place content me)
    (come_there errand.place errand.place refl) has

-- whether the record was found
pub was_found : (r : Record) (content : List Record) (found : Bool) → found ≡ list_any (λ x. same_record x r) content → found ≡ true → IsAmong r content
was_found r content found is true_is = (found_among r content).0 (sym is ∙ true_is)

pub was_missed : (r : Record) (content : List Record) (found : Bool) → found ≡ list_any (λ x. same_record x r) content → found ≡ false → ¬ IsAmong r content
was_missed r content found is false_is among = let true_is : found ≡ true = is ∙ (found_among r content).1 among in absurd (cc)

pub not_removed : (r : Record) (content : List Record) (was : Bool) → was ≡ false → (was ≡ true ↔ IsAmong r content) → ¬ IsAmong r content
not_removed r content was is_false there among = let is_true : was ≡ true = there.1 among in absurd (cc)
