-- The steps on records in the form in which the calls of the table ask for them.
use Rattle.std.proofs.Common.{◌≡◌, ◌<◌, ℕ, List, Some, sym, ap, ◌∙◌}
use mathlib.Core.Option as core
use Rattle.atomic_table.specs.Table.{Allows, step}
use Rattle.region_paths.specs.declared.elements.Elem.{Elem}
use Rattle.twe_base.specs.Limits.{Bounds}
use Rattle.twe_program.specs.Program.{Program}
use Rattle.floor_laws.proofs.rule.Puts.{some_one}
use Rattle.floor_laws.specs.admission.admission_core.States.{Activity, Record}
use Rattle.floor_laws.specs.rule.nodes.FactSteps.{FindsClear}
use Rattle.floor_laws.specs.declared.table.nodes.slot.TreeSlot.{TreeSlot}
use Rattle.floor_laws.specs.declared.table.nodes.view.TreeView.{TreeView}
use Rattle.floor_laws.specs.table.nodes.Holds.{TreeKeeps}
use Rattle.floor_laws.specs.table.nodes.Deciders.{MayDecide}
use Rattle.floor_laws.specs.table.nodes.Layout.{decider_place, lock_place, taken_lock, tree_slot_count}
use Rattle.floor_laws.specs.table.nodes.RecordSeats.{MarksClear, MarksPlaced, MarksRemoved, MayMark, MayUnmark, clear_view, marked_view, marks, marks_child, record_about, record_task, unmarked_view}
use Rattle.floor_laws.specs.table.nodes.Seats.{TreeSeat, tree_seen, turns_seen}
use Rattle.floor_laws.specs.table.nodes.TreeOf.{content_in}
use Rattle.floor_laws.proofs.table.nodes.Calls.{told}
use Rattle.floor_laws.proofs.table.nodes.Marks.{clear_allowed, mark_allowed, mark_past_allowed, unmark_allowed}

-- what a seat does, and the content that it knows of its place, are determined
mark_active : (nodes : List (List Elem)) (v : TreeView) (a : Activity) (content : List Record) → MayMark nodes v a content → v.activity ≡ Some a
mark_active nodes v a content (marks t e done may) = may.active
mark_active nodes v a content (marks_child c e done may) = may.active

mark_content : (nodes : List (List Elem)) (v : TreeView) (a : Activity) (content : List Record) → MayMark nodes v a content → content_in v.kept a.place ≡ Some content
mark_content nodes v a content (marks t e done may) = may.has
mark_content nodes v a content (marks_child c e done may) = may.has

same_mark : (view : Activity → List Record → TreeView) (mine : List (ℕ × TreeSlot)) (after : TreeSeat) (v : TreeView) (a b : Activity) (content other : List Record) → v.activity ≡ Some a → v.activity ≡ Some b
    → content_in v.kept a.place ≡ Some content → content_in v.kept b.place ≡ Some other → after ≡ (view a content, mine) → after ≡ (view b other, mine)
same_mark view mine after v a b content other one two has has_too is =
    let same : a ≡ b = some_one (sym one ∙ two) in
    let records : content ≡ other = some_one (sym has ∙ (ap (λ (x : Activity). content_in v.kept x.place) same ∙ has_too)) in
    is ∙ (λ k. (view (same k) (records k), mine))

pub mark_placed : (nodes : List (List Elem)) (p : Program) (lim : Bounds) (id : ℕ) (v : TreeView) (mine : List (ℕ × TreeSlot)) (a : Activity) (content : List Record) (said : ℕ)
    → record_task a.purpose < lim.tasks → MayDecide v (record_task a.purpose) a.place content said → MayMark nodes v a content
    → Allows (TreeKeeps nodes p lim) (tree_slot_count nodes lim) id (v, mine) (decider_place p lim (record_task a.purpose)) (λ x. said)
    (λ x. MarksPlaced nodes p lim (step (tree_slot_count nodes lim) (decider_place p lim (record_task a.purpose)) said 0 core.none) (v, mine) said)
mark_placed nodes p lim id v mine a content said few says may =
    told (TreeKeeps nodes p lim) (tree_slot_count nodes lim) id (v, mine) (decider_place p lim (record_task a.purpose)) (λ x. said) (λ x after. after ≡ (marked_view v a content, mine))
    (λ x. MarksPlaced nodes p lim (step (tree_slot_count nodes lim) (decider_place p lim (record_task a.purpose)) said 0 core.none) (v, mine) said)
    (λ found after is b other may_too.
    same_mark (marked_view v) mine after v a b content other (mark_active nodes v a content may) (mark_active nodes v b other may_too) (mark_content nodes v a content may) (mark_content nodes v b other may_too) is)
    (mark_allowed nodes p lim (tree_slot_count nodes lim) id v mine a content said few says may)

pub mark_placed_past : (nodes : List (List Elem)) (p : Program) (lim : Bounds) (id : ℕ) (v : TreeView) (mine : List (ℕ × TreeSlot)) (a : Activity) (content : List Record)
    → (record_task a.purpose < lim.tasks → ⊥) → MayMark nodes v a content
    → Allows (TreeKeeps nodes p lim) (tree_slot_count nodes lim) id (v, mine) (lock_place p lim a.place) (λ x. taken_lock v.floor.worker)
    (λ x. MarksPlaced nodes p lim (step (tree_slot_count nodes lim) (lock_place p lim a.place) (taken_lock v.floor.worker) 0 core.none) (v, mine) (taken_lock v.floor.worker))
mark_placed_past nodes p lim id v mine a content past may =
    told (TreeKeeps nodes p lim) (tree_slot_count nodes lim) id (v, mine) (lock_place p lim a.place) (λ x. taken_lock v.floor.worker) (λ x after. after ≡ (marked_view v a content, mine))
    (λ x. MarksPlaced nodes p lim (step (tree_slot_count nodes lim) (lock_place p lim a.place) (taken_lock v.floor.worker) 0 core.none) (v, mine) (taken_lock v.floor.worker))
    (λ found after is b other may_too.
    same_mark (marked_view v) mine after v a b content other (mark_active nodes v a content may) (mark_active nodes v b other may_too) (mark_content nodes v a content may) (mark_content nodes v b other may_too) is)
    (mark_past_allowed nodes p lim (tree_slot_count nodes lim) id v mine a content past may)

pub mark_removed : (nodes : List (List Elem)) (p : Program) (lim : Bounds) (id : ℕ) (v : TreeView) (mine : List (ℕ × TreeSlot)) (a : Activity) (content : List Record) → MayUnmark v a content
    → Allows (TreeKeeps nodes p lim) (tree_slot_count nodes lim) id (v, mine) (lock_place p lim a.place) (λ x. taken_lock v.floor.worker)
    (λ x. MarksRemoved p lim (step (tree_slot_count nodes lim) (lock_place p lim a.place) (taken_lock v.floor.worker) 0 core.none) (v, mine) (taken_lock v.floor.worker))
mark_removed nodes p lim id v mine a content may =
    told (TreeKeeps nodes p lim) (tree_slot_count nodes lim) id (v, mine) (lock_place p lim a.place) (λ x. taken_lock v.floor.worker) (λ x after. after ≡ (unmarked_view v a content, mine))
    (λ x. MarksRemoved p lim (step (tree_slot_count nodes lim) (lock_place p lim a.place) (taken_lock v.floor.worker) 0 core.none) (v, mine) (taken_lock v.floor.worker))
    (λ found after is b other place may_too. same_mark (unmarked_view v) mine after v a b content other may.may.active may_too.may.active may.may.has may_too.may.has is)
    (unmark_allowed nodes p lim (tree_slot_count nodes lim) id v mine a content may)

pub mark_clear : (nodes : List (List Elem)) (p : Program) (lim : Bounds) (id : ℕ) (v : TreeView) (mine : List (ℕ × TreeSlot)) (a : Activity) → v.activity ≡ Some a
    → FindsClear (turns_seen v) (tree_seen v) 0 (record_about a)
    → Allows (TreeKeeps nodes p lim) (tree_slot_count nodes lim) id (v, mine) (lock_place p lim a.place) (λ x. taken_lock v.floor.worker)
    (λ x. MarksClear p lim (step (tree_slot_count nodes lim) (lock_place p lim a.place) (taken_lock v.floor.worker) 0 core.none) (v, mine) (taken_lock v.floor.worker))
mark_clear nodes p lim id v mine a active finds =
    told (TreeKeeps nodes p lim) (tree_slot_count nodes lim) id (v, mine) (lock_place p lim a.place) (λ x. taken_lock v.floor.worker) (λ x after. after ≡ (clear_view v (record_about a), mine))
    (λ x. MarksClear p lim (step (tree_slot_count nodes lim) (lock_place p lim a.place) (taken_lock v.floor.worker) 0 core.none) (v, mine) (taken_lock v.floor.worker))
    (λ found after is b place active_too finds_too.
    let one : a ≡ b = some_one (sym active ∙ active_too) in
    is ∙ ap (λ (x : Activity). (clear_view v (record_about x), mine)) one)
    (clear_allowed nodes p lim (tree_slot_count nodes lim) id (record_about a) v mine finds)
